use Rattle.records.proofs.Naming.{first_places}
use Rattle.records.proofs.names.Names.new.Goals as goal

pub returns : goal.returns
returns c = first_places c.args.places.now c.min-count.result c.min-count.ensures
