use Rattle.records.specs.Names.{named}
use Rattle.records.proofs.Pairing.{apart_made}
use Rattle.records.proofs.two.read_apart.Goals as goal

pub unwrap-row-requires : goal.unwrap-row-requires
unwrap-row-requires c = apart_made (named c.args.names) c.args.line _ c.args.first.now c.args.second.now c.in_ok-two.two c.count.ensures c.in_ok-two.ensures _ c.new.ensures
