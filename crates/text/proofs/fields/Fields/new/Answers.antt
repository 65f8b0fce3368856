use Rattle.std.proofs.Common.{refl}
use Rattle.text.proofs.Cutting.{parts_law}
use Rattle.text.proofs.fields.Fields.new.Goals as goal

pub returns : goal.returns
returns c = record { left = refl; law = parts_law 9 c.args.line.now }
