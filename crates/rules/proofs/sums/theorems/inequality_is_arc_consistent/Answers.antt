use Rattle.rules.proofs.SumConsistent.{arc_law}
use Rattle.rules.proofs.sums.theorems.inequality_is_arc_consistent.Goals as goal

pub returns : goal.returns
returns c = arc_law c.args.row.now
