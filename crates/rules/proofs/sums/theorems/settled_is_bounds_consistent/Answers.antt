use Rattle.rules.proofs.SumConsistent.{bounds_law}
use Rattle.rules.proofs.sums.theorems.settled_is_bounds_consistent.Goals as goal

pub returns : goal.returns
returns c = bounds_law c.args.row.now
