use Rattle.rules.proofs.SumConsistent.{exact_law}
use Rattle.rules.proofs.sums.theorems.answers_are_exact.Goals as goal

pub returns : goal.returns
returns c = exact_law c.args.row.now
