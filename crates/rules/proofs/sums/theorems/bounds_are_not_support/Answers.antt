use Rattle.rules.proofs.SumExample.{even_law}
use Rattle.rules.proofs.sums.theorems.bounds_are_not_support.Goals as goal

pub returns : goal.returns
returns c = even_law
