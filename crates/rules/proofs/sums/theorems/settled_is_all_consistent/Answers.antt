use Rattle.rules.proofs.SumConsistent.{settled_law}
use Rattle.rules.proofs.sums.theorems.settled_is_all_consistent.Goals as goal

pub returns : goal.returns
returns c = settled_law c.args.book.now.places c.args.book.now.rows.now
