use Rattle.rules.proofs.ChoiceLaws.{arc_law}
use Rattle.rules.proofs.choices.arc.arc_consistency.Goals as goal

pub returns : goal.returns
returns c = arc_law
