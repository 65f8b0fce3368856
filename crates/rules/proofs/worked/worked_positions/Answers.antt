use Rattle.rules.proofs.Working.{worked_law}
use Rattle.rules.proofs.worked.worked_positions.Goals as goal

pub returns : goal.returns
returns c = worked_law
