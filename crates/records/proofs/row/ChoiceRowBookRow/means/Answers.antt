use Rattle.records.proofs.Meaning.{choice_means}
use Rattle.records.proofs.row.ChoiceRowBookRow.means.Goals as goal

pub returns : goal.returns
returns c = choice_means
