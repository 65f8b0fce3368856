use Rattle.rules.proofs.ChoiceLaws.{row_sound, arc_law}
use Rattle.rules.proofs.choices.row.ChoiceRowRow.lawful.Goals as goal

pub returns : goal.returns
returns c = record { sound = row_sound; settled = arc_law }
