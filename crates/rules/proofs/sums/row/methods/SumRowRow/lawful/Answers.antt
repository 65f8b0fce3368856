use Rattle.rules.specs.declared.sums.row.SumRow.{SumRow}
use Rattle.rules.proofs.SumLaws.{row_sound}
use Rattle.rules.proofs.SumConsistent.{bounds_law}
use Rattle.rules.proofs.sums.row.methods.SumRowRow.lawful.Goals as goal

pub returns : goal.returns
returns c = record { sound = row_sound; settled = λ (row : SumRow). (bounds_law row).settled }
