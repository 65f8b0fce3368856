use Rattle.std.proofs.Common.{◌≡◌, length}
use Rattle.text.specs.Parts.{cut_at}
use Rattle.text.specs.Lines.{left, lines_in}
use Rattle.text.proofs.Counting.{total}
use Rattle.text.proofs.lines.walk.line_count.Given as goal

-- the lines read and those left come to the sheet's
abbrev pub invariant-loop : goal.invariant-loop
invariant-loop l = total l.lines.read (lines_in l.lines.read (cut_at 10 (left l.lines))) ≡ total 0 (lines_in 0 (cut_at 10 l.sheet))

abbrev pub decreases-loop : goal.decreases-loop
decreases-loop l = length (left l.lines)
