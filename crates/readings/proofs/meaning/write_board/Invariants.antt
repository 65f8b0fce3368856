use Rattle.std.proofs.Common.{◌≡◌, min, map, length, take}
use Rattle.records.specs.Places.{place_shown}
use Rattle.readings.specs.Books.{Opened}
use Rattle.readings.proofs.meaning.write_board.Given as goal

-- the board has the opening spans of the places so far
abbrev pub invariant-loop-i : goal.invariant-loop-i
invariant-loop-i g l = Opened g.R.Span.Span.kind g.R.RuleRow.sheets (take l.i (map place_shown l.sheet.places.now)) l.initial.board l.board × (l.i-end ≡ min (length l.sheet.places.now) (length l.initial.board))
