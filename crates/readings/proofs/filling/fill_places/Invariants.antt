use Rattle.std.proofs.Common.{◌≡◌, ℕ, ◌≤◌, map, length, take, drop}
use Rattle.records.specs.Places.{place_shown}
use Rattle.readings.specs.Lines.{lines_left}
use Rattle.readings.specs.Readings.{places_from, place_room, rule_room}
use Rattle.readings.specs.Tables.{places_ahead}
use Rattle.readings.proofs.filling.fill_places.Given as goal

-- the lines that are left, behind the places that are written, come to what all lines come to; the entries past those stay
abbrev pub invariant-loop-line : goal.invariant-loop-line
invariant-loop-line l =
    ((rules : ℕ) → places_from l.kind (place_room (length (map place_shown l.initial.places))) (rule_room rules) l.lines.read (take l.count (map place_shown l.places)) (lines_left l.lines) ≡ places_ahead l.kind (length (map place_shown l.initial.places)) rules l.initial.lines)
    × (drop l.count (map place_shown l.places) ≡ drop l.count (map place_shown l.initial.places))
    × (l.count ≤ length l.places)
    × (length l.places ≡ length l.initial.places)
    × (l.count ≤ 254)

abbrev pub decreases-loop-line : goal.decreases-loop-line
decreases-loop-line l = length (lines_left l.lines)
