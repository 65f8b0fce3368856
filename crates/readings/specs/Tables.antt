-- Tables of places and rules, before and after a sheet is read into them. Assumes nothing.
use Rattle.std.specs.Prelude.{◌≡◌, ℕ, ◌+◌, ◌≤◌, cond, List, [], ◌∷◌, ◌++◌, length, take, drop, Some, None, Ok, Err, Option, Result}
use Rattle.std.specs.Borrow.{Bor}
use Rattle.sheets.specs.declared.fault.SheetFault.{SheetFault}
use Rattle.sheets.specs.declared.title.SpanKind.{SpanKind}
use Rattle.text.specs.declared.lines.Lines.{Lines}
use Rattle.sheets.specs.declared.fault.SheetFault.TheVariants.{Title}
use Rattle.records.specs.declared.kind.SheetKind.{SheetKind}
use Rattle.text.specs.declared.fault.TextFault.TheVariants.{TooLong, Unended}
use Rattle.records.specs.Titles.{title_checked}
use Rattle.records.specs.Places.{Place}
use Rattle.records.specs.Rules.{Row}
use Rattle.readings.specs.Lines.{Line, whole, long, unended, lines_left}
use Rattle.readings.specs.Readings.{Reading, is_place_line, rules_from, places_from, rule_room, place_room, text_fault}
use Rattle.readings.specs.declared.reading.Counts.{Counts}

-- a table whose first entries are filled with these; the rest stays
abbrev pub laid : {X : Type 0} → List X → List X → List X
laid xs table = xs ++ drop (length xs) table

-- the rules of the lines that a reader has left, read into a table of so many entries
abbrev pub rules_ahead : SpanKind → (entries : ℕ) → List Place → Lines → Reading
rules_ahead kind entries ps lines = rules_from kind (rule_room entries) ps lines.read [] (lines_left lines)

-- the first line's bytes, where it is a place line
abbrev pub first_place : List Line → Option (List ℕ)
first_place [] = None
first_place (whole bytes ∷ lines) = cond (is_place_line (whole bytes)) (Some bytes) None
first_place (long ∷ lines) = None
first_place (unended ∷ lines) = None

-- the lines behind it; all of them where it is no place line
abbrev pub after_place : List Line → List Line
after_place [] = []
after_place (line ∷ lines) = cond (is_place_line line) lines (line ∷ lines)

-- how many lines are read then
abbrev pub read_place : ℕ → List Line → ℕ
read_place read [] = read
read_place read (line ∷ lines) = cond (is_place_line line) (read + 1) read

abbrev pub shown_bytes : Option (Bor (List ℕ)) → Option (List ℕ)
shown_bytes None = None
shown_bytes (Some bytes) = Some bytes.now

-- an answer by a reading: what is asked of it, or its fault
abbrev pub answered : {X : Type 0} → X → Option SheetFault → Result X SheetFault
answered x None = Ok x
answered x (Some fault) = Err fault

-- the places of the lines that a reader has left, and the rules that follow them, read into tables of so many entries
abbrev pub places_ahead : SpanKind → (places rules : ℕ) → Lines → Reading
places_ahead kind places rules lines = places_from kind (place_room places) (rule_room rules) lines.read [] (lines_left lines)

-- the place lines that a reader has left are read into a table: up to a fault; or all of them, so many, and then the rules of
-- the lines left after them are the rules of all
abbrev pub PlacesFilled : SpanKind → (rules : ℕ) → List Place → Lines → Result ℕ SheetFault → List Place → Lines → Type 0
PlacesFilled kind rules old lines (Err f) new after =
    let reading = places_ahead kind (length old) rules lines in
    (reading.fault ≡ Some f) × (reading.rules ≡ []) × (new ≡ laid reading.places old)
PlacesFilled kind rules old lines (Ok count) new after =
    (places_ahead kind (length old) rules lines ≡ rules_ahead kind rules (take count new) after) × (count ≤ place_room (length old)) × (drop count new ≡ drop count old)

-- the first of the lines is the title asked for, after so many lines; 6 where there is none
abbrev pub title_answer : SheetKind → SpanKind → ℕ → List Line → Result (Unit {0}) SheetFault
title_answer sheet kind read [] = Err Title
title_answer sheet kind read (whole bytes ∷ lines) = title_checked sheet kind bytes
title_answer sheet kind read (long ∷ lines) = Err (text_fault (TooLong (read + 1)))
title_answer sheet kind read (unended ∷ lines) = Err (text_fault (Unended (read + 1)))

-- how many places and rules are read
abbrev pub counts_of : Reading → Counts
counts_of reading = record { places = length reading.places; rules = length reading.rules }

-- what is read is told, and written into tables that show these places and rules before it and those after it
pub record Filled (reading : Reading) (answer : Result Counts SheetFault) (places : List Place) (rules : List Row) (places-after : List Place) (rules-after : List Row) : Type 0 where
  pub told : answer ≡ answered (counts_of reading) reading.fault
  pub places_are : places-after ≡ laid reading.places places
  pub rules_are : rules-after ≡ laid reading.rules rules
