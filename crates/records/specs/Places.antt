-- Places, as place lines declare them. Assumes nothing.
use Rattle.std.specs.Prelude.{ℕ, Bool, cond, List, ℤ, pos, negsuc, Some, None, Ok, Err, Option, Result}
use Rattle.std.specs.List.{list_any}
use Rattle.text.specs.declared.fault.FieldFault.{FieldFault}
use Rattle.text.specs.Fields.{fields_of, others}
use Rattle.text.specs.Names.{name_at, same_name}
use Rattle.text.specs.Numbers.{number_in}
use Rattle.sheets.specs.declared.fault.SheetFault.{SheetFault}
use Rattle.sheets.specs.declared.fault.SheetFault.TheVariants.{Count, Name}
use Rattle.sheets.specs.declared.title.SpanKind.{SpanKind}
use Rattle.sheets.specs.declared.title.SpanKind.TheVariants.{Amounts, Choices}
use Rattle.records.specs.declared.record.Word.TheVariants as word
use Rattle.records.specs.declared.places.Opening.{Opening}
use Rattle.records.specs.declared.places.Opening.TheVariants.{Amount, Tokens}
use Rattle.records.specs.declared.places.PlaceRow.{PlaceRow}
use Rattle.records.specs.Records.{Fielded, title, place, sum, pair, apart, head, counted}
use Rattle.records.specs.Numbers.{count_within}
use Rattle.records.specs.Steps.{at, unless_fault, then}

-- a place: its name, and what may lie there at the opening
pub record Place : Type 0 where
  pub name : List ℕ
  pub opening : Opening

abbrev pub place_shown : PlaceRow → Place
place_shown row = record { name = row.name.now; opening = row.opening }

-- the place has the name
abbrev pub has_name : List ℕ → Place → Bool
has_name name p = same_name p.name name

-- one of the places has the name
abbrev pub declares : List Place → List ℕ → Bool
declares ps name = list_any (has_name name) ps

-- the range of floors and ceilings
abbrev pub least : ℤ
least = negsuc 999_999

abbrev pub most : ℤ
most = pos 1_000_000

-- what the numbers of a place line open: a floor and a ceiling not below it, or a count of tokens
abbrev pub opening_of : SpanKind → ℕ → List (List ℕ) → Result Opening FieldFault
opening_of Amounts line numbers =
    then (number_in least most (at line 2) (head numbers))
    (λ floor. then (number_in floor most (at line 3) (head (others numbers)))
    (λ ceiling. Ok (Amount floor ceiling)))
opening_of Choices line numbers = then (count_within 1 64 (at line 2) (head numbers)) (λ count. Ok (Tokens count))

-- the place of a record, its fields checked from the left
abbrev pub place_record : SpanKind → List Place → ℕ → Option Fielded → Result Place SheetFault
place_record kind ps line None = Err (Count line)
place_record kind ps line (Some (place field numbers)) =
    unless_fault (name_at (at line 1) field)
    (λ name. cond (declares ps name) (Err (Name (at line 1)))
    (unless_fault (opening_of kind line numbers)
    (λ opening. Ok (record { name = name; opening = opening }))))
place_record kind ps line (Some (title sheet span)) = Err (Count line)
place_record kind ps line (Some (sum relation bound terms)) = Err (Count line)
place_record kind ps line (Some (pair first second pairs)) = Err (Count line)
place_record kind ps line (Some (apart first second)) = Err (Count line)

-- the place of a place line after the places given, or the line's first fault
abbrev pub place_line : SpanKind → List Place → ℕ → List ℕ → Result Place SheetFault
place_line kind ps line bytes = place_record kind ps line (counted kind word.Place (fields_of bytes))

abbrev pub shown_place : Result PlaceRow SheetFault → Result Place SheetFault
shown_place (Ok row) = Ok (place_shown row)
shown_place (Err fault) = Err fault
