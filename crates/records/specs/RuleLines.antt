-- Rule lines, and the spans that place lines open. Assumes nothing.
use Rattle.std.specs.Prelude.{ℕ, Bool, false, ◌&&◌, List, ℤ, pos, negsuc, Some, None, Ok, Err, Option, Result, nat_lt}
use Rattle.spans.specs.Amounts.{from_to}
use Rattle.spans.specs.Bounds.{bounded}
use Rattle.spans.specs.Masks.{tokens}
use Rattle.text.specs.Fields.{fields_of}
use Rattle.sheets.specs.declared.fault.SheetFault.{SheetFault}
use Rattle.sheets.specs.declared.fault.SheetFault.TheVariants as fault
use Rattle.sheets.specs.declared.title.SpanKind.{SpanKind}
use Rattle.sheets.specs.declared.title.SpanKind.TheVariants.{Amounts, Choices}
use Rattle.records.specs.declared.record.Word.{Word}
use Rattle.records.specs.declared.record.Word.TheVariants.{Title, Place, Sum, Pair, Apart}
use Rattle.records.specs.declared.places.Opening.{Opening}
use Rattle.records.specs.declared.places.Opening.TheVariants.{Amount, Tokens}
use Rattle.records.specs.Words.{word_of}
use Rattle.records.specs.Records.{Fielded, title, place, sum, pair, apart, head, counted}
use Rattle.records.specs.Places as places
use Rattle.records.specs.Rules.{Row}
use Rattle.records.specs.Sums.{sum_fields}
use Rattle.records.specs.Between.{pair_fields, apart_fields}

-- the row of a sum record; 8 where there is none
abbrev pub sum_record : List places.Place → ℕ → Option Fielded → Result Row SheetFault
sum_record ps line None = Err (fault.Count line)
sum_record ps line (Some (sum relation bound terms)) = sum_fields ps line relation bound terms
sum_record ps line (Some (title sheet span)) = Err (fault.Count line)
sum_record ps line (Some (place name numbers)) = Err (fault.Count line)
sum_record ps line (Some (pair first second pairs)) = Err (fault.Count line)
sum_record ps line (Some (apart first second)) = Err (fault.Count line)

-- the row of a pair record; 8 where there is none
abbrev pub pair_record : List places.Place → ℕ → Option Fielded → Result Row SheetFault
pair_record ps line None = Err (fault.Count line)
pair_record ps line (Some (pair first second pairs)) = pair_fields ps line first second pairs
pair_record ps line (Some (title sheet span)) = Err (fault.Count line)
pair_record ps line (Some (place name numbers)) = Err (fault.Count line)
pair_record ps line (Some (sum relation bound terms)) = Err (fault.Count line)
pair_record ps line (Some (apart first second)) = Err (fault.Count line)

-- the row of an apart record; 8 where there is none
abbrev pub apart_record : List places.Place → ℕ → Option Fielded → Result Row SheetFault
apart_record ps line None = Err (fault.Count line)
apart_record ps line (Some (apart first second)) = apart_fields ps line first second
apart_record ps line (Some (title sheet span)) = Err (fault.Count line)
apart_record ps line (Some (place name numbers)) = Err (fault.Count line)
apart_record ps line (Some (sum relation bound terms)) = Err (fault.Count line)
apart_record ps line (Some (pair first second pairs)) = Err (fault.Count line)

-- lines with a rule's word, by their fields: the count of fields is checked, and then each field from the left
abbrev pub sum_line_of : List places.Place → ℕ → List (List ℕ) → Result Row SheetFault
sum_line_of ps line fields = sum_record ps line (counted Amounts Sum fields)

abbrev pub pair_line_of : List places.Place → ℕ → List (List ℕ) → Result Row SheetFault
pair_line_of ps line fields = pair_record ps line (counted Choices Pair fields)

abbrev pub apart_line_of : List places.Place → ℕ → List (List ℕ) → Result Row SheetFault
apart_line_of ps line fields = apart_record ps line (counted Choices Apart fields)

-- a line by its word: 7 where that is no rule's word, or one of the other kind of sheet
abbrev pub rule_by : SpanKind → List places.Place → ℕ → List (List ℕ) → Option Word → Result Row SheetFault
rule_by kind ps line fields None = Err (fault.Word line)
rule_by kind ps line fields (Some Title) = Err (fault.Word line)
rule_by kind ps line fields (Some Place) = Err (fault.Word line)
rule_by Amounts ps line fields (Some Sum) = sum_line_of ps line fields
rule_by Amounts ps line fields (Some Pair) = Err (fault.Word line)
rule_by Amounts ps line fields (Some Apart) = Err (fault.Word line)
rule_by Choices ps line fields (Some Sum) = Err (fault.Word line)
rule_by Choices ps line fields (Some Pair) = pair_line_of ps line fields
rule_by Choices ps line fields (Some Apart) = apart_line_of ps line fields

-- the row of a rule line that may use the names of the places given, or the line's first fault
abbrev pub rule_line_of : SpanKind → List places.Place → ℕ → List ℕ → Result Row SheetFault
rule_line_of kind ps line bytes = rule_by kind ps line (fields_of bytes) (word_of (head (fields_of bytes)))

-- an answer by what its row holds
abbrev pub shown_rule : {R : Type 0} → (R → Row) → Result R SheetFault → Result Row SheetFault
shown_rule holds (Ok row) = Ok (holds row)
shown_rule holds (Err fault) = Err fault

-- x is one of the first tokens, so many
abbrev pub is_first : ℕ → ℤ → Bool
is_first count (pos t) = nat_lt t tokens && nat_lt t count
is_first count (negsuc n) = false

-- a place of a sheet of the kind has the number x at the opening: one from the floor to the ceiling, or one of the first tokens
abbrev pub opens : SpanKind → Opening → ℤ → Bool
opens Amounts (Amount floor ceiling) x = bounded floor ceiling && from_to floor ceiling x
opens Amounts (Tokens count) x = false
opens Choices (Amount floor ceiling) x = false
opens Choices (Tokens count) x = is_first count x
