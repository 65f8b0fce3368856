-- A sheet by its title and the count of its lines.
use Rattle.std.specs.Prelude.{ℕ, cond, List, length, Some, None, Ok, Err, Option, Result, nat_lt}
use Rattle.std.specs.Borrow.{Bor}
use Rattle.text.specs.declared.fault.TextFault.{TextFault}
use Rattle.text.specs.declared.fault.TextFault.TheVariants.{TooBig}
use Rattle.text.specs.declared.fault.FieldFault.{FieldFault}
use Rattle.text.specs.declared.fault.FieldFault.TheVariants.{Text}
use Rattle.text.specs.Lines.{line_next, sheet_lines, counted, shown_option}
use Rattle.sheets.specs.declared.fault.SheetFault.{SheetFault}
use Rattle.sheets.specs.declared.fault.SheetFault.TheVariants.{Field, Title}
use Rattle.sheets.specs.declared.title.SpanKind.{SpanKind}
use Rattle.sheets.specs.declared.outline.Outline.{Outline}
use Rattle.sheets.specs.Titles.{title_of}

-- a fault of the text as a fault of a field, and of a field as a fault of the sheet
abbrev pub from_text : {X : Type 0} → Result X TextFault → Result X FieldFault
from_text (Ok x) = Ok x
from_text (Err fault) = Err (Text fault)

abbrev pub from_field : {X : Type 0} → Result X FieldFault → Result X SheetFault
from_field (Ok x) = Ok x
from_field (Err fault) = Err (Field fault)

-- the first line, if there is one; or the fault that comes before it is read
abbrev pub first_line_of : List ℕ → Result (Option (List ℕ)) FieldFault
first_line_of sheet = from_text (cond (nat_lt 65535 (length sheet)) (Err TooBig) (line_next 0 sheet).answer)

abbrev pub shown_first : Result (Option (Bor (List ℕ))) FieldFault → Result (Option (List ℕ)) FieldFault
shown_first (Ok line) = Ok (shown_option line)
shown_first (Err fault) = Err fault

-- how many lines there are, or the first fault of the text
abbrev pub line_total_of : List ℕ → Result ℕ FieldFault
line_total_of sheet = from_text (counted (sheet_lines sheet))

-- the outline of a sheet whose title names a kind
abbrev pub outlined : SpanKind → Result ℕ SheetFault → Result Outline SheetFault
outlined kind (Ok lines) = Ok (record { kind = kind; lines = lines })
outlined kind (Err fault) = Err fault

abbrev pub after_title : Result SpanKind SheetFault → List ℕ → Result Outline SheetFault
after_title (Ok kind) sheet = outlined kind (from_field (line_total_of sheet))
after_title (Err fault) sheet = Err fault

-- the title is checked once its line is read, and then the lines behind it
abbrev pub after_first : Result (Option (List ℕ)) FieldFault → List ℕ → Result Outline SheetFault
after_first (Ok None) sheet = Err Title
after_first (Ok (Some line)) sheet = after_title (title_of line) sheet
after_first (Err fault) sheet = Err (Field fault)

-- the outline of a sheet, or its first fault
abbrev pub outline_of : List ℕ → Result Outline SheetFault
outline_of sheet = after_first (first_line_of sheet) sheet
