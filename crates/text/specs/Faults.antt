-- What is told of each fault.
use Rattle.std.specs.Prelude.{ℕ, List, ◌∷◌, ◌++◌}
use Rattle.std.specs.Fmt.{decimal}
use Rattle.text.specs.declared.fault.Told.{Told}
use Rattle.text.specs.declared.fault.TextFault.{TextFault}
use Rattle.text.specs.declared.fault.TextFault.TheVariants.{TooBig, Unended, TooLong}
use Rattle.text.specs.declared.fault.FieldFault.{FieldFault}
use Rattle.text.specs.declared.fault.FieldFault.TheVariants.{Text, Malformed, OutOfRange}

-- a fault's number, its line (from 1; 0 for the sheet as a whole) and its field (from 0)
abbrev pub told_at : ℕ → ℕ → ℕ → Told
told_at number line field = record { number = number; line = line; field = field }

-- the faults of a sheet's text: 1, 2 and 3
abbrev pub text_told : TextFault → Told
text_told TooBig = told_at 1 0 0
text_told (Unended line) = told_at 2 line 0
text_told (TooLong line) = told_at 3 line 0

-- the faults of a field: 4 and 5, and those of the text, with line and field kept
abbrev pub field_told : FieldFault → Told
field_told (Text fault) = text_told fault
field_told (Malformed at) = told_at 4 at.line at.field
field_told (OutOfRange at) = told_at 5 at.line at.field

-- what is told is written as the number, the line and the field, with tabs between
abbrev pub told_text : Told → List ℕ
told_text t = decimal t.number ++ 9 ∷ decimal t.line ++ 9 ∷ decimal t.field
