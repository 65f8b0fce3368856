-- Checks in a row: the first fault ends them. Assumes nothing.
use Rattle.std.specs.Prelude.{ℕ, Ok, Err, Result}
use Rattle.text.specs.declared.fault.At.{At}
use Rattle.text.specs.declared.fault.FieldFault.{FieldFault}
use Rattle.sheets.specs.declared.fault.SheetFault.{SheetFault}
use Rattle.sheets.specs.declared.fault.SheetFault.TheVariants.{Field}

-- a field of a line
abbrev pub at : ℕ → ℕ → At
at line field = record { line = line; field = field }

-- go on with what was read, unless there is a fault
abbrev pub then : {A B E : Type 0} → Result A E → (A → Result B E) → Result B E
then (Ok a) next = next a
then (Err fault) next = Err fault

-- the same, where a fault of a field rises to one of the sheet
abbrev pub unless_fault : {A B : Type 0} → Result A FieldFault → (A → Result B SheetFault) → Result B SheetFault
unless_fault (Ok a) next = next a
unless_fault (Err fault) next = Err (Field fault)
