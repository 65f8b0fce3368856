-- What is told of each fault of a sheet.
use Rattle.text.specs.declared.fault.Told.{Told}
use Rattle.text.specs.Faults.{told_at, field_told}
use Rattle.sheets.specs.declared.fault.SheetFault.{SheetFault}
use Rattle.sheets.specs.declared.fault.SheetFault.TheVariants.{Field, Title, Word, Count, Name, Full, NoPlace}

-- the faults of a sheet: 6 to 11; the faults of fields and text keep their number, line and field
abbrev pub sheet_told : SheetFault → Told
sheet_told (Field fault) = field_told fault
sheet_told Title = told_at 6 1 0
sheet_told (Word line) = told_at 7 line 0
sheet_told (Count line) = told_at 8 line 0
sheet_told (Name at) = told_at 9 at.line at.field
sheet_told (Full line) = told_at 10 line 0
sheet_told (NoPlace line) = told_at 11 line 0
