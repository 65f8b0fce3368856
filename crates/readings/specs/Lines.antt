-- A sheet as lines, the one with a fault among them. Assumes nothing.
use Rattle.std.specs.Prelude.{ℕ, ◌+◌, cond, List, [], ◌∷◌, length, Some, None, Ok, Err, Option, Result, ◌==◌, nat_lt}
use Rattle.std.specs.Borrow.{Bor}
use Rattle.text.specs.declared.fault.TextFault.{TextFault}
use Rattle.text.specs.declared.fault.TextFault.TheVariants.{Unended, TooLong}
use Rattle.text.specs.declared.fault.FieldFault.{FieldFault}
use Rattle.text.specs.declared.fault.FieldFault.TheVariants.{Text}
use Rattle.text.specs.declared.lines.Lines.{Lines}
use Rattle.text.specs.Lines.{left, shown_option}
use Rattle.text.specs.Parts.{cut_at}

-- a line: ended by byte 10, or with more than 1,024 bytes before its end, or without its end
pub data Line : Type 0 where
  whole : List ℕ → Line
  long : Line
  unended : Line

-- the lines among the parts of a sheet: the last part is a line without its end, unless it is empty
abbrev pub lines_from : List (List ℕ) → List Line
lines_from [] = []
lines_from (part ∷ []) = cond (length part == 0) [] (cond (nat_lt 1024 (length part)) long unended ∷ [])
lines_from (part ∷ (next ∷ parts)) = cond (nat_lt 1024 (length part)) long (whole part) ∷ lines_from (next ∷ parts)

-- the lines of a sheet
abbrev pub lines_of : List ℕ → List Line
lines_of sheet = lines_from (cut_at 10 sheet)

-- the lines that a reader has yet to read
abbrev pub lines_left : Lines → List Line
lines_left reader = lines_of (left reader)

-- what a reader answers that has read so many lines and has these left
abbrev pub next_of : ℕ → List Line → Result (Option (List ℕ)) TextFault
next_of read [] = Ok None
next_of read (whole bytes ∷ lines) = Ok (Some bytes)
next_of read (long ∷ lines) = Err (TooLong (read + 1))
next_of read (unended ∷ lines) = Err (Unended (read + 1))

-- the lines left after that answer
abbrev pub lines_after : List Line → List Line
lines_after [] = []
lines_after (whole bytes ∷ lines) = lines
lines_after (long ∷ lines) = long ∷ lines
lines_after (unended ∷ lines) = unended ∷ lines

-- how many lines are read after it
abbrev pub read_after : ℕ → List Line → ℕ
read_after read [] = read
read_after read (whole bytes ∷ lines) = read + 1
read_after read (long ∷ lines) = read
read_after read (unended ∷ lines) = read

-- a fault of the text rises to one of a field
abbrev pub raised : {X : Type 0} → Result X TextFault → Result X FieldFault
raised (Ok x) = Ok x
raised (Err fault) = Err (Text fault)

-- an answer with its line by its bytes
abbrev pub shown_next : Result (Option (Bor (List ℕ))) FieldFault → Result (Option (List ℕ)) FieldFault
shown_next (Ok line) = Ok (shown_option line)
shown_next (Err fault) = Err fault
