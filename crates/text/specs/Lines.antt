-- A sheet as lines.
use Rattle.std.specs.Prelude.{◌≡◌, ℕ, ◌+◌, ◌≤◌, cond, ◌↔◌, List, [], ◌∷◌, ◌++◌, length, drop, Some, None, Ok, Err, Option, Result, nat_lt}
use Rattle.std.specs.Borrow.{Bor}
use Rattle.std.specs.List.{AllByRecursion}
use Rattle.std.specs.Option.{option_copied}
use Rattle.text.specs.declared.fault.TextFault.{TextFault}
use Rattle.text.specs.declared.fault.TextFault.TheVariants.{TooBig, Unended, TooLong}
use Rattle.text.specs.declared.lines.Lines.{Lines}
use Rattle.text.specs.Parts.{Lacks, cut_at, joined_by}

-- the bytes of the sheet that a reader has yet to read
abbrev pub left : Lines → List ℕ
left reader = drop reader.offset reader.sheet.now

-- one call of a reader: what it answers, what it has yet to read and how many lines it has read
pub record Step : Type 0 where
  pub answer : Result (Option (List ℕ)) TextFault
  pub left : List ℕ
  pub read : ℕ

-- a call that leaves the reader where it was
abbrev pub stay : Result (Option (List ℕ)) TextFault → ℕ → List ℕ → Step
stay answer read left = record { answer = answer; left = left; read = read }

-- a last part is no line: it is empty at the sheet's end, or it lacks its end
abbrev pub end_step : ℕ → List ℕ → List ℕ → Step
end_step read left [] = stay (Ok None) read left
end_step read left (b ∷ bs) = stay (Err (Unended (read + 1))) read left

-- by the parts of what is left, cut at byte 10: a first part that another part follows is the next line
abbrev pub step_of : ℕ → List ℕ → List (List ℕ) → Step
step_of read left [] = stay (Ok None) read left
step_of read left (line ∷ []) = cond (nat_lt 1024 (length line)) (stay (Err (TooLong (read + 1))) read left) (end_step read left line)
step_of read left (line ∷ (next ∷ more)) = cond (nat_lt 1024 (length line)) (stay (Err (TooLong (read + 1))) read left) (record { answer = Ok (Some line); left = joined_by 10 (next ∷ more); read = read + 1 })

-- the next line of what is left after `read` lines
abbrev pub line_next : ℕ → List ℕ → Step
line_next read left = step_of read left (cut_at 10 left)

-- a line, if there is one, by its bytes
abbrev pub shown_option : Option (Bor (List ℕ)) → Option (List ℕ)
shown_option line = option_copied line

-- an answer with its line by its bytes
abbrev pub shown_line : Result (Option (Bor (List ℕ))) TextFault → Result (Option (List ℕ)) TextFault
shown_line (Ok line) = Ok (shown_option line)
shown_line (Err fault) = Err fault

-- fault 1, for more than 65,535 bytes
abbrev pub size_checked : List ℕ → Result (Unit {0}) TextFault
size_checked sheet = cond (nat_lt 65535 (length sheet)) (Err TooBig) (Ok tt)

-- no line follows, unless one lacks its end
abbrev pub ending : ℕ → List ℕ → Result (List (List ℕ)) TextFault
ending read [] = Ok []
ending read (b ∷ bs) = Err (Unended (read + 1))

-- a line put in front of those that follow it
abbrev pub infront : List ℕ → Result (List (List ℕ)) TextFault → Result (List (List ℕ)) TextFault
infront line (Ok lines) = Ok (line ∷ lines)
infront line (Err fault) = Err fault

-- a part is a line if another part follows it
abbrev pub line_then : ℕ → List ℕ → List (List ℕ) → Result (List (List ℕ)) TextFault → Result (List (List ℕ)) TextFault
line_then read line [] lines = ending read line
line_then read line (next ∷ more) lines = infront line lines

-- the lines among the parts that follow `read` lines, or the first fault
abbrev pub lines_in : ℕ → List (List ℕ) → Result (List (List ℕ)) TextFault
lines_in read [] = Ok []
lines_in read (line ∷ parts) = cond (nat_lt 1024 (length line)) (Err (TooLong (read + 1))) (line_then read line parts (lines_in (read + 1) parts))

-- the lines of a sheet, or its first fault
abbrev pub sheet_lines : List ℕ → Result (List (List ℕ)) TextFault
sheet_lines sheet = cond (nat_lt 65535 (length sheet)) (Err TooBig) (lines_in 0 (cut_at 10 sheet))

-- how many lines there are
abbrev pub counted : Result (List (List ℕ)) TextFault → Result ℕ TextFault
counted (Ok lines) = Ok (length lines)
counted (Err fault) = Err fault

-- the lines, each followed by byte 10
abbrev pub ended : List (List ℕ) → List ℕ
ended [] = []
ended (line ∷ lines) = line ++ (10 ∷ ended lines)

-- what makes a list of lines the lines of a sheet without a fault
pub record Lined (sheet : List ℕ) (lines : List (List ℕ)) : Type 0 where
  pub small : length sheet ≤ 65535
  pub short : AllByRecursion (λ line. length line ≤ 1024) lines
  pub plain : AllByRecursion (Lacks 10) lines
  pub join : ended lines ≡ sheet

-- a sheet has no fault exactly where there are such lines, and then they are those that are read
abbrev pub LinesLaw : List ℕ → Type 0
LinesLaw sheet = (lines : List (List ℕ)) → (sheet_lines sheet ≡ Ok lines) ↔ Lined sheet lines
