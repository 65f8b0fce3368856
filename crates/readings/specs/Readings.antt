-- What is read of a sheet. Assumes nothing.
use Rattle.std.specs.Prelude.{ℕ, ◌+◌, min, Bool, true, false, cond, List, [], ◌∷◌, ◌++◌, length, Some, None, Ok, Err, Option, Result, nat_lt}
use Rattle.text.specs.declared.fault.TextFault.{TextFault}
use Rattle.text.specs.declared.fault.TextFault.TheVariants.{TooBig, Unended, TooLong}
use Rattle.text.specs.declared.fault.FieldFault.TheVariants.{Text}
use Rattle.text.specs.Fields.{fields_of}
use Rattle.sheets.specs.declared.fault.SheetFault.{SheetFault}
use Rattle.sheets.specs.declared.fault.SheetFault.TheVariants as fault
use Rattle.sheets.specs.declared.title.SpanKind.{SpanKind}
use Rattle.records.specs.declared.kind.SheetKind.{SheetKind}
use Rattle.records.specs.declared.kind.SheetKind.TheVariants.{Game, Expansion}
use Rattle.records.specs.declared.record.Word.{Word}
use Rattle.records.specs.declared.record.Word.TheVariants as word
use Rattle.records.specs.Words.{word_of}
use Rattle.records.specs.Records.{head}
use Rattle.records.specs.Places.{Place, place_line}
use Rattle.records.specs.Rules.{Row}
use Rattle.records.specs.RuleLines.{rule_line_of}
use Rattle.records.specs.Steps.{then}
use Rattle.records.specs.Titles.{title_checked}
use Rattle.readings.specs.Lines.{Line, whole, long, unended, lines_of}

-- what is read of a sheet: the places and the rules of the lines before its first fault, how many lines those are, and that fault
pub record Reading : Type 0 where
  pub places : List Place
  pub rules : List Row
  pub lines : ℕ
  pub fault : Option SheetFault

-- a reading that ends with a fault
abbrev pub stopped : List Place → List Row → ℕ → SheetFault → Reading
stopped ps rs n f = record { places = ps; rules = rs; lines = n; fault = Some f }

-- fault 10 where no room is left for one more
abbrev pub fits : {X : Type 0} → ℕ → ℕ → ℕ → X → Result X SheetFault
fits room count line x = cond (nat_lt count room) (Ok x) (Err (fault.Full line))

-- the fault of a line that is too long, or not ended
abbrev pub text_fault : TextFault → SheetFault
text_fault f = fault.Field (Text f)

-- the rule of a line, behind the rules given
abbrev pub rule_of : SpanKind → (room : ℕ) → List Place → (line : ℕ) → List Row → Line → Result Row SheetFault
rule_of kind room ps line rs (whole bytes) = then (rule_line_of kind ps line bytes) (fits room (length rs) line)
rule_of kind room ps line rs long = Err (text_fault (TooLong line))
rule_of kind room ps line rs unended = Err (text_fault (Unended line))

-- the rules of lines, after n lines and behind the rules given
abbrev pub rules_from : SpanKind → (room : ℕ) → List Place → (n : ℕ) → List Row → List Line → Reading
rules_from kind room ps n rs [] = record { places = ps; rules = rs; lines = n; fault = None }
rules_from kind room ps n rs (l ∷ ls) =
    elim (rule_of kind room ps (n + 1) rs l) [
      | Ok r ↦ rules_from kind room ps (n + 1) (rs ++ (r ∷ [])) ls
      | Err f ↦ stopped ps rs n f
    ]

-- the word of a line is that of a place
abbrev pub is_place_word : Option Word → Bool
is_place_word None = false
is_place_word (Some word.Title) = false
is_place_word (Some word.Place) = true
is_place_word (Some word.Sum) = false
is_place_word (Some word.Pair) = false
is_place_word (Some word.Apart) = false

-- a place line
abbrev pub is_place_line : Line → Bool
is_place_line (whole bytes) = is_place_word (word_of (head (fields_of bytes)))
is_place_line long = false
is_place_line unended = false

-- the place of a place line, behind the places given
abbrev pub place_of : SpanKind → (room : ℕ) → (line : ℕ) → List Place → Line → Result Place SheetFault
place_of kind room line ps (whole bytes) = then (place_line kind ps line bytes) (fits room (length ps) line)
place_of kind room line ps long = Err (text_fault (TooLong line))
place_of kind room line ps unended = Err (text_fault (Unended line))

-- the places of lines, after n lines and behind the places given, and then the rules of the lines that follow them
abbrev pub places_from : SpanKind → (places rules : ℕ) → (n : ℕ) → List Place → List Line → Reading
places_from kind places rules n ps [] = rules_from kind rules ps n [] []
places_from kind places rules n ps (l ∷ ls) =
    cond (is_place_line l)
    (elim (place_of kind places (n + 1) ps l) [
      | Ok p ↦ places_from kind places rules (n + 1) (ps ++ (p ∷ [])) ls
      | Err f ↦ stopped ps [] n f
    ])
    (rules_from kind rules ps n [] (l ∷ ls))

-- fault 11 where a game was read that has no place
abbrev pub place_some : Reading → Reading
place_some reading = elim reading.fault [ Some f ↦ reading | None ↦ elim reading.places [ [] ↦ stopped [] reading.rules reading.lines (fault.NoPlace reading.lines) | p ∷ ps ↦ reading ] ]

-- a sheet that begins with the title asked for is read on; before the title there are the places given, and no rule
abbrev pub titled : SheetKind → SpanKind → List Place → List Line → (List Line → Reading) → Reading
titled sheet kind ps [] next = stopped ps [] 0 fault.Title
titled sheet kind ps (whole bytes ∷ ls) next = elim (title_checked sheet kind bytes) [ Ok t ↦ next ls | Err f ↦ stopped ps [] 0 f ]
titled sheet kind ps (long ∷ ls) next = stopped ps [] 0 (text_fault (TooLong 1))
titled sheet kind ps (unended ∷ ls) next = stopped ps [] 0 (text_fault (Unended 1))

-- the most places and rules that tables of so many entries take
abbrev pub place_room : ℕ → ℕ
place_room entries = min entries 254

abbrev pub rule_room : ℕ → ℕ
rule_room entries = min entries 1000

-- the lines of a game, read into tables of so many entries
abbrev pub game_of : SpanKind → (places rules : ℕ) → List Line → Reading
game_of kind places rules lines = titled Game kind [] lines (λ ls. place_some (places_from kind (place_room places) (rule_room rules) 1 [] ls))

-- the lines of an expansion of a game that has the places given, read into a table of so many entries
abbrev pub expansion_of : SpanKind → List Place → (rules : ℕ) → List Line → Reading
expansion_of kind ps rules lines = titled Expansion kind ps lines (λ ls. rules_from kind (rule_room rules) ps 1 [] ls)

-- a sheet that is not too big, by its lines
abbrev pub sized : List Place → List ℕ → (List Line → Reading) → Reading
sized ps sheet read = cond (nat_lt 65535 (length sheet)) (stopped ps [] 0 (text_fault TooBig)) (read (lines_of sheet))

-- what is read of a game, and of an expansion
abbrev pub game_read : SpanKind → (places rules : ℕ) → List ℕ → Reading
game_read kind places rules sheet = sized [] sheet (game_of kind places rules)

abbrev pub expansion_read : SpanKind → List Place → (rules : ℕ) → List ℕ → Reading
expansion_read kind ps rules sheet = sized ps sheet (expansion_of kind ps rules)
