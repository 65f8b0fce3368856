-- What readings come to, in the words of the game. Assumes nothing.
use Rattle.std.specs.Prelude.{◌≡◌, ℕ, suc, ◌≤◌, true, ◌⊎◌, ◌↔◌, List, [], ◌∷◌, ◌++◌, map, length, Some, None, Option, ◌≢◌}
use Rattle.std.specs.List.{AllByRecursion}
use Rattle.text.specs.Lines.{Lined}
use Rattle.sheets.specs.declared.fault.SheetFault.{SheetFault}
use Rattle.sheets.specs.declared.fault.SheetFault.TheVariants.{Title, NoPlace}
use Rattle.sheets.specs.declared.title.SpanKind.{SpanKind}
use Rattle.sheets.specs.Faults.{sheet_told}
use Rattle.records.specs.Places.{Place}
use Rattle.records.specs.Rules.{Rule, Row}
use Rattle.readings.specs.Lines.{Line, lines_of}
use Rattle.readings.specs.Readings.{Reading, game_read, expansion_read, game_of, expansion_of, place_room, rule_room}
use Rattle.readings.specs.Written.{rule_written, game_lines, expansion_lines}
use Rattle.readings.specs.RuleLines.{rule_lines_of}
use Rattle.readings.specs.Proper.{are_places, is_rule}

-- a rule as a row holds it, for boards of so many places
abbrev pub row_for : ℕ → Rule → Row
row_for places rule = record { places = places; rule = rule }

-- the whole of a sheet is read, and has these places and rules
abbrev pub Reads : Reading → List Place → List Rule → Type 0
Reads reading ps rs = (reading.places ≡ ps) × (reading.rules ≡ map (row_for (length ps)) rs) × (reading.fault ≡ None)

-- the sheet is what these places and rules of a game are, written out, and tables of so many entries have room for them
pub record GameOf (kind : SpanKind) (places rules : ℕ) (sheet : List ℕ) (ps : List Place) (rs : List Rule) : Type 0 where
  pub written : Lined sheet (game_lines kind ps rs)
  pub some_place : 1 ≤ length ps
  pub few_places : length ps ≤ place_room places
  pub proper_places : are_places kind [] ps ≡ true
  pub few_rules : length rs ≤ rule_room rules
  pub proper_rules : AllByRecursion (λ r. is_rule kind (length ps) r ≡ true) rs

-- the same of an expansion's rules, which use the names of a game's places
pub record ExpansionOf (kind : SpanKind) (ps : List Place) (rules : ℕ) (sheet : List ℕ) (rs : List Rule) : Type 0 where
  pub written : Lined sheet (expansion_lines kind ps rs)
  pub few_rules : length rs ≤ rule_room rules
  pub proper_rules : AllByRecursion (λ r. is_rule kind (length ps) r ≡ true) rs

-- a reading without a fault, but that a game may want a place
abbrev pub Unfaulted : Option SheetFault → Type 0
Unfaulted f = (f ≡ None) ⊎ ((n : ℕ) × (f ≡ Some (NoPlace n)))

-- a fault lies in a line: the lines before it are read without a fault and give all places and rules that are read, and the
-- fault is found there whatever lines follow
pub record InLine (read : List Line → Reading) (before : List Line) (line : Line) (after : List Line) (fault : SheetFault) : Type 0 where
  pub told : (sheet_told fault).line ≡ suc (length before)
  pub clean : (before ≢ []) → Unfaulted (read before).fault
  pub places : (read (before ++ (line ∷ after))).places ≡ (read before).places
  pub rules : (read (before ++ (line ∷ after))).rules ≡ (read before).rules
  pub always : (more : List Line) → (read (before ++ (line ∷ more))).fault ≡ Some fault

-- where the first fault of lines lies: there is no line; there is a title alone, of a game; or it lies in a line
pub data First (read : List Line → Reading) (lines : List Line) (fault : SheetFault) : Type 0 where
  no_line : lines ≡ [] → fault ≡ Title → First read lines fault
  no_place : length lines ≡ 1 → fault ≡ NoPlace 1 → (read lines).places ≡ [] → (read lines).rules ≡ [] → First read lines fault
  in_line : (before : List Line) (line : Line) (after : List Line) → lines ≡ before ++ (line ∷ after) → InLine read before line after fault → First read lines fault

-- the law of games: what is read without a fault is the sheet, written out again, and a fault is the first one
pub record GameLaw (kind : SpanKind) (places rules : ℕ) (sheet : List ℕ) : Type 0 where
  -- a sheet has no fault exactly if it is some proper places and rules written out, and then they are those that are read
  pub reads : (ps : List Place) (rs : List Rule) → Reads (game_read kind places rules sheet) ps rs ↔ GameOf kind places rules sheet ps rs
  pub unfaulted : (game_read kind places rules sheet).fault ≡ None → (ps : List Place) × (rs : List Rule) × Reads (game_read kind places rules sheet) ps rs
  -- a fault is at the first line that breaks a check, and leaves just the places and rules of the lines before it
  pub first : (fault : SheetFault) → (game_of kind places rules (lines_of sheet)).fault ≡ Some fault → First (game_of kind places rules) (lines_of sheet) fault

-- the law of expansions of a game that has the places given
pub record ExpansionLaw (kind : SpanKind) (ps : List Place) (rules : ℕ) (sheet : List ℕ) : Type 0 where
  pub reads : are_places kind [] ps ≡ true → (rs : List Rule) → Reads (expansion_read kind ps rules sheet) ps rs ↔ ExpansionOf kind ps rules sheet rs
  pub unfaulted : (expansion_read kind ps rules sheet).fault ≡ None → (rs : List Rule) × Reads (expansion_read kind ps rules sheet) ps rs
  pub first : (fault : SheetFault) → (expansion_of kind ps rules (lines_of sheet)).fault ≡ Some fault → First (expansion_of kind ps rules) (lines_of sheet) fault

-- the rule lines of a game and of an expansion without a fault are those of their rules, the game's and then the expansion's
abbrev pub RuleLinesLaw : (game expansion : List ℕ) → Type 0
RuleLinesLaw game expansion =
    (kind : SpanKind) (places rules entries : ℕ) (ps : List Place) (rs es : List Rule)
    → GameOf kind places rules game ps rs → ExpansionOf kind ps entries expansion es
    → rule_lines_of game ++ rule_lines_of expansion ≡ map (rule_written ps) (rs ++ es)
