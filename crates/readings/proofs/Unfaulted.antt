-- What is known of lines that are read without a fault, apart from what the lines are. Assumes nothing.
use Rattle.std.proofs.Common.{◌≡◌, ℕ, ◌+◌, ◌<◌, ◌≤◌, Bool, true, false, cond, ltb, List, [], ◌∷◌, ◌++◌, map, length, Some, None, Ok, Err, Option, Result, sym, refl, ap, ◌∙◌, subst, arith}
use Rattle.std.proofs.lemmas.Bool.{cond-true, ltb-true, ltb-false, lt-ltb}
use Rattle.std.specs.List.{AllByRecursion}
use Rattle.text.specs.declared.fault.TextFault.TheVariants.{TooBig}
use Rattle.sheets.specs.declared.fault.SheetFault.{SheetFault}
use Rattle.sheets.specs.declared.fault.SheetFault.TheVariants.{Full}
use Rattle.sheets.specs.declared.title.SpanKind.{SpanKind}
use Rattle.records.specs.Places.{Place}
use Rattle.records.specs.Rules.{Rule, Row}
use Rattle.records.specs.Steps.{then}
use Rattle.records.proofs.Going.{then_ok, passed_true}
use Rattle.readings.specs.Lines.{Line, whole, lines_of}
use Rattle.readings.specs.Readings.{Reading, stopped, fits, text_fault, rules_from, places_from, place_some, sized}
use Rattle.readings.specs.Written.{place_written, rule_written}
use Rattle.readings.specs.Proper.{are_places, is_rule}
use Rattle.readings.specs.Laws.{row_for, Reads}

-- a rule that a sheet may have over these places
abbrev pub ProperRule : SpanKind → List Place → Rule → Type 0
ProperRule kind ps rule = is_rule kind (length ps) rule ≡ true

-- all lines are read: these are the places, and the rules as rows
abbrev pub AllRead : Reading → List Place → List Row → Type 0
AllRead reading ps rows = (reading.places ≡ ps) × (reading.rules ≡ rows) × (reading.fault ≡ None)

-- the reading of lines that are those of rules, behind the rows given
pub record RuleLines (kind : SpanKind) (room : ℕ) (ps : List Place) (rows : List Row) (lines : List Line) (reading : Reading) : Type 0 where
  pub stated : List Rule
  pub proper : AllByRecursion (ProperRule kind ps) stated
  pub written : lines ≡ map whole (map (rule_written ps) stated)
  pub few : length rows + length stated ≤ room
  pub reads : AllRead reading ps (rows ++ map (row_for (length ps)) stated)

-- the reading of lines that are those of places, behind the places given, and then those of rules over all these places
pub record PlaceLines (kind : SpanKind) (places rules : ℕ) (ps : List Place) (lines : List Line) (reading : Reading) : Type 0 where
  pub more : List Place
  pub all : List Place
  pub stated : List Rule
  pub is : all ≡ ps ++ more
  pub proper_places : are_places kind ps more ≡ true
  pub proper_rules : AllByRecursion (ProperRule kind all) stated
  pub written : lines ≡ map whole (map place_written more ++ map (rule_written all) stated)
  pub few_places : length all ≤ places
  pub few_rules : length stated ≤ rules
  pub reads : Reads reading all stated

-- what is read of lines behind one whose answer is given: a rule, a place or the title, or its fault
abbrev pub rules_after : SpanKind → (room : ℕ) → List Place → (n : ℕ) → List Row → List Line → Result Row SheetFault → Reading
rules_after kind room ps n rows ls r = elim r [ Ok row ↦ rules_from kind room ps (n + 1) (rows ++ (row ∷ [])) ls | Err f ↦ stopped ps rows n f ]

abbrev pub places_after : SpanKind → (places rules : ℕ) → (n : ℕ) → List Place → List Line → Result Place SheetFault → Reading
places_after kind places rules n ps ls r = elim r [ Ok p ↦ places_from kind places rules (n + 1) (ps ++ (p ∷ [])) ls | Err f ↦ stopped ps [] n f ]

abbrev pub title_then : List Place → List Line → (List Line → Reading) → Result (Unit {0}) SheetFault → Reading
title_then ps ls next r = elim r [ Ok t ↦ next ls | Err f ↦ stopped ps [] 0 f ]

-- what is read has room
pub fits_from : {X : Type 0} (r : Result X SheetFault) (room count line : ℕ) (x : X) → then r (fits room count line) ≡ Ok x → (count < room) × (r ≡ Ok x)
fits_from r room count line x e =
    let t = then_ok r (fits room count line) x e in
    let p = passed_true (ltb count room) (Full line) (Ok t.value) x t.rest in
    (ltb-true count room p.0, t.read ∙ p.1)

pub fits_to : {X : Type 0} (r : Result X SheetFault) (room count line : ℕ) (x : X) → r ≡ Ok x → count < room → then r (fits room count line) ≡ Ok x
fits_to r room count line x e h = ap (λ s. then s (fits room count line)) e ∙ cond-true _ _ _ (lt-ltb count room h)

-- a sheet that is read without a fault is not too big
pub sized_from : (ps : List Place) (sheet : List ℕ) (read : List Line → Reading) → (sized ps sheet read).fault ≡ None → (length sheet ≤ 65535) × (sized ps sheet read ≡ read (lines_of sheet))
sized_from ps sheet read e = go (ltb 65535 (length sheet)) refl e
  where
    go : (t : Bool) → ltb 65535 (length sheet) ≡ t → (cond t (stopped ps [] 0 (text_fault TooBig)) (read (lines_of sheet))).fault ≡ None
        → (length sheet ≤ 65535) × (cond t (stopped ps [] 0 (text_fault TooBig)) (read (lines_of sheet)) ≡ read (lines_of sheet))
    go true is e = let z : ◌≡◌ {A = ℕ} 0 1 = cc in absurd (omega arith)
    go false is e = (ltb-false 65535 (length sheet) is, refl)

-- a game that is read without a fault has a place
pub some_place_from : (reading : Reading) → (place_some reading).fault ≡ None → (reading.fault ≡ None) × (1 ≤ length reading.places) × (place_some reading ≡ reading)
some_place_from reading e = go reading.places reading.fault e
  where
    go : (ps : List Place) (f : Option SheetFault) → let r : Reading = record { places = ps; rules = reading.rules; lines = reading.lines; fault = f } in
        (place_some r).fault ≡ None → (f ≡ None) × (1 ≤ length ps) × (place_some r ≡ r)
    go ps (Some f) e = let z : ◌≡◌ {A = ℕ} 0 1 = cc in absurd (omega arith)
    go [] None e = let z : ◌≡◌ {A = ℕ} 0 1 = cc in absurd (omega arith)
    go (p ∷ ps) None e = (refl, omega arith, refl)

pub some_place_to : (reading : Reading) → reading.fault ≡ None → 1 ≤ length reading.places → place_some reading ≡ reading
some_place_to reading e h = go reading.places reading.fault e h
  where
    go : (ps : List Place) (f : Option SheetFault) → f ≡ None → 1 ≤ length ps → let r : Reading = record { places = ps; rules = reading.rules; lines = reading.lines; fault = f } in place_some r ≡ r
    go ps (Some f) e h = let z : ◌≡◌ {A = ℕ} 0 1 = cc in absurd (omega arith)
    go [] None e h = absurd (omega arith)
    go (p ∷ ps) None e h = refl

-- different rules make different rows
same_rules : (n : ℕ) (rs ss : List Rule) → map (row_for n) rs ≡ map (row_for n) ss → rs ≡ ss
same_rules n [] [] e = refl
same_rules n [] (s ∷ ss) e = let z : ◌≡◌ {A = ℕ} 0 1 = cc in absurd (omega arith)
same_rules n (r ∷ rs) [] e = let z : ◌≡◌ {A = ℕ} 0 1 = cc in absurd (omega arith)
same_rules n (r ∷ rs) (s ∷ ss) e =
    let one : row_for n r ≡ row_for n s = cc in
    let first : r ≡ s = ap (λ (row : Row). row.rule) one in
    let rest : rs ≡ ss = same_rules n rs ss (cc) in
    cc

-- only one list of places and one of rules are what is read
pub same_reads : (reading : Reading) (ps qs : List Place) (rs ss : List Rule) → Reads reading ps rs → Reads reading qs ss → (ps ≡ qs) × (rs ≡ ss)
same_reads reading ps qs rs ss h k =
    let same : ps ≡ qs = sym h.0 ∙ k.0 in
    (same, same_rules (length qs) rs ss (subst (λ (xs : List Place). map (row_for (length xs)) rs ≡ reading.rules) same (sym h.1) ∙ k.1))
