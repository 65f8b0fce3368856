-- The title of a sheet, and what comes of the places and rules that follow it. Assumes nothing.
use Rattle.std.proofs.Common.{◌≡◌, ℕ, ◌+◌, ◌-◌, ◌≤◌, Bool, true, false, cond, ltb, List, [], ◌∷◌, ◌++◌, map, length, take, drop, Some, None, Ok, Err, Option, Result, sym, refl, ap, ◌∙◌, ap₂, arith}
use native.Mathlib.Nat.{sub-zero}
use Rattle.std.proofs.lemmas.List.{take-map, take_all, length-take, length-append, length-drop}
use Rattle.std.proofs.lemmas.Bool.{cond-false}
use Rattle.text.specs.declared.fault.TextFault.{TextFault}
use Rattle.text.specs.declared.fault.TextFault.TheVariants.{TooBig}
use Rattle.text.specs.declared.fault.FieldFault.{FieldFault}
use Rattle.text.specs.declared.lines.Lines.{Lines}
use Rattle.text.specs.Lines.{size_checked, left}
use Rattle.sheets.specs.declared.fault.SheetFault.{SheetFault}
use Rattle.sheets.specs.declared.fault.SheetFault.TheVariants.{NoPlace}
use Rattle.sheets.specs.declared.title.SpanKind.{SpanKind}
use Rattle.records.specs.declared.kind.SheetKind.{SheetKind}
use Rattle.records.specs.declared.kind.SheetKind.TheVariants.{Game, Expansion}
use Rattle.records.specs.declared.places.PlaceRow.{PlaceRow}
use Rattle.records.specs.Places.{Place, place_shown}
use Rattle.records.specs.Rules.{Row}
use Rattle.readings.specs.Lines.{Line, whole, long, unended, lines_of, lines_left, lines_after, read_after, raised}
use Rattle.readings.specs.Readings.{Reading, stopped, rule_of, rules_from, places_from, place_some, titled, sized, place_room, rule_room, game_read, expansion_read}
use Rattle.readings.specs.Tables.{laid, answered, title_answer, places_ahead, rules_ahead, counts_of, Filled}
use Rattle.readings.specs.declared.reading.Counts.{Counts}

-- a sheet that is not too big is read by its lines
sized_small : (ps : List Place) (sheet : List ℕ) (read : List Line → Reading) → ◌≡◌ {A = Result (Unit {0}) FieldFault} (Ok tt) (raised (size_checked sheet)) → sized ps sheet read ≡ read (lines_of sheet)
sized_small ps sheet read e = go (ltb 65535 (length sheet)) refl e
  where
    go : (t : Bool) → ltb 65535 (length sheet) ≡ t → ◌≡◌ {A = Result (Unit {0}) FieldFault} (Ok tt) (raised (cond {A = Result (Unit {0}) TextFault} t (Err TooBig) (Ok tt))) → sized ps sheet read ≡ read (lines_of sheet)
    go true h e = let z : ◌≡◌ {A = ℕ} 0 1 = cc in absurd (omega arith)
    go false h e = cond-false _ _ _ h

-- the title is read, and the lines behind it are read on; or it has a fault
module _ (asked : SheetKind) (kind : SpanKind) (ps : List Place) (sheet : List ℕ) (next : List Line → Reading) (n : ℕ) (ls : List Line)
    (small : ◌≡◌ {A = Result (Unit {0}) FieldFault} (Ok tt) (raised (size_checked sheet))) (zero : n ≡ 0) (lines : ls ≡ lines_of sheet) where
  whole_sheet : sized ps sheet (λ l. titled asked kind ps l next) ≡ titled asked kind ps ls next
  whole_sheet = sized_small ps sheet (λ l. titled asked kind ps l next) small ∙ ap (λ l. titled asked kind ps l next) (sym lines)

  pub begun : Ok tt ≡ title_answer asked kind n ls → (sized ps sheet (λ l. titled asked kind ps l next) ≡ next (lines_after ls)) × (read_after n ls ≡ 1)
  begun e = let r = go ls e in (whole_sheet ∙ r.0, r.1)
    where
      go : (ks : List Line) → Ok tt ≡ title_answer asked kind n ks → (titled asked kind ps ks next ≡ next (lines_after ks)) × (read_after n ks ≡ 1)
      go [] e = let z : ◌≡◌ {A = ℕ} 0 1 = cc in absurd (omega arith)
      go (whole bytes ∷ ks) e = (ap (λ r. elim r as (λ _. Reading) [ Ok t ↦ next ks | Err f ↦ stopped ps [] 0 f ]) (sym e), omega arith)
      go (long ∷ ks) e = let z : ◌≡◌ {A = ℕ} 0 1 = cc in absurd (omega arith)
      go (unended ∷ ks) e = let z : ◌≡◌ {A = ℕ} 0 1 = cc in absurd (omega arith)

  pub not_begun : (f : SheetFault) → Err f ≡ title_answer asked kind n ls → sized ps sheet (λ l. titled asked kind ps l next) ≡ stopped ps [] 0 f
  not_begun f e = whole_sheet ∙ go ls e
    where
      first : {m : ℕ} → m ≡ 0 → m + 1 ≡ 1
      first e = omega arith

      go : (ks : List Line) → Err f ≡ title_answer asked kind n ks → titled asked kind ps ks next ≡ stopped ps [] 0 f
      go [] e = cc
      go (whole bytes ∷ ks) e = ap (λ r. elim r as (λ _. Reading) [ Ok t ↦ next ks | Err f ↦ stopped ps [] 0 f ]) (sym e)
      go (long ∷ ks) e = let one = first zero in cc
      go (unended ∷ ks) e = let one = first zero in cc

-- the places are known before the rules are read
pub rules_places : (kind : SpanKind) (room : ℕ) (ps : List Place) (n : ℕ) (rs : List Row) (ls : List Line) → (rules_from kind room ps n rs ls).places ≡ ps
rules_places kind room ps n rs [] = refl
rules_places kind room ps n rs (l ∷ ls) = go (rule_of kind room ps (n + 1) rs l) (λ r. rules_places kind room ps (n + 1) (rs ++ (r ∷ [])) ls)
  where
    go : (s : Result Row SheetFault) → ((r : Row) → (rules_from kind room ps (n + 1) (rs ++ (r ∷ [])) ls).places ≡ ps)
        → (elim s as (λ _. Reading) [ Ok r ↦ rules_from kind room ps (n + 1) (rs ++ (r ∷ [])) ls | Err f ↦ stopped ps rs n f ]).places ≡ ps
    go (Ok r) h = h r
    go (Err f) h = refl

-- when a game wants a place
module _ (r : Reading) where
  abbrev by : Option SheetFault → List Place → Reading
  by o ps = elim o as (λ _. Reading) [ Some f ↦ r | None ↦ elim ps as (λ _. Reading) [ [] ↦ stopped [] r.rules r.lines (NoPlace r.lines) | p ∷ qs ↦ r ] ]

  pub faulted : (f : SheetFault) → r.fault ≡ Some f → place_some r ≡ r
  faulted f e = ap (λ o. by o r.places) e

  pub has_places : 1 ≤ length r.places → place_some r ≡ r
  has_places h = go r.fault r.places h
    where
      go : (o : Option SheetFault) (ps : List Place) → 1 ≤ length ps → by o ps ≡ r
      go (Some f) ps h = refl
      go None [] h = absurd (omega arith)
      go None (p ∷ ps) h = refl

  pub wants_place : r.fault ≡ None → r.places ≡ [] → place_some r ≡ stopped [] r.rules r.lines (NoPlace r.lines)
  wants_place e f = ap₂ by e f

-- an answer tells of a fault, or of none
pub told_fault : {X : Type 0} (x : X) (o : Option SheetFault) (f : SheetFault) → Err f ≡ answered x o → o ≡ Some f
told_fault x None f e = let z : ◌≡◌ {A = ℕ} 0 1 = cc in absurd (omega arith)
told_fault x (Some g) f e = cc

pub told_none : {X : Type 0} (x y : X) (o : Option SheetFault) → Ok y ≡ answered x o → (o ≡ None) × (y ≡ x)
told_none x y None e = (refl, cc)
told_none x y (Some g) e = let z : ◌≡◌ {A = ℕ} 0 1 = cc in absurd (omega arith)

-- the first places of a table, as they are lent
pub lent_names : (rows : List PlaceRow) (count : ℕ) → count ≤ 254 → take 254 (map place_shown (take (count - 0) rows)) ≡ take count (map place_shown rows)
lent_names rows count h =
    ap (λ n. take 254 (map place_shown (take n rows))) (sub-zero count)
    ∙ ap (take 254) (sym (take-map place_shown count rows))
    ∙ take_all 254 (take count (map place_shown rows)) (omega (arith, length-take count (map place_shown rows)))

-- a table whose length is kept has room for what is laid on it
pub laid_fits : {X : Type 0} (xs old new : List X) → new ≡ laid xs old → length new ≡ length old → length xs ≤ length old
laid_fits xs old new e l = omega (arith, ap length e, length-append xs (drop (length xs) old), length-drop (length xs) old)

-- what the tables of a sheet show where its reading ends
pub filled_none : (r : Reading) (f : SheetFault) (places : List Place) (rules : List Row) → r ≡ stopped [] [] 0 f → Filled r (Err f) places rules places rules
filled_none r f places rules e = record {
  told = ap (λ (x : Reading). answered (counts_of x) x.fault) (sym e);
  places_are = ap (λ (x : Reading). laid x.places places) (sym e);
  rules_are = ap (λ (x : Reading). laid x.rules rules) (sym e);
}

pub filled_as : (r s : Reading) (answer : Result Counts SheetFault) (places new : List Place) (rules rows : List Row) → r ≡ s
    → answer ≡ answered (counts_of s) s.fault → new ≡ laid s.places places → rows ≡ laid s.rules rules → Filled r answer places rules new rows
filled_as r s answer places new rules rows e a b c = record {
  told = a ∙ ap (λ (x : Reading). answered (counts_of x) x.fault) (sym e);
  places_are = b ∙ ap (λ (x : Reading). laid x.places places) (sym e);
  rules_are = c ∙ ap (λ (x : Reading). laid x.rules rules) (sym e);
}

-- a fault among the places
pub filled_places : (all a : Reading) (f : SheetFault) (places new : List Place) (rules : List Row) → all ≡ place_some a → a.fault ≡ Some f → a.rules ≡ [] → new ≡ laid a.places places → Filled all (Err f) places rules new rules
filled_places all a f places new rules e fault none laid-are =
    filled_as all a (Err f) places new rules rules (e ∙ faulted a f fault) (ap (answered (counts_of a)) (sym fault)) laid-are (ap (λ rs. laid rs rules) (sym none))

-- all places are read, and then the rules
module _ (all a b : Reading) (ps places new : List Place) (rules rows : List Row)
    (all-is : all ≡ place_some a) (a-is : a ≡ b) (ps-are : b.places ≡ ps) (New-is : new ≡ laid ps places) (rows_are : rows ≡ laid b.rules rules) where
  pub filled_rules : (f : SheetFault) → b.fault ≡ Some f → Filled all (Err f) places rules new rows
  filled_rules f e = filled_as all b (Err f) places new rules rows (all-is ∙ ap place_some a-is ∙ faulted b f e) (ap (answered (counts_of b)) (sym e)) (New-is ∙ ap (λ qs. laid qs places) (sym ps-are)) rows_are

  pub filled_wanting : (line : ℕ) → b.fault ≡ None → ps ≡ [] → line ≡ b.lines → Filled all (Err (NoPlace line)) places rules new rows
  filled_wanting line e none is =
      filled_as all (stopped [] b.rules b.lines (NoPlace b.lines)) (Err (NoPlace line)) places new rules rows
      (all-is ∙ ap place_some a-is ∙ wants_place b e (ps-are ∙ none)) (ap (λ n. Err (NoPlace n)) is) (New-is ∙ ap (λ qs. laid qs places) none) rows_are

  pub filled_all : (count rule-count : ℕ) → b.fault ≡ None → 1 ≤ length ps → count ≡ length ps → rule-count ≡ length b.rules → Filled all (Ok (record { places = count; rules = rule-count })) places rules new rows
  filled_all count rule-count e some c d =
      filled_as all b (Ok (record { places = count; rules = rule-count })) places new rules rows
      (all-is ∙ ap place_some a-is ∙ has_places b (omega (arith, some, ap length ps-are)))
      (ap₂ (λ m n. Ok (record { places = m; rules = n })) (c ∙ ap length (sym ps-are)) d ∙ ap (answered (counts_of b)) (sym e))
      (New-is ∙ ap (λ qs. laid qs places) (sym ps-are)) rows_are

-- the reader of a game stands behind its title
module _ (kind k : SpanKind) (places rules entries : ℕ) (sheet : List ℕ) (start on : Lines)
    (k-is : k ≡ kind) (entries-are : entries ≡ places) (small : ◌≡◌ {A = Result (Unit {0}) FieldFault} (Ok tt) (raised (size_checked sheet)))
    (zero : start.read ≡ 0) (left_is : left start ≡ sheet) where
  pub game_begun : Ok tt ≡ title_answer Game k start.read (lines_left start) → lines_left on ≡ lines_after (lines_left start) → on.read ≡ read_after start.read (lines_left start) → game_read kind places rules sheet ≡ place_some (places_ahead k entries rules on)
  game_begun e l n =
      let b = begun Game k [] sheet (λ ls. place_some (places_from k (place_room places) (rule_room rules) 1 [] ls)) start.read (lines_left start) small zero (ap lines_of left_is) e in
      ap (λ x. game_read x places rules sheet) (sym k-is)
      ∙ b.0
      ∙ ap₂ (λ m ls. place_some (places_from k (place_room places) (rule_room rules) m [] ls)) (sym (n ∙ b.1)) (sym l)
      ∙ ap (λ m. place_some (places_ahead k m rules on)) (sym entries-are)

  pub game_not_begun : (f : SheetFault) → Err f ≡ title_answer Game k start.read (lines_left start) → game_read kind places rules sheet ≡ stopped [] [] 0 f
  game_not_begun f e =
      ap (λ x. game_read x places rules sheet) (sym k-is)
      ∙ not_begun Game k [] sheet (λ ls. place_some (places_from k (place_room places) (rule_room rules) 1 [] ls)) start.read (lines_left start) small zero (ap lines_of left_is) f e

-- the reader of an expansion stands behind its title
module _ (kind k : SpanKind) (ps : List Place) (rules : ℕ) (sheet : List ℕ) (start on : Lines)
    (k-is : k ≡ kind) (small : ◌≡◌ {A = Result (Unit {0}) FieldFault} (Ok tt) (raised (size_checked sheet)))
    (zero : start.read ≡ 0) (left_is : left start ≡ sheet) where
  pub expansion_begun : Ok tt ≡ title_answer Expansion k start.read (lines_left start) → lines_left on ≡ lines_after (lines_left start) → on.read ≡ read_after start.read (lines_left start) → expansion_read kind ps rules sheet ≡ rules_ahead kind rules ps on
  expansion_begun e l n =
      let b = begun Expansion k ps sheet (λ ls. rules_from k (rule_room rules) ps 1 [] ls) start.read (lines_left start) small zero (ap lines_of left_is) e in
      ap (λ x. expansion_read x ps rules sheet) (sym k-is)
      ∙ b.0
      ∙ ap₂ (λ m ls. rules_from k (rule_room rules) ps m [] ls) (sym (n ∙ b.1)) (sym l)
      ∙ ap (λ x. rules_ahead x rules ps on) k-is

  pub expansion_not_begun : (f : SheetFault) → Err f ≡ title_answer Expansion k start.read (lines_left start) → expansion_read kind ps rules sheet ≡ stopped ps [] 0 f
  expansion_not_begun f e =
      ap (λ x. expansion_read x ps rules sheet) (sym k-is)
      ∙ not_begun Expansion k ps sheet (λ ls. rules_from k (rule_room rules) ps 1 [] ls) start.read (lines_left start) small zero (ap lines_of left_is) f e

-- what is told of the rules of a reading, and what their table shows
pub record RulesTold (all : Reading) (answer : Result ℕ SheetFault) (rules rows : List Row) : Type 0 where
  pub told : answer ≡ answered (length all.rules) all.fault
  pub rules_are : rows ≡ laid all.rules rules

pub rules_told : (all r : Reading) (answer : Result ℕ SheetFault) (rules rows : List Row) → all ≡ r → answer ≡ answered (length r.rules) r.fault → rows ≡ laid r.rules rules → RulesTold all answer rules rows
rules_told all r answer rules rows e a b = record {
  told = a ∙ ap (λ (x : Reading). answered (length x.rules) x.fault) (sym e);
  rules_are = b ∙ ap (λ (x : Reading). laid x.rules rules) (sym e);
}
