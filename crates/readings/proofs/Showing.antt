-- What a sheet shows of its tables. Assumes nothing.
use Rattle.std.proofs.Common.{◌≡◌, ℕ, ◌≤◌, List, ◌++◌, map, length, take, drop, Ok, Result, sym, ap, ◌∙◌, ap₂, arith}
use Rattle.std.proofs.lemmas.List.{map-append, take-append-drop, length-take-le}
use Rattle.sheets.specs.declared.fault.SheetFault.{SheetFault}
use Rattle.records.specs.Places.{Place}
use Rattle.records.specs.Rules.{Row}
use Rattle.readings.specs.declared.reading.Counts.{Counts}
use Rattle.readings.specs.Readings.{Reading}
use Rattle.readings.specs.Tables.{Filled, answered, counts_of, laid}
use Rattle.readings.specs.Seen.{Seen, Added, shows}
use Rattle.readings.proofs.Beginning.{told_none, laid_fits}

-- a table in two parts
pub both_parts : {X Y : Type 0} (f : X → Y) (xs first rest : List X) (n : ℕ) → first ≡ take n xs → rest ≡ drop n xs → map f first ++ map f rest ≡ map f xs
both_parts f xs first rest n first-is rest_is = sym (map-append f first rest) ∙ ap₂ (λ a b. map f (a ++ b)) first-is rest_is ∙ ap (map f) (take-append-drop n xs)

pub first_length : {X : Type 0} (xs first : List X) (n : ℕ) → first ≡ take n xs → n ≤ length xs → length first ≡ n
first_length xs first n first-is h = ap length first-is ∙ length-take-le n xs h

-- what is shown, part by part
pub same_seen : {a b : Result Counts SheetFault} {p q : List Place} {r s : List Row} → a ≡ b → p ≡ q → r ≡ s → ◌≡◌ {A = Seen} (record { answer = a; places = p; rules = r }) (record { answer = b; places = q; rules = s })
same_seen e f g = cc

pub filled_seen : (all : Reading) (answer : Result Counts SheetFault) (places : List Place) (rules : List Row) (new : List Place) (rows : List Row) → Filled all answer places rules new rows → ◌≡◌ {A = Seen} (record { answer = answer; places = new; rules = rows }) (shows all places rules)
filled_seen all answer places rules new rows f = same_seen f.told f.places_are f.rules_are

-- the entries that are filled lie in the tables
pub counts_fit : (all : Reading) (counts : Counts) (places : List Place) (rules : List Row) (new : List Place) (rows : List Row) → Filled all (Ok counts) places rules new rows → length new ≡ length places → length rows ≡ length rules
    → (counts.places ≤ length new) × (counts.rules ≤ length rows)
counts_fit all counts places rules new rows f p r =
    let t = (told_none (counts_of all) counts all.fault f.told).1 in
    (omega (arith, ap (λ (c : Counts). c.places) t, laid_fits all.places places new f.places_are p), omega (arith, ap (λ (c : Counts). c.rules) t, laid_fits all.rules rules rows f.rules_are r))

pub same_added : {a b : Result ℕ SheetFault} {p q : List Place} {r s : List Row} → a ≡ b → p ≡ q → r ≡ s → ◌≡◌ {A = Added} (record { answer = a; places = p; rules = r }) (record { answer = b; places = q; rules = s })
same_added e f g = cc

-- the rules that are filled lie in the table
pub count_fits : (all : Reading) (count : ℕ) (rules rows : List Row) → Ok count ≡ answered (length all.rules) all.fault → rows ≡ laid all.rules rules → length rows ≡ length rules → count ≤ length rows
count_fits all count rules rows t e l = omega (arith, (told_none (length all.rules) count all.fault t).1, laid_fits all.rules rules rows e l)
