-- Place tables filled entry by entry. Assumes nothing.
use Rattle.std.proofs.Common.{◌≡◌, ℕ, ◌+◌, ◌<◌, ◌≤◌, Bool, true, false, cond, List, [], ◌∷◌, ◌++◌, length, take, drop, Some, None, Ok, Err, Option, Result, sym, refl, ap, ◌∙◌, arith}
use Rattle.std.proofs.lemmas.List.{length-take-le}
use Rattle.std.proofs.lemmas.Bool.{cond-true, cond-false, lt-ltb, le-ltb}
use Rattle.sheets.specs.declared.fault.SheetFault.{SheetFault}
use Rattle.sheets.specs.declared.fault.SheetFault.TheVariants.{Full}
use Rattle.sheets.specs.declared.title.SpanKind.{SpanKind}
use Rattle.records.specs.Places.{Place, place_line}
use Rattle.records.specs.Steps.{then}
use Rattle.readings.specs.Lines.{Line, whole, long, unended}
use Rattle.readings.specs.Readings.{Reading, stopped, fits, rules_from, places_from, is_place_line}
use Rattle.readings.specs.Tables.{laid, first_place, after_place, read_place}
use Rattle.readings.proofs.Turning.{laid_first}

-- the next line is a place line
pub record PlaceLine (ls : List Line) (n : ℕ) (bytes : List ℕ) : Type 0 where
  pub first : ls ≡ whole bytes ∷ after_place ls
  pub place : is_place_line (whole bytes) ≡ true
  pub count : read_place n ls ≡ n + 1

pub next_is_place : (ls : List Line) (n : ℕ) (bytes : List ℕ) → ◌≡◌ {A = Option (List ℕ)} (Some bytes) (first_place ls) → PlaceLine ls n bytes
next_is_place [] n bytes e = let z : ◌≡◌ {A = ℕ} 0 1 = cc in absurd (omega arith)
next_is_place (long ∷ ls) n bytes e = let z : ◌≡◌ {A = ℕ} 0 1 = cc in absurd (omega arith)
next_is_place (unended ∷ ls) n bytes e = let z : ◌≡◌ {A = ℕ} 0 1 = cc in absurd (omega arith)
next_is_place (whole cs ∷ ls) n bytes e = go (is_place_line (whole cs)) refl e
  where
    go : (t : Bool) → is_place_line (whole cs) ≡ t → ◌≡◌ {A = Option (List ℕ)} (Some bytes) (cond t (Some cs) None) → PlaceLine (whole cs ∷ ls) n bytes
    go true h e =
        let same : cs ≡ bytes = cc in
        record {
          first = ap (λ b. whole b ∷ ls) same ∙ ap (λ ks. whole bytes ∷ ks) (sym (cond-true (is_place_line (whole cs)) ls (whole cs ∷ ls) h));
          place = ap (λ b. is_place_line (whole b)) (sym same) ∙ h;
          count = cond-true (is_place_line (whole cs)) (n + 1) n h;
        }
    go false h e = let z : ◌≡◌ {A = ℕ} 0 1 = cc in absurd (omega arith)

-- the next line is none
pub record NoPlaceLine (kind : SpanKind) (places rules : ℕ) (ls : List Line) (n : ℕ) (ps : List Place) : Type 0 where
  pub on : places_from kind places rules n ps ls ≡ rules_from kind rules ps n [] ls
  pub left : after_place ls ≡ ls
  pub count : read_place n ls ≡ n

pub next_is_none : (kind : SpanKind) (places rules : ℕ) (ls : List Line) (n : ℕ) (ps : List Place) → ◌≡◌ {A = Option (List ℕ)} None (first_place ls) → NoPlaceLine kind places rules ls n ps
next_is_none kind places rules [] n ps e = record { on = refl; left = refl; count = refl }
next_is_none kind places rules (long ∷ ls) n ps e = record { on = refl; left = refl; count = refl }
next_is_none kind places rules (unended ∷ ls) n ps e = record { on = refl; left = refl; count = refl }
next_is_none kind places rules (whole cs ∷ ls) n ps e = go (is_place_line (whole cs)) refl e
  where
    go : (t : Bool) → is_place_line (whole cs) ≡ t → ◌≡◌ {A = Option (List ℕ)} None (cond t (Some cs) None) → NoPlaceLine kind places rules (whole cs ∷ ls) n ps
    go true h e = let z : ◌≡◌ {A = ℕ} 0 1 = cc in absurd (omega arith)
    go false h e = record { on = cond-false _ _ _ h; left = cond-false _ _ _ h; count = cond-false _ _ _ h }

-- `count` entries of a table are filled with places, after n lines, and the lines that are left come to what all lines come to
pub record Held (kind : SpanKind) (room rules : ℕ) (n count : ℕ) (xs old : List Place) (ls : List Line) (all : Reading) : Type 0 where
  pub inv : places_from kind room rules n (take count xs) ls ≡ all
  pub rest : drop count xs ≡ drop count old
  pub some : count ≤ length xs

-- a fault ended the reading: what is told, and what the table shows
pub record Stopped (all : Reading) (f : SheetFault) (xs old : List Place) : Type 0 where
  pub fault_is : all.fault ≡ Some f
  pub no_rules : all.rules ≡ []
  pub places_are : xs ≡ laid all.places old

module _ {kind : SpanKind} {room rules n count : ℕ} {xs old : List Place} {ls : List Line} {all : Reading} (held : Held kind room rules n count xs old ls all)
    (bytes : List ℕ) (later : List Line) (line : ℕ) (is : ls ≡ whole bytes ∷ later) (place : is_place_line (whole bytes) ≡ true) (number : line ≡ n + 1) where
  turn : (r : Result Place SheetFault) → then (place_line kind (take count xs) line bytes) (fits room count line) ≡ r
      → places_from kind room rules n (take count xs) ls ≡ elim r as (λ _. Reading) [ Ok p ↦ places_from kind room rules line (take count xs ++ (p ∷ [])) later | Err f ↦ stopped (take count xs) [] n f ]
  turn r e =
      ap (places_from kind room rules n (take count xs)) is
      ∙ cond-true _ _ _ place
      ∙ ap (λ m. elim (then (place_line kind (take count xs) m bytes) (fits room (length (take count xs)) m)) as (λ _. Reading) [ Ok p ↦ places_from kind room rules m (take count xs ++ (p ∷ [])) later | Err f ↦ stopped (take count xs) [] n f ]) (sym number)
      ∙ ap (λ k. elim (then (place_line kind (take count xs) line bytes) (fits room k line)) as (λ _. Reading) [ Ok p ↦ places_from kind room rules line (take count xs ++ (p ∷ [])) later | Err f ↦ stopped (take count xs) [] n f ]) (length-take-le count xs held.some)
      ∙ ap (λ s. elim s as (λ _. Reading) [ Ok p ↦ places_from kind room rules line (take count xs ++ (p ∷ [])) later | Err f ↦ stopped (take count xs) [] n f ]) e

  stop : (f : SheetFault) → then (place_line kind (take count xs) line bytes) (fits room count line) ≡ Err f → Stopped all f xs old
  stop f e =
      let w : all ≡ stopped (take count xs) [] n f = sym held.inv ∙ turn (Err f) e in
      record {
        fault_is = ap (λ (r : Reading). r.fault) w;
        no_rules = ap (λ (r : Reading). r.rules) w;
        places_are = laid_first xs old count held.some held.rest ∙ ap (λ (r : Reading). laid r.places old) (sym w);
      }

  pub place_refused : (f : SheetFault) → Err f ≡ place_line kind (take count xs) line bytes → Stopped all f xs old
  place_refused f e = stop f (ap (λ r. then r (fits room count line)) (sym e))

  pub places_full : (p : Place) → Ok p ≡ place_line kind (take count xs) line bytes → room ≤ count → Stopped all (Full line) xs old
  places_full p e h = stop (Full line) (ap (λ r. then r (fits room count line)) (sym e) ∙ cond-false _ _ _ (le-ltb count room h))

  pub place_added : (m : ℕ) (p : Place) (ys : List Place) → line ≡ m → Ok p ≡ place_line kind (take count xs) line bytes → count < room → take (count + 1) ys ≡ take count xs ++ (p ∷ []) → places_from kind room rules m (take (count + 1) ys) later ≡ all
  place_added m p ys m-is e h s =
      ap (λ k. places_from kind room rules k (take (count + 1) ys) later) (sym m-is)
      ∙ ap (λ ps. places_from kind room rules line ps later) s
      ∙ sym (turn (Ok p) (ap (λ r. then r (fits room count line)) (sym e) ∙ cond-true _ _ _ (lt-ltb count room h)))
      ∙ held.inv
