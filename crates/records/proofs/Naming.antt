-- Places looked up by name. Assumes nothing.
use Rattle.std.proofs.Common.{refl, [], ◌∷◌, cond, ◌||◌, ◌≡◌, ℕ, ◌+◌, ◌-◌, ◌<◌, ◌≤◌, min, ◌⊎◌, List, map, length, take, Some, sym, ap, ◌∙◌, ⊎_elim, arith}
use native.Mathlib.Nat.{sub-zero}
use Rattle.std.proofs.lemmas.List.{take-map, take_all}
use Rattle.std.proofs.lemmas.Bool.{cases_lt}
use Rattle.std.specs.List.{list_any, position_from}
use Rattle.text.specs.Names.{same_name}
use Rattle.records.specs.declared.places.PlaceRow.{PlaceRow}
use Rattle.records.specs.Places.{place_shown, declares}
use Rattle.records.specs.Names.{position_after}

-- as many of some rows as there are, and not above a number, are those below that number
pub first_places : (rows : List PlaceRow) (n : ℕ) → n ≡ min (length rows) 254 → map place_shown (take (n - 0) rows) ≡ take 254 (map place_shown rows)
first_places rows n e = ap (λ m. map place_shown (take m rows)) (sub-zero n) ∙ ap (map place_shown) (go (cases_lt 254 (length rows))) ∙ sym (take-map place_shown 254 rows)
  where
    go : (254 < length rows) ⊎ (length rows ≤ 254) → take n rows ≡ take 254 rows
    go = ⊎_elim (λ h. (let k : n ≡ 254 = omega arith in ap (λ m. take m rows) k)) (λ h. take_all n rows (omega arith) ∙ sym (take_all 254 rows h))

-- rows are looked up as the places that they show
pub any_shown : (rows : List PlaceRow) (name : List ℕ) → list_any (λ (row : PlaceRow). same_name row.name.now name) rows ≡ declares (map place_shown rows) name
any_shown [] name = refl
any_shown (row ∷ rows) name = ap (λ t. same_name row.name.now name || t) (any_shown rows name)

pub position_shown : (n : ℕ) (rows : List PlaceRow) (name : List ℕ) → position_from (λ (row : PlaceRow). same_name row.name.now name) n rows ≡ position_after n (map place_shown rows) name
position_shown n [] name = refl
position_shown n (row ∷ rows) name = ap (λ o. cond (same_name row.name.now name) (Some n) o) (position_shown (n + 1) rows name)
