-- Fields taken two by two. Assumes nothing.
use Rattle.std.proofs.Common.{◌≡◌, ℕ, ◌+◌, ◌-◌, ◌≤◌, List, [], ◌∷◌, ◌++◌, length, Ok, Result, sym, refl, ap, ◌∙◌, subst, arith}
use Rattle.std.proofs.lemmas.List.{length_push}
use Rattle.text.specs.Fields.{others}
use Rattle.records.specs.Records.{head}
use Rattle.records.specs.Steps.{then}
use Rattle.records.specs.Twos.{twos_from}
use Rattle.records.proofs.Going.{then_ok, same_ok}

-- how many fields are left behind the first
pub length_others : (fs : List (List ℕ)) → length (others fs) ≡ length fs - 1
length_others [] = refl
length_others (f ∷ fs) = omega arith

module _ {T E : Type 0} (read : ℕ → List T → List ℕ → List ℕ → Result T E) where
  -- one turn over two fields
  twos_more : (f : ℕ) (ts : List T) (a : List ℕ) (gs : List (List ℕ))
      → twos_from read f ts (a ∷ gs) ≡ then (read f ts a (head gs)) (λ t. twos_from read (f + 2) (ts ++ (t ∷ [])) (others gs))
  twos_more f ts a [] = refl
  twos_more f ts a (b ∷ gs) = refl

  module _ (f : ℕ) (ts : List T) (fs gs hs : List (List ℕ)) (a b : List ℕ) (all : Result (List T) E)
      (one : fs ≡ a ∷ gs) (two : b ≡ head gs) (hs-is : hs ≡ others gs) (inv : twos_from read f ts fs ≡ all) where
    whole : (r : Result T E) → r ≡ read f ts a b → then r (λ t. twos_from read (f + 2) (ts ++ (t ∷ [])) hs) ≡ all
    whole r e =
        ap (λ x. then x (λ t. twos_from read (f + 2) (ts ++ (t ∷ [])) hs)) (e ∙ ap (read f ts a) two)
        ∙ ap (λ xs. then (read f ts a (head gs)) (λ t. twos_from read (f + 2) (ts ++ (t ∷ [])) xs)) hs-is
        ∙ sym (ap (twos_from read f ts) one ∙ twos_more f ts a gs)
        ∙ inv

    pub two_added : (t : T) (us : List T) → Ok t ≡ read f ts a b → us ≡ ts ++ (t ∷ []) → twos_from read (f + 2) us hs ≡ all
    two_added t us e u = ap (λ xs. twos_from read (f + 2) xs hs) u ∙ whole (Ok t) e

  -- what each turn keeps holds of all that is read
  pub twos_keep : (P : List T → Type 0) → ((f : ℕ) (ts : List T) (a b : List ℕ) (t : T) → read f ts a b ≡ Ok t → P ts → P (ts ++ (t ∷ [])))
      → (f : ℕ) (ts : List T) (fs : List (List ℕ)) (all : List T) → P ts → twos_from read f ts fs ≡ Ok all → P all
  twos_keep P more f ts [] all p e = subst P (same_ok e) p
  twos_keep P more f ts (a ∷ []) all p e =
      let r = then_ok (read f ts a []) _ all e in
      subst P (same_ok r.rest) (more f ts a [] r.value r.read p)
  twos_keep P more f ts (a ∷ (b ∷ fs)) all p e =
      let r = then_ok (read f ts a b) _ all e in
      twos_keep P more (f + 2) (ts ++ (r.value ∷ [])) fs all (more f ts a b r.value r.read p) r.rest

  -- where there is a field, something is read
  pub twos_some : (f : ℕ) (fs : List (List ℕ)) (all : List T) → twos_from read f [] fs ≡ Ok all → 1 ≤ length fs → 1 ≤ length all
  twos_some f [] all e h = absurd (omega arith)
  twos_some f (a ∷ []) all e h =
      let r = then_ok (read f [] a []) _ all e in
      omega (arith, ap length (same_ok r.rest))
  twos_some f (a ∷ (b ∷ fs)) all e h =
      let r = then_ok (read f [] a b) _ all e in
      twos_keep (λ us. 1 ≤ length us) (λ g ts x y t q p. (let l = length_push ts t in omega arith)) (f + 2) (r.value ∷ []) fs all (omega arith) r.rest
