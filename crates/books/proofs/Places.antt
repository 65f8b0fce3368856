-- Whether a place stands in a list: the test, its meaning, and one turn of the search for it. Assumes nothing.
use Rattle.std.specs.List.{AllWithin, HoldsAt, range_with_len}
use Rattle.std.specs.Bool.{MatchBool}
use Rattle.std.proofs.Common.{◌≡◌, ℕ, zero, suc, ◌<◌, Bool, true, false, ◌||◌, T, eqb, ◌⊎◌, List, [], ◌∷◌, length, get_or, sym, refl, ap, ◌∙◌, subst, inl, inr, arith, eqb→eq}
use lib.Dec.{eqb_refl}
use Rattle.std.proofs.lemmas.List.FromFn.{get_or-range_with_len, length-range_with_len}
use Rattle.std.proofs.lemmas.Bool.{or_left}
use Rattle.spans.specs.Bools.{either, first}
use Rattle.books.specs.Boards.{Among, has}

pub has_among : (x : ℕ) (xs : List ℕ) → T (has x xs) → Among x xs
has_among x [] t = t
has_among x (y ∷ ys) t = go (either (eqb x y) (has x ys) t) (has_among x ys)
  where
    go : T (eqb x y) ⊎ T (has x ys) → (T (has x ys) → Among x ys) → Among x (y ∷ ys)
    go (inl e) f = inl (eqb→eq x y e)
    go (inr h) f = inr (f h)

pub among_has : (x : ℕ) (xs : List ℕ) → Among x xs → T (has x xs)
among_has x [] m = m
among_has x (y ∷ ys) (inl e) = first (eqb x y) (has x ys) (subst (λ (z : ℕ). T (eqb x z)) e (eqb_refl x))
among_has x (y ∷ ys) (inr m) = second (eqb x y) (among_has x ys m)
  where
    second : (t : Bool) → T (has x ys) → T (t || has x ys)
    second true h = tt
    second false h = h

-- what stands at an index stands in the list
pub among_at : (xs : List ℕ) (i : ℕ) → i < length xs → Among (get_or xs i 0) xs
among_at [] i h = absurd (omega arith)
among_at (x ∷ xs) zero h = inl refl
among_at (x ∷ xs) (suc i) h = inr (among_at xs i (omega arith))

has_at : (x : ℕ) (xs : List ℕ) (i : ℕ) → i < length xs → true ≡ eqb x (get_or xs i 0) → true ≡ has x xs
has_at x [] i h e = absurd (omega arith)
has_at x (y ∷ ys) zero h e = sym (or_left (eqb x y) (has x ys) (sym e))
has_at x (y ∷ ys) (suc i) h e = has_at x ys i (omega arith) e ∙ or_later (eqb x y) (has x ys) (sym (has_at x ys i (omega arith) e))
  where
    or_later : (s t : Bool) → t ≡ true → t ≡ (s || t)
    or_later true t e = e
    or_later false t e = refl

lacks : (x : ℕ) (xs : List ℕ) → ((i : ℕ) → i < length xs → false ≡ eqb x (get_or xs i 0)) → false ≡ has x xs
lacks x [] f = refl
lacks x (y ∷ ys) f = lacks x ys (λ i h. f (suc i) (omega arith)) ∙ ap (λ (t : Bool). t || has x ys) (f 0 (omega arith))

nth : (xs : List ℕ) (i : ℕ) → i < length xs → get_or (range_with_len 0 (length xs)) i 0 ≡ i
nth xs i h = omega (arith, get_or-range_with_len 0 (length xs) i 0 h)

-- a search through the indexes of a list decides whether x stands in it
pub has_found : (x : ℕ) (xs : List ℕ) (r : Bool)
    → MatchBool r ((k : ℕ) × (k < length (range_with_len 0 (length xs))) × HoldsAt (λ i. true ≡ eqb x (get_or xs i 0)) (range_with_len 0 (length xs)) k)
    (AllWithin (λ i. false ≡ eqb x (get_or xs i 0)) (range_with_len 0 (length xs)) 0 (length (range_with_len 0 (length xs))))
    → r ≡ has x xs
has_found x xs true h = let l = length-range_with_len 0 (length xs) in has_at x xs h.0 (omega arith) (h.2 0 ∙ ap (λ (i : ℕ). eqb x (get_or xs i 0)) (nth xs h.0 (omega arith)))
has_found x xs false h = let l = length-range_with_len 0 (length xs) in lacks x xs (λ i k. h i 0 (omega arith) (omega arith) ∙ ap (λ (j : ℕ). eqb x (get_or xs j 0)) (nth xs i k))
