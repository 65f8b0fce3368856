-- What stands in a list, and which visits a sweep makes. Assumes nothing.
use Rattle.std.proofs.Common.{◌≡◌, ℕ, zero, suc, ◌<◌, ◌⊎◌, List, [], ◌∷◌, ◌++◌, map, sym, refl, ap, subst, inl, inr, not-suc-le-zero, arith}
use Rattle.std.proofs.lemmas.Bool.{cases_eq}
use Rattle.books.specs.Boards.{Among}
use Rattle.books.specs.Meaning.{Meaning}
use Rattle.books.specs.Sweeps.{Visit, visits}

pub among_left : {A : Type 0} (x : A) (xs ys : List A) → Among x xs → Among x (xs ++ ys)
among_left x [] ys m = absurd m
among_left x (z ∷ xs) ys (inl e) = inl e
among_left x (z ∷ xs) ys (inr m) = inr (among_left x xs ys m)

pub among_right : {A : Type 0} (x : A) (xs ys : List A) → Among x ys → Among x (xs ++ ys)
among_right x [] ys m = m
among_right x (z ∷ xs) ys m = inr (among_right x xs ys m)

pub among_split : {A : Type 0} (x : A) (xs ys : List A) → Among x (xs ++ ys) → Among x xs ⊎ Among x ys
among_split x [] ys m = inr m
among_split x (z ∷ xs) ys (inl e) = inl (inl e)
among_split x (z ∷ xs) ys (inr m) = elim (among_split x xs ys m) [ inl a ↦ inl (inr a) | inr a ↦ inr a ]

pub among_map : {A B : Type 0} (f : A → B) (x : A) (xs : List A) → Among x xs → Among (f x) (map f xs)
among_map f x [] m = m
among_map f x (y ∷ ys) (inl e) = inl (ap f e)
among_map f x (y ∷ ys) (inr m) = inr (among_map f x ys m)

pub among_unmap : {A B : Type 0} (f : A → B) (y : B) (xs : List A) → Among y (map f xs) → (x : A) × (y ≡ f x) × Among x xs
among_unmap f y [] m = absurd m
among_unmap f y (x ∷ xs) (inl e) = (x, e, inl refl)
among_unmap f y (x ∷ xs) (inr m) = let u = among_unmap f y xs m in (u.0, u.1, inr u.2)

-- a visit of the rule r
abbrev pub visit_of : ℕ → ℕ → Visit
visit_of r p = record { rule = r; place = p }

module _ {S : Type 0} (book : Meaning S) where
  -- the visits of the rules below r are of places of such rules
  pub visits_counted : (r : ℕ) (v : Visit) → Among v (visits book r) → (v.rule < r) × Among v.place (book.rule v.rule).scope
  unfolding visits
  visits_counted zero v m = absurd m
  visits_counted (suc r) v m = elim (among_split v (visits book r) _ m) [
    | inl u ↦ (let c = visits_counted r v u in (omega (arith, c.0), c.1))
    | inr u ↦ (let c = among_unmap _ v (book.rule r).scope u in
        subst (λ (w : Visit). (w.rule < suc r) × Among w.place (book.rule w.rule).scope) (sym c.1) (omega arith, c.2))
  ]

  -- and each of them is visited
  pub visits_all : (r : ℕ) (v : Visit) → v.rule < r → Among v.place (book.rule v.rule).scope → Among v (visits book r)
  unfolding visits
  visits_all zero v h m = absurd (not-suc-le-zero h)
  visits_all (suc r) v h m = go (cases_eq v.rule r) (λ l. visits_all r v l m)
    where
      go : (v.rule ≡ r) ⊎ (v.rule ≡ r → ⊥) → (v.rule < r → Among v (visits book r)) → Among v (visits book (suc r))
      go (inl e) ih =
          let path : v ≡ visit_of r v.place = λ i. record { rule = e i; place = v.place } in
          among_right v (visits book r) (map (visit_of r) (book.rule r).scope)
          (subst (λ (w : Visit). Among w (map (visit_of r) (book.rule r).scope)) (sym path) (among_map (visit_of r) v.place (book.rule r).scope (rw e at m)))
      go (inr e) ih = among_left v (visits book r) (map (visit_of r) (book.rule r).scope) (ih (omega arith))
