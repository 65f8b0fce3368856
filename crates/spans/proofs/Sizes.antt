-- What the size of a span tells, whatever its kind. Assumes nothing.
use Rattle.std.proofs.Common.{◌≡◌, ℕ, ◌<◌, ◌≤◌, Bool, true, false, T, ltb, ◌≢◌, ◌⊎◌, ℤ, MatchBool, sym, refl, ap, ◌∙◌, subst, inl, inr, arith}
use borrow.Author.Differences.{ints}
use Rattle.std.proofs.lemmas.Bool.{cases_order, cases_lt, ltb-true, ltb-false}
use Rattle.spans.specs.Numbers.{number, numbers}
use Rattle.spans.specs.Kind.{Kind, Empty, Within, Single}
use Rattle.spans.specs.Bools.{alike}
use Rattle.spans.specs.Counts.{place}
use Rattle.spans.proofs.Counting.{counted_mono, counted_level, counted_has, counted_some, counted_two, counted_alone}

module _ {S : Type 0} (kind : Kind S) where
  -- an admitted number, by its place
  at_place : (a : S) (x : ℤ) → T (kind.admits a x) → (i : ℕ) × (i < numbers) × (x ≡ number i) × T (kind.admits a (number i))
  at_place a x t =
      let p = place x (kind.within_range a x t) in
      (p.0, p.1, p.2, subst (λ (y : ℤ). T (kind.admits a y)) p.2 t)

  -- a span that admits only what another admits has no more numbers
  pub size_within : (a b : S) → Within kind a b → kind.size a ≤ kind.size b
  size_within a b w = rw (kind.size_counts a, kind.size_counts b) (counted_mono (kind.admits a) (kind.admits b) w numbers)

  -- and as many only if it is the other
  pub size_level : (a b : S) → Within kind a b → kind.size a ≡ kind.size b → a ≡ b
  size_level a b w e = kind.same a b (λ x. alike (kind.admits a x) (kind.admits b x) (w x) (back x))
    where
      back : (x : ℤ) → T (kind.admits b x) → T (kind.admits a x)
      back x t =
          let p = at_place b x t in
          subst (λ (y : ℤ). T (kind.admits a y)) (sym p.2)
          (counted_level (kind.admits a) (kind.admits b) w numbers (sym (kind.size_counts a) ∙ e ∙ kind.size_counts b) p.0 p.1 p.3)

  -- a span that admits a number is not of size 0
  pub size_some : (a : S) (x : ℤ) → T (kind.admits a x) → 0 < kind.size a
  size_some a x t = let p = at_place a x t in rw (kind.size_counts a) (counted_has (kind.admits a) numbers p.0 p.1 p.3)

  -- and a span that is not of size 0 admits its least number
  pub some_least : (a : S) → 0 < kind.size a → T (kind.admits a (kind.least a))
  some_least a h =
      let r = counted_some (kind.admits a) numbers (rw (kind.size_counts a) at h) in
      kind.least_admitted a (number r.0) r.2

  pub zero_empty : (a : S) → kind.size a ≡ 0 → Empty kind a
  zero_empty a e x = alike (kind.admits a x) false (λ t. absurd (omega (arith, size_some a x t))) (λ t. absurd t)

  pub empty_zero : (a : S) → Empty kind a → kind.size a ≡ 0
  empty_zero a f = go (cases_lt 0 (kind.size a))
    where
      go : (0 < kind.size a) ⊎ (kind.size a ≤ 0) → kind.size a ≡ 0
      go (inl h) = absurd (subst T (f (kind.least a)) (some_least a h))
      go (inr h) = omega arith

  pub one_single : (a : S) → kind.size a ≡ 1 → Single kind a
  one_single a e = record { it = kind.least a; admitted = first; alone = λ x t. only x (kind.least a) t first }
    where
      first : T (kind.admits a (kind.least a))
      first = some_least a (omega arith)

      -- no two places are admitted
      never : (i j : ℕ) → i < j → j < numbers → T (kind.admits a (number i)) → T (kind.admits a (number j)) → ⊥
      never i j h k s t =
          let two = counted_two (kind.admits a) numbers j k (counted_has (kind.admits a) j i h s) t in
          let c = kind.size_counts a in
          omega (arith, two, c)

      only : (x y : ℤ) → T (kind.admits a x) → T (kind.admits a y) → x ≡ y
      only x y s t =
          let p = at_place a x s in
          let q = at_place a y t in
          p.2 ∙ ap number (go p.0 q.0 p.1 q.1 p.3 q.3 (cases_order p.0 q.0)) ∙ sym q.2
        where
          go : (i j : ℕ) → i < numbers → j < numbers → T (kind.admits a (number i)) → T (kind.admits a (number j)) → (i ≡ j) ⊎ ((i < j) ⊎ (j < i)) → i ≡ j
          go i j h k s t (inl e) = e
          go i j h k s t (inr (inl l)) = absurd (never i j l k s t)
          go i j h k s t (inr (inr l)) = absurd (never j i l h t s)

  pub single_one : (a : S) → Single kind a → kind.size a ≡ 1
  single_one a s =
      let some = size_some a s.it s.admitted in
      let most = counted_alone (kind.admits a) numbers (λ i j h k t u. apart i j h (s.alone (number i) t ∙ sym (s.alone (number j) u))) in
      let c = kind.size_counts a in
      omega (arith, some, most, c)
    where
      apart : (i j : ℕ) → i < j → number i ≡ number j → ⊥
      apart i j h e = omega (arith, ints, e)

  -- so of a span within another the sizes tell whether the two differ
  pub told_apart : (a b : S) → Within kind a b → MatchBool (ltb (kind.size a) (kind.size b)) (a ≢ b) (a ≡ b)
  told_apart a b w = go (ltb (kind.size a) (kind.size b)) refl
    where
      go : (t : Bool) → ltb (kind.size a) (kind.size b) ≡ t → MatchBool t (a ≢ b) (a ≡ b)
      go true e = λ p. let n = ap kind.size p in let l = ltb-true (kind.size a) (kind.size b) e in omega arith
      go false e = let l = ltb-false (kind.size a) (kind.size b) e in size_level a b w (omega (arith, size_within a b w))
