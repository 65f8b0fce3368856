-- How many numbers pass a test: what that tells of the test. Assumes nothing.
use Rattle.std.proofs.Common.{◌≡◌, ℕ, zero, suc, ◌+◌, ◌<◌, ◌≤◌, Bool, true, false, cond, T, ℤ, refl, ⊎_elim, arith}
use Rattle.std.proofs.lemmas.Bool.{cases_lt, cases_eq}
use Rattle.spans.specs.Numbers.{number, counted}
use Rattle.spans.specs.Counts.{counted_none, counted_next}

-- 1 for a test that passes
one : Bool → ℕ
one b = cond b 1 0

one_yes : (b : Bool) → T b → one b ≡ 1
unfolding one
one_yes true t = refl
one_yes false t = absurd t

one_some : (b : Bool) → 0 < one b → T b
unfolding one
one_some true h = tt
one_some false h = absurd (omega arith)

one_most : (b : Bool) → one b ≤ 1
unfolding one
one_most true = omega arith
one_most false = omega arith

one_mono : (a b : Bool) → (T a → T b) → one a ≤ one b
unfolding one
one_mono true b f = omega (arith, one_yes b (f tt))
one_mono false b f = omega arith

next : (p : ℤ → Bool) (n : ℕ) → counted p (suc n) ≡ counted p n + one (p (number n))
unfolding one
next p n = counted_next p n

module _ (p q : ℤ → Bool) (only : (x : ℤ) → T (p x) → T (q x)) where
  -- a test that passes no more numbers counts no more
  pub counted_mono : (n : ℕ) → counted p n ≤ counted q n
  counted_mono zero = omega (arith, counted_none p, counted_none q)
  counted_mono (suc n) = omega (arith, next p n, next q n, counted_mono n, one_mono (p (number n)) (q (number n)) (only (number n)))

  -- and if it counts as many, it passes the same
  pub counted_level : (n : ℕ) → counted p n ≡ counted q n → (i : ℕ) → i < n → T (q (number i)) → T (p (number i))
  counted_level zero e i h t = absurd (omega arith)
  counted_level (suc n) e i h t =
      let low = counted_mono n in
      let last = one_mono (p (number n)) (q (number n)) (only (number n)) in
      ⊎_elim
      (λ s. rw s (one_some (p (number n)) (omega (arith, next p n, next q n, one_yes (q (number n)) (rw s at t)))))
      (λ s. counted_level n (omega (arith, next p n, next q n)) i (omega arith) t)
      (cases_eq i n)

module _ (p : ℤ → Bool) where
  -- what passes is counted
  pub counted_has : (n i : ℕ) → i < n → T (p (number i)) → 0 < counted p n
  counted_has zero i h t = absurd (omega arith)
  counted_has (suc n) i h t =
      ⊎_elim
      (λ s. omega (arith, next p n, one_yes (p (number n)) (rw s at t)))
      (λ s. omega (arith, next p n, counted_has n i (omega arith) t))
      (cases_eq i n)

  -- what is counted has passed
  pub counted_some : (n : ℕ) → 0 < counted p n → (i : ℕ) × (i < n) × T (p (number i))
  counted_some zero h = absurd (omega (arith, counted_none p))
  counted_some (suc n) h =
      ⊎_elim
      (λ s. let r = counted_some n s in (r.0, omega (arith, r.1), r.2))
      (λ s. (n, omega arith, one_some (p (number n)) (omega (arith, next p n))))
      (cases_lt 0 (counted p n))

  -- where the first i numbers have one that passes and i passes too, there are two
  pub counted_two : (n i : ℕ) → i < n → 0 < counted p i → T (p (number i)) → 1 < counted p n
  counted_two zero i h s t = absurd (omega arith)
  counted_two (suc n) i h s t =
      ⊎_elim
      (λ e. omega (arith, next p n, one_yes (p (number n)) (rw e at t), rw e at s))
      (λ e. omega (arith, next p n, counted_two n i (omega arith) s t))
      (cases_eq i n)

  -- at most one is counted where no two pass
  pub counted_alone : (n : ℕ) → ((i j : ℕ) → i < j → j < n → T (p (number i)) → T (p (number j)) → ⊥) → counted p n ≤ 1
  counted_alone zero f = omega (arith, counted_none p)
  counted_alone (suc n) f =
      let fewer = counted_alone n (λ i j h k. f i j h (omega arith)) in
      ⊎_elim
      (λ t. ⊎_elim
      (λ s. let r = counted_some n s in absurd (f r.0 n r.1 (omega arith) r.2 (one_some (p (number n)) t)))
      (λ s. omega (arith, next p n, one_most (p (number n))))
      (cases_lt 0 (counted p n)))
      (λ t. omega (arith, next p n))
      (cases_lt 0 (one (p (number n))))
