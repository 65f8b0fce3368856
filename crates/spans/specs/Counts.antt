-- Lemmas on counting, for the laws of the kinds. Assumes nothing.
use Rattle.std.specs.Prelude.{◌≡◌, ℕ, zero, suc, ◌+◌, ◌-◌, ◌<◌, ◌≤◌, Bool, true, false, cond, ℤ, pos, negsuc}
use Rattle.std.proofs.Math.Path.{refl}
use Rattle.std.proofs.Common.{◌∙◌, ap, add-zero, zero-add, add-suc, arith}
use Rattle.std.proofs.lemmas.Int.{ints}
use Rattle.spans.specs.Numbers.{Number, million, number, numbers, counted}

-- each number has its place
pub place : (x : ℤ) → Number x → (i : ℕ) × (i < numbers) × (x ≡ number i)
place (pos n) r = (n + million, omega (arith, ints, r.high), omega (arith, ints))
place (negsuc n) r = (million - suc n, omega (arith, ints, r.low), omega (arith, ints, r.low))

module _ (test : ℤ → Bool) where
  pub counted_none : counted test zero ≡ 0
  unfolding counted
  counted_none = refl

  pub counted_next : (n : ℕ) → counted test (suc n) ≡ counted test n + cond (test (number n)) 1 0
  unfolding counted
  counted_next n = refl

  -- a stretch of j numbers from m on, of which none passes
  pub counted_gap : (m j : ℕ) → ((i : ℕ) → m ≤ i → i < m + j → test (number i) ≡ false) → counted test (m + j) ≡ counted test m
  counted_gap m zero f = ap (counted test) (add-zero m)
  counted_gap m (suc j) f =
      ap (counted test) (add-suc m j) ∙ counted_next (m + j) ∙ ap (λ (b : Bool). counted test (m + j) + cond b 1 0) (f (m + j) (omega arith) (omega arith))
      ∙ add-zero (counted test (m + j)) ∙ counted_gap m j (λ i h k. f i h (omega arith))

  -- one of which each passes
  pub counted_run : (m j : ℕ) → ((i : ℕ) → m ≤ i → i < m + j → test (number i) ≡ true) → counted test (m + j) ≡ counted test m + j
  counted_run m zero f = ap (counted test) (add-zero m) ∙ omega arith
  counted_run m (suc j) f =
      ap (counted test) (add-suc m j) ∙ counted_next (m + j) ∙ ap (λ (b : Bool). counted test (m + j) + cond b 1 0) (f (m + j) (omega arith) (omega arith))
      ∙ omega (arith, counted_run m j (λ i h k. f i h (omega arith)))

  -- exactly the numbers at the places m to n pass
  pub counted_range : (m n : ℕ) → m ≤ n → n < numbers → ((i : ℕ) → i < m → test (number i) ≡ false) → ((i : ℕ) → m ≤ i → i ≤ n → test (number i) ≡ true) → ((i : ℕ) → n < i → test (number i) ≡ false)
      → counted test numbers ≡ suc n - m
  counted_range m n h k before within after =
      let rest : numbers ≡ m + (suc n - m) + (numbers - suc n) = omega arith in
      ap (counted test) rest ∙ counted_gap (m + (suc n - m)) (numbers - suc n) (λ i j l. after i (omega arith)) ∙ counted_run m (suc n - m) (λ i j l. within i j (omega arith))
      ∙ omega (arith, counted_gap 0 m (λ i j l. before i (omega arith)), counted_none, zero-add m, ap (counted test) (zero-add m))
