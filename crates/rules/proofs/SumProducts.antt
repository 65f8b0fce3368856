-- Products of whole numbers: their order, their quotients, and how large they get. Assumes nothing.
use Rattle.std.proofs.Common.{◌≡◌, ℕ, zero, suc, ◌*◌, ◌/◌, ◌≤◌, true, false, ◌&&◌, ◌||◌, T, ◌⊎◌, ℤ, pos, negsuc, ◌*ℤ◌, neg_ℤ, ◌≤ℤ◌, ◌<ℤ◌, sym, refl, ap, ◌∙◌, subst, inl, inr, arith}
use lib.Signed.{le_z, lt_z, le_z_yes, lt_z_yes}
use Rattle.std.specs.Int.{int_div_euclid}
use Rattle.std.proofs.lemmas.Int.{ints}
use Rattle.std.proofs.lemmas.Nat.{le-div, div_below, div-add-mod', mod_below, mul-le}
use Rattle.std.proofs.lemmas.Bool.{lt-ltb, or_right}
use Rattle.spans.specs.Bools.{both, join, either, alike}
use Rattle.rules.specs.SumTerms.{is_coefficient}

-- what the test of a coefficient tells
pub record Coefficient (a : ℤ) : Type 0 where
  pub low : neg_ℤ (pos 10_000) ≤ℤ a
  pub high : a ≤ℤ pos 10_000
  pub some : a ≡ pos 0 → ⊥

pub coefficient_is : (a : ℤ) → T (is_coefficient a) → Coefficient a
coefficient_is a t =
    let s = both (le_z (neg_ℤ (pos 10_000)) a && le_z a (pos 10_000)) (lt_z a (pos 0) || lt_z (pos 0) a) t in
    let r = both (le_z (neg_ℤ (pos 10_000)) a) (le_z a (pos 10_000)) s.0 in
    record { low = le_z_yes r.0; high = le_z_yes r.1; some = λ e. go e (either (lt_z a (pos 0)) (lt_z (pos 0) a) s.1) }
  where
    go : a ≡ pos 0 → T (lt_z a (pos 0)) ⊎ T (lt_z (pos 0) a) → ⊥
    go e (inl l) = let h : a <ℤ pos 0 = lt_z_yes l in omega (arith, ints)
    go e (inr l) = let h : pos 0 <ℤ a = lt_z_yes l in omega (arith, ints)

pub above : (n : ℕ) → lt_z (pos 0) (pos (suc n)) ≡ true
above n = lt-ltb 0 (suc n) (omega arith)

pub coefficient_test : (a : ℤ) → Coefficient a → T (is_coefficient a)
coefficient_test a c = join (le_z (neg_ℤ (pos 10_000)) a && le_z a (pos 10_000)) _ (join (le_z (neg_ℤ (pos 10_000)) a) _ c.low.le c.high.le) (go a c)
  where
    go : (a : ℤ) → Coefficient a → T (lt_z a (pos 0) || lt_z (pos 0) a)
    go (pos zero) c = absurd (c.some refl)
    go (pos (suc n)) c = subst T (sym (or_right (lt_z (pos (suc n)) (pos 0)) _ (above n))) tt
    go (negsuc n) c = tt

-- a coefficient that is not above 0 is below it
pub below_zero : (a : ℤ) → T (is_coefficient a) → lt_z (pos 0) a ≡ false → a <ℤ pos 0
below_zero a t e = go a (coefficient_is a t) e
  where
    go : (a : ℤ) → Coefficient a → lt_z (pos 0) a ≡ false → a <ℤ pos 0
    go (pos zero) c e = absurd (c.some refl)
    go (pos (suc n)) c e = omega (arith, ints, e)
    go (negsuc n) c e = omega (arith, ints)

pub over_zero : (a : ℤ) → a <ℤ pos 0 → lt_z (pos 0) (neg_ℤ a) ≡ true
over_zero (pos n) h = absurd (omega (arith, ints))
over_zero (negsuc n) h = above n

-- with a factor above 0 products keep their order, and with another they turn it
pub times_up : (a x y : ℤ) → lt_z (pos 0) a ≡ true → x ≤ℤ y → (a *ℤ x) ≤ℤ (a *ℤ y)
times_up (pos n) (pos x) (pos y) e h = omega (arith, ints, mul-le n x n y (omega arith) (omega (arith, ints)))
times_up (pos n) (pos x) (negsuc y) e h = absurd (omega (arith, ints))
times_up (pos n) (negsuc x) (pos y) e h = omega (arith, ints)
times_up (pos n) (negsuc x) (negsuc y) e h = omega (arith, ints, mul-le n (suc y) n (suc x) (omega arith) (omega (arith, ints)))
times_up (negsuc n) x y e h = absurd (omega (arith, ints, e))

pub times_neg : (a x : ℤ) → neg_ℤ a *ℤ x ≡ neg_ℤ (a *ℤ x)
times_neg (pos zero) (pos x) = omega (arith, ints)
times_neg (pos zero) (negsuc x) = omega (arith, ints)
times_neg (pos (suc n)) (pos x) = omega (arith, ints)
times_neg (pos (suc n)) (negsuc x) = omega (arith, ints)
times_neg (negsuc n) (pos x) = omega (arith, ints)
times_neg (negsuc n) (negsuc x) = omega (arith, ints)

pub times_down : (a x y : ℤ) → lt_z (pos 0) a ≡ false → x ≤ℤ y → (a *ℤ y) ≤ℤ (a *ℤ x)
times_down (pos zero) x y e h = zeros x y
  where
    zeros : (x y : ℤ) → (pos zero *ℤ y) ≤ℤ (pos zero *ℤ x)
    zeros (pos x) (pos y) = omega (arith, ints)
    zeros (pos x) (negsuc y) = omega (arith, ints)
    zeros (negsuc x) (pos y) = omega (arith, ints)
    zeros (negsuc x) (negsuc y) = omega (arith, ints)
times_down (pos (suc n)) x y e h = absurd (omega (arith, ints, e))
times_down (negsuc n) x y e h =
    let k = times_up (pos (suc n)) x y (above n) h in
    let p = times_neg (pos (suc n)) x in
    let q = times_neg (pos (suc n)) y in
    omega (arith, ints, k, p, q)

-- a product is at most r exactly if the other factor is at most the quotient, rounded down
within_down : (n : ℕ) (x r : ℤ) → (pos (suc n) *ℤ x) ≤ℤ r → x ≤ℤ int_div_euclid r (pos (suc n))
within_down n (pos x) (pos r) h = omega (arith, ints, le-div x r (suc n) (omega arith) (omega (arith, ints)))
within_down n (pos x) (negsuc r) h = absurd (omega (arith, ints))
within_down n (negsuc x) (pos r) h = omega (arith, ints)
within_down n (negsuc x) (negsuc r) h = omega (arith, ints, div_below r (suc n) (suc x) (omega arith) (omega (arith, ints)))

down_within : (n : ℕ) (x r : ℤ) → x ≤ℤ int_div_euclid r (pos (suc n)) → (pos (suc n) *ℤ x) ≤ℤ r
down_within n (pos x) (pos r) h =
    let l : x ≤ r / suc n = omega (arith, ints) in
    omega (arith, ints, mul-le (suc n) x (suc n) (r / suc n) (omega arith) l, div-add-mod' r (suc n))
down_within n (pos x) (negsuc r) h = absurd (omega (arith, ints))
down_within n (negsuc x) (pos r) h = omega (arith, ints)
down_within n (negsuc x) (negsuc r) h =
    let l : suc (r / suc n) ≤ suc x = omega (arith, ints) in
    omega (arith, ints, mul-le (suc n) (suc (r / suc n)) (suc n) (suc x) (omega arith) l, div-add-mod' r (suc n), mod_below r (suc n) (omega arith))

pub quotient_test : (a x r : ℤ) → lt_z (pos 0) a ≡ true → le_z (a *ℤ x) r ≡ le_z x (int_div_euclid r a)
quotient_test (pos zero) x r e = absurd (omega (arith, ints, e))
quotient_test (pos (suc n)) x r e = alike _ _ (λ t. (within_down n x r (le_z_yes t)).le) (λ t. (down_within n x r (le_z_yes t)).le)
quotient_test (negsuc n) x r e = absurd (omega (arith, ints, e))

-- the same with a factor below 0: the other factor is at least a quotient, rounded up
pub quotient_test_neg : (a x r : ℤ) → Coefficient a → lt_z (pos 0) a ≡ false → le_z (a *ℤ x) r ≡ le_z (neg_ℤ (int_div_euclid r (neg_ℤ a))) x
quotient_test_neg (pos zero) x r c e = absurd (c.some refl)
quotient_test_neg (pos (suc n)) x r c e = absurd (omega (arith, ints, e))
quotient_test_neg (negsuc n) x r c e =
    ap (λ (z : ℤ). le_z z r) (turned n x) ∙ quotient_test (pos (suc n)) (neg_ℤ x) r (above n) ∙ alike _ _ (λ t. (turn (neg_ℤ x) (int_div_euclid r (pos (suc n))) x (le_z_yes t) refl).le) (λ t. (back (int_div_euclid r (pos (suc n))) x (le_z_yes t)).le)
  where
    turned : (n : ℕ) (x : ℤ) → negsuc n *ℤ x ≡ pos (suc n) *ℤ neg_ℤ x
    turned n (pos zero) = omega (arith, ints)
    turned n (pos (suc x)) = omega (arith, ints)
    turned n (negsuc x) = omega (arith, ints)

    turn : (y q x : ℤ) → y ≤ℤ q → y ≡ neg_ℤ x → neg_ℤ q ≤ℤ x
    turn y q x h e = omega (arith, ints)

    back : (q x : ℤ) → neg_ℤ q ≤ℤ x → neg_ℤ x ≤ℤ q
    back q x h = omega (arith, ints)

-- how far a product lies from 0
pub record Near (n : ℕ) (z : ℤ) : Type 0 where
  pub low : neg_ℤ (pos n) ≤ℤ z
  pub high : z ≤ℤ pos n

pub product_near : (m n : ℕ) (a x : ℤ) → Near m a → Near n x → Near (m * n) (a *ℤ x)
product_near m n (pos a) (pos x) p q = let l = mul-le a x m n (omega (arith, ints, p.high)) (omega (arith, ints, q.high)) in record { low = omega (arith, ints, l); high = omega (arith, ints, l) }
product_near m n (pos a) (negsuc x) p q = let l = mul-le a (suc x) m n (omega (arith, ints, p.high)) (omega (arith, ints, q.low)) in record { low = omega (arith, ints, l); high = omega (arith, ints, l) }
product_near m n (negsuc a) (pos x) p q = let l = mul-le (suc a) x m n (omega (arith, ints, p.low)) (omega (arith, ints, q.high)) in record { low = omega (arith, ints, l); high = omega (arith, ints, l) }
product_near m n (negsuc a) (negsuc x) p q = let l = mul-le (suc a) (suc x) m n (omega (arith, ints, p.low)) (omega (arith, ints, q.low)) in record { low = omega (arith, ints, l); high = omega (arith, ints, l) }
