-- The numbers that may stay are the whole numbers of the projection. Assumes nothing.
use Rattle.std.proofs.Common.{◌≡◌, ℕ, zero, suc, ◌<◌, Bool, true, false, cond, ◌&&◌, T, List, [], ◌∷◌, ℤ, pos, negsuc, ◌+ℤ◌, ◌-ℤ◌, ◌*ℤ◌, neg_ℤ, ◌≤ℤ◌, sym, refl, ap, ◌∙◌, subst, ap₂, arith}
use lib.Signed.{le_z, lt_z, le_z_yes}
use Rattle.std.specs.Int.{int_div_euclid}
use Rattle.std.proofs.lemmas.Int.{ints}
use Rattle.std.proofs.lemmas.Bool.{lt-ltb, le-ltb}
use Rattle.spans.specs.Bools.{alike}
use Rattle.spans.specs.declared.amount.Amount.{Amount}
use Rattle.rules.specs.Sums.{total, others, least_on, greatest_on, least_product_of, greatest_product_of, low, high, coefficient_at, may_stay}
use Rattle.rules.specs.SumIntervals.{Interval, minus, extension, Rational, whole, NotAbove, minus_inverse, times, scaled, round_down, round_up, turned, bounded, inward, in_range, projected}
use Rattle.rules.specs.SumConsistency.{RoundingLaw}
use Rattle.rules.specs.declared.sums.term.Relation.{Relation}
use Rattle.rules.specs.declared.sums.term.Relation.TheVariants.{AtMost, AtLeast, Equal}
use Rattle.rules.specs.declared.sums.term.Term.{Term}
use Rattle.rules.proofs.SumProducts.{Coefficient, times_neg, quotient_test}

-- the terms on intervals give low and high
extension_lower : (b : List Amount) (ts : List Term) → (extension b ts).lower ≡ total (least_on b) ts
unfolding extension total least_product_of
extension_lower b [] = refl
extension_lower b (t ∷ ts) = ap (λ (z : ℤ). least_on b t +ℤ z) (extension_lower b ts)

extension_upper : (b : List Amount) (ts : List Term) → (extension b ts).upper ≡ total (greatest_on b) ts
unfolding extension total greatest_product_of
extension_upper b [] = refl
extension_upper b (t ∷ ts) = ap (λ (z : ℤ). greatest_on b t +ℤ z) (extension_upper b ts)

-- ---- rounding

positive_sign : (d : ℕ) → 0 < d → lt_z (pos 0) (pos d) ≡ true
positive_sign d h = lt-ltb 0 d h

-- x is at most the rounded number exactly if it is at most the number
pub under_down : (q : Rational) (x : ℤ) → le_z x (round_down q) ≡ le_z (pos q.denominator *ℤ x) q.numerator
under_down q x = sym (quotient_test (pos q.denominator) x q.numerator (positive_sign q.denominator q.positive))

pub over_up : (q : Rational) (x : ℤ) → le_z (round_up q) x ≡ le_z q.numerator (pos q.denominator *ℤ x)
over_up q x =
    alike _ _ (λ t. (turn (int_div_euclid (neg_ℤ q.numerator) (pos q.denominator)) x (le_z_yes t)).le) (λ t. (turn' (int_div_euclid (neg_ℤ q.numerator) (pos q.denominator)) x (le_z_yes t)).le)
    ∙ sym (quotient_test (pos q.denominator) (neg_ℤ x) (neg_ℤ q.numerator) (positive_sign q.denominator q.positive))
    ∙ ap (λ (z : ℤ). le_z z (neg_ℤ q.numerator)) (neg_right (pos q.denominator) x)
    ∙ alike _ _ (λ t. (flip (pos q.denominator *ℤ x) q.numerator (le_z_yes t)).le) (λ t. (flip' (pos q.denominator *ℤ x) q.numerator (le_z_yes t)).le)
  where
    turn : (d x : ℤ) → neg_ℤ d ≤ℤ x → neg_ℤ x ≤ℤ d
    turn d x h = omega (arith, ints)

    turn' : (d x : ℤ) → neg_ℤ x ≤ℤ d → neg_ℤ d ≤ℤ x
    turn' d x h = omega (arith, ints)

    flip : (p n : ℤ) → neg_ℤ p ≤ℤ neg_ℤ n → n ≤ℤ p
    flip p n h = omega (arith, ints)

    flip' : (p n : ℤ) → n ≤ℤ p → neg_ℤ p ≤ℤ neg_ℤ n
    flip' p n h = omega (arith, ints)

    neg_right : (a x : ℤ) → a *ℤ neg_ℤ x ≡ neg_ℤ (a *ℤ x)
    neg_right (pos a) (pos zero) = omega (arith, ints)
    neg_right (pos a) (pos (suc x)) = omega (arith, ints)
    neg_right (pos a) (negsuc x) = omega (arith, ints)
    neg_right (negsuc a) (pos zero) = omega (arith, ints)
    neg_right (negsuc a) (pos (suc x)) = omega (arith, ints)
    neg_right (negsuc a) (negsuc x) = omega (arith, ints)

one_times : (z : ℤ) → pos 1 *ℤ z ≡ z
one_times (pos n) = omega (arith, ints)
one_times (negsuc n) = omega (arith, ints)

minus_times : (z : ℤ) → negsuc 0 *ℤ z ≡ neg_ℤ z
minus_times z = times_neg (pos 1) z ∙ ap neg_ℤ (one_times z)

pub rounding : RoundingLaw
rounding = record {
  down = λ q. (not_above q (round_down q) (le_z_yes (subst T (under_down q (round_down q)) (self (round_down q)))), λ z h. le_z_yes (subst T (sym (under_down q z)) (is_above q z h).le));
  up = λ q. (not_below q (round_up q) (le_z_yes (subst T (over_up q (round_up q)) (self (round_up q)))), λ z h. le_z_yes (subst T (sym (over_up q z)) (is_below q z h).le));
}
  where
    self : (z : ℤ) → T (le_z z z)
    self z = let h : z ≤ℤ z = omega (arith, ints) in h.le

    not_above : (q : Rational) (z : ℤ) → (pos q.denominator *ℤ z) ≤ℤ q.numerator → NotAbove (whole z) q
    not_above q z h = subst (λ (y : ℤ). (pos q.denominator *ℤ z) ≤ℤ y) (sym (one_times q.numerator)) h

    is_above : (q : Rational) (z : ℤ) → NotAbove (whole z) q → (pos q.denominator *ℤ z) ≤ℤ q.numerator
    is_above q z h = subst (λ (y : ℤ). (pos q.denominator *ℤ z) ≤ℤ y) (one_times q.numerator) h

    not_below : (q : Rational) (z : ℤ) → q.numerator ≤ℤ (pos q.denominator *ℤ z) → NotAbove q (whole z)
    not_below q z h = subst (λ (y : ℤ). y ≤ℤ (pos q.denominator *ℤ z)) (sym (one_times q.numerator)) h

    is_below : (q : Rational) (z : ℤ) → NotAbove q (whole z) → q.numerator ≤ℤ (pos q.denominator *ℤ z)
    is_below q z h = subst (λ (y : ℤ). y ≤ℤ (pos q.denominator *ℤ z)) (one_times q.numerator) h

-- ---- the two sides

-- the products of a coefficient above 0
module _ (n : ℕ) (l bound x : ℤ) where
  q₁ : Rational
  q₁ = times (minus_inverse (pos (suc n))) (l -ℤ bound)

  above_to : le_z x (round_down q₁) ≡ le_z (pos (suc n) *ℤ x +ℤ l) bound
  unfolding q₁
  above_to =
      under_down q₁ x ∙ ap (λ (z : ℤ). le_z (pos (suc n) *ℤ x) z) (minus_times (l -ℤ bound))
      ∙ alike _ _ (λ t. (one (pos (suc n) *ℤ x) (le_z_yes t)).le) (λ t. (two (pos (suc n) *ℤ x) (le_z_yes t)).le)
    where
      one : (p : ℤ) → p ≤ℤ neg_ℤ (l -ℤ bound) → (p +ℤ l) ≤ℤ bound
      one p h = omega (arith, ints)

      two : (p : ℤ) → (p +ℤ l) ≤ℤ bound → p ≤ℤ neg_ℤ (l -ℤ bound)
      two p h = omega (arith, ints)

  above_from : le_z (round_up q₁) x ≡ le_z bound (pos (suc n) *ℤ x +ℤ l)
  unfolding q₁
  above_from =
      over_up q₁ x ∙ ap (λ (z : ℤ). le_z z (pos (suc n) *ℤ x)) (minus_times (l -ℤ bound))
      ∙ alike _ _ (λ t. (one (pos (suc n) *ℤ x) (le_z_yes t)).le) (λ t. (two (pos (suc n) *ℤ x) (le_z_yes t)).le)
    where
      one : (p : ℤ) → neg_ℤ (l -ℤ bound) ≤ℤ p → bound ≤ℤ (p +ℤ l)
      one p h = omega (arith, ints)

      two : (p : ℤ) → bound ≤ℤ (p +ℤ l) → neg_ℤ (l -ℤ bound) ≤ℤ p
      two p h = omega (arith, ints)

-- and of one below 0
module _ (n : ℕ) (l bound x : ℤ) where
  q₂ : Rational
  q₂ = times (minus_inverse (negsuc n)) (l -ℤ bound)

  turned_product : negsuc n *ℤ x ≡ neg_ℤ (pos (suc n) *ℤ x)
  turned_product = times_neg (pos (suc n)) x

  below_to : le_z x (round_down q₂) ≡ le_z bound (negsuc n *ℤ x +ℤ l)
  unfolding q₂
  below_to =
      under_down q₂ x ∙ ap (λ (z : ℤ). le_z (pos (suc n) *ℤ x) z) (one_times (l -ℤ bound))
      ∙ alike _ _ (λ t. (one (pos (suc n) *ℤ x) (le_z_yes t)).le) (λ t. (two (pos (suc n) *ℤ x) (le_z_yes t)).le)
      ∙ ap (λ (z : ℤ). le_z bound (z +ℤ l)) (sym turned_product)
    where
      one : (p : ℤ) → p ≤ℤ (l -ℤ bound) → bound ≤ℤ (neg_ℤ p +ℤ l)
      one p h = omega (arith, ints)

      two : (p : ℤ) → bound ≤ℤ (neg_ℤ p +ℤ l) → p ≤ℤ (l -ℤ bound)
      two p h = omega (arith, ints)

  below_from : le_z (round_up q₂) x ≡ le_z (negsuc n *ℤ x +ℤ l) bound
  unfolding q₂
  below_from =
      over_up q₂ x ∙ ap (λ (z : ℤ). le_z z (pos (suc n) *ℤ x)) (one_times (l -ℤ bound))
      ∙ alike _ _ (λ t. (one (pos (suc n) *ℤ x) (le_z_yes t)).le) (λ t. (two (pos (suc n) *ℤ x) (le_z_yes t)).le)
      ∙ ap (λ (z : ℤ). le_z (z +ℤ l) bound) (sym turned_product)
    where
      one : (p : ℤ) → (l -ℤ bound) ≤ℤ p → (neg_ℤ p +ℤ l) ≤ℤ bound
      one p h = omega (arith, ints)

      two : (p : ℤ) → (neg_ℤ p +ℤ l) ≤ℤ bound → (l -ℤ bound) ≤ℤ p
      two p h = omega (arith, ints)

and_true : (t : Bool) → (t && true) ≡ t
and_true true = refl
and_true false = refl

and_swap : (s t : Bool) → (s && t) ≡ (t && s)
and_swap true t = sym (and_true t)
and_swap false true = refl
and_swap false false = refl

-- ---- the projection, from the coefficient and what the other terms come to

projected_of : Relation → ℤ → ℤ → Interval ℤ → ℤ → Bool
projected_of relation a bound rest x = in_range (inward (bounded (cond (lt_z a (pos 0)) (turned relation) relation) (scaled (minus_inverse a) (minus rest bound)))) x

stay_of : Relation → ℤ → ℤ → Interval ℤ → ℤ → Bool
stay_of AtMost a bound rest x = le_z (a *ℤ x +ℤ rest.lower) bound
stay_of AtLeast a bound rest x = le_z bound (a *ℤ x +ℤ rest.upper)
stay_of Equal a bound rest x = le_z (a *ℤ x +ℤ rest.lower) bound && le_z bound (a *ℤ x +ℤ rest.upper)

stay_projected : (relation : Relation) (a bound : ℤ) (rest : Interval ℤ) (x : ℤ) → Coefficient a → stay_of relation a bound rest x ≡ projected_of relation a bound rest x
unfolding projected_of stay_of q₁ q₂
stay_projected relation (pos zero) bound rest x c = absurd (c.some refl)
stay_projected relation (pos (suc n)) bound rest x c = go relation (lt_z (pos (suc n)) (pos 0)) (le-ltb (suc n) 0 (omega arith))
  where
    go : (relation : Relation) (s : Bool) → s ≡ false → stay_of relation (pos (suc n)) bound rest x ≡ in_range (inward (bounded (cond s (turned relation) relation) (scaled (minus_inverse (pos (suc n))) (minus rest bound)))) x
    go AtMost true e = absurd (subst T e tt)
    go AtMost false e = sym (above_to n rest.lower bound x)
    go AtLeast true e = absurd (subst T e tt)
    go AtLeast false e = sym (above_from n rest.upper bound x) ∙ sym (and_true (le_z (round_up (q₁ n rest.upper bound x)) x))
    go Equal true e = absurd (subst T e tt)
    go Equal false e = and_swap (le_z (pos (suc n) *ℤ x +ℤ rest.lower) bound) (le_z bound (pos (suc n) *ℤ x +ℤ rest.upper)) ∙ ap₂ ◌&&◌ (sym (above_from n rest.upper bound x)) (sym (above_to n rest.lower bound x))
stay_projected AtMost (negsuc n) bound rest x c = sym (below_from n rest.lower bound x) ∙ sym (and_true (le_z (round_up (q₂ n rest.lower bound x)) x))
stay_projected AtLeast (negsuc n) bound rest x c = sym (below_to n rest.upper bound x)
stay_projected Equal (negsuc n) bound rest x c = ap₂ ◌&&◌ (sym (below_from n rest.lower bound x)) (sym (below_to n rest.upper bound x))

-- the numbers that may stay are those of the projection
pub may_projected : (relation : Relation) (bound : ℤ) (ts : List Term) (i : ℕ) (b : List Amount) (x : ℤ) → Coefficient (coefficient_at ts i) → may_stay relation bound ts i b x ≡ projected relation bound ts i b x
unfolding projected_of stay_of low high
may_projected relation bound ts i b x c = stays relation ∙ stay_projected relation (coefficient_at ts i) bound (extension b (others i ts)) x c
  where
    stays : (relation : Relation) → may_stay relation bound ts i b x ≡ stay_of relation (coefficient_at ts i) bound (extension b (others i ts)) x
    stays AtMost = ap (λ (z : ℤ). le_z (coefficient_at ts i *ℤ x +ℤ z) bound) (sym (extension_lower b (others i ts)))
    stays AtLeast = ap (λ (z : ℤ). le_z bound (coefficient_at ts i *ℤ x +ℤ z)) (sym (extension_upper b (others i ts)))
    stays Equal = ap₂ (λ (y z : ℤ). le_z (coefficient_at ts i *ℤ x +ℤ y) bound && le_z bound (coefficient_at ts i *ℤ x +ℤ z)) (sym (extension_lower b (others i ts))) (sym (extension_upper b (others i ts)))
