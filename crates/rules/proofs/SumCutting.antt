-- What is kept of a span, and what it admits. Assumes nothing.
use Rattle.std.proofs.Common.{◌≡◌, ℕ, Bool, true, false, cond, ◌&&◌, T, ℤ, pos, negsuc, ◌*ℤ◌, neg_ℤ, ◌≤ℤ◌, ◌<ℤ◌, sym, refl, ap, ◌∙◌, subst, ⊎_elim, div-le_self, arith}
use lib.Signed.{le_z, lt_z, le_z_yes}
use Rattle.std.specs.Int.{int_div_euclid, int_max, int_min}
use Rattle.std.proofs.lemmas.Int.{ints, clamps}
use Rattle.std.proofs.lemmas.Bool.{cond-true, cond-false}
use Rattle.spans.specs.Bools.{both, join, alike}
use Rattle.spans.specs.Bounds.{bounded}
use Rattle.spans.specs.BoundLaws.{Bounded, bounded_is, is_bounded}
use Rattle.spans.specs.Amounts.{amount_admits, amount_from, from_to, no_amount}
use Rattle.spans.specs.AmountLaws.{bounds, admits_is, is_admitted, from_admits}
use Rattle.spans.specs.declared.amount.Amount.{Amount}
use Rattle.spans.proofs.Amounting.{from_empty}
use Rattle.rules.specs.Sums.{keep_at_most, keep_at_least}
use Rattle.rules.proofs.SumProducts.{Coefficient, Near, quotient_test, quotient_test_neg, times_neg}

-- an amount inside a span admits of the span's numbers those that pass a test, if its bounds say the same as the test
from_cut : (s : Amount) (f c x : ℤ) (t : Bool) → s.floor ≤ℤ f → c ≤ℤ s.ceiling → (f ≤ℤ x → x ≤ℤ c → T t) → (s.floor ≤ℤ x → x ≤ℤ s.ceiling → T t → (f ≤ℤ x) × (x ≤ℤ c))
    → amount_admits (amount_from f c) x ≡ (amount_admits s x && t)
from_cut s f c x t l h to back = from_admits f c x ∙ alike _ _ into out
  where
    into : T (bounded f c && from_to f c x) → T (amount_admits s x && t)
    into u =
        let v = both (le_z f x) (le_z x c) (both (bounded f c) (from_to f c x) u).1 in
        let p : f ≤ℤ x = le_z_yes v.0 in
        let q : x ≤ℤ c = le_z_yes v.1 in
        join (amount_admits s x) t (is_admitted s x (omega (arith, ints)) (omega (arith, ints))) (to p q)

    out : T (amount_admits s x && t) → T (bounded f c && from_to f c x)
    out u =
        let v = both (amount_admits s x) t u in
        let a = admits_is s x v.0 in
        let p = a.0 in
        let q = a.1 in
        let r = back p q v.1 in
        let i = r.0 in
        let j = r.1 in
        let in_bounds : Bounded f c = ⊎_elim
        (λ k. record { low = omega (arith, ints, k.low); order = omega (arith, ints, i, j); high = omega (arith, ints, k.high) })
        (λ e. absurd (omega (arith, ints, p, q, e.0, e.1)))
        (bounds s) in
        join (bounded f c) (from_to f c x) (is_bounded f c in_bounds) (join (le_z f x) (le_z x c) i.le j.le)

to_true : {t u : Bool} → t ≡ u → T u → T t
to_true e h = subst T (sym e) h

-- what is kept are the numbers of the span whose product with a is at most r
pub at_most_exact : (a r : ℤ) (s : Amount) (x : ℤ) → Coefficient a → amount_admits (keep_at_most a r s) x ≡ (amount_admits s x && le_z (a *ℤ x) r)
unfolding keep_at_most
at_most_exact a r s x c = go (lt_z (pos 0) a) refl
  where
    go : (e : Bool) → lt_z (pos 0) a ≡ e → amount_admits (cond e (amount_from s.floor (int_min (int_div_euclid r a) s.ceiling)) (amount_from (int_max (neg_ℤ (int_div_euclid r (neg_ℤ a))) s.floor) s.ceiling)) x ≡ (amount_admits s x && le_z (a *ℤ x) r)
    go true e =
        let q = int_div_euclid r a in
        let t = quotient_test a x r e in
        from_cut s s.floor (int_min q s.ceiling) x (le_z (a *ℤ x) r) (omega (arith, ints)) (under q s.ceiling).0
        (λ l h. to_true t (below q s.ceiling x h).le)
        (λ l h u. (l, least q s.ceiling x (le_z_yes (subst T t u)) h))
      where
        under : (q c : ℤ) → (int_min q c ≤ℤ c) × (int_min q c ≤ℤ q)
        under q c = (omega (arith, ints, clamps), omega (arith, ints, clamps))

        below : (q c x : ℤ) → x ≤ℤ int_min q c → x ≤ℤ q
        below q c x h = omega (arith, ints, clamps)

        least : (q c x : ℤ) → x ≤ℤ q → x ≤ℤ c → x ≤ℤ int_min q c
        least q c x h k = omega (arith, ints, clamps)
    go false e =
        let q = neg_ℤ (int_div_euclid r (neg_ℤ a)) in
        let t = quotient_test_neg a x r c e in
        from_cut s (int_max q s.floor) s.ceiling x (le_z (a *ℤ x) r) (over q s.floor) (omega (arith, ints))
        (λ l h. to_true t (above q s.floor x l).le)
        (λ l h u. (most q s.floor x (le_z_yes (subst T t u)) l, h))
      where
        over : (q f : ℤ) → f ≤ℤ int_max q f
        over q f = omega (arith, ints, clamps)

        above : (q f x : ℤ) → int_max q f ≤ℤ x → q ≤ℤ x
        above q f x h = omega (arith, ints, clamps)

        most : (q f x : ℤ) → q ≤ℤ x → f ≤ℤ x → int_max q f ≤ℤ x
        most q f x h k = omega (arith, ints, clamps)

pub negated : (a : ℤ) → Coefficient a → Coefficient (neg_ℤ a)
negated a c = record { low = omega (arith, ints, c.high); high = omega (arith, ints, c.low); some = λ e. c.some (omega (arith, ints, e)) }

pub at_least_exact : (a r : ℤ) (s : Amount) (x : ℤ) → Coefficient a → amount_admits (keep_at_least a r s) x ≡ (amount_admits s x && le_z r (a *ℤ x))
at_least_exact a r s x c =
    at_most_exact (neg_ℤ a) (neg_ℤ r) s x (negated a c)
    ∙ ap (λ (t : Bool). amount_admits s x && t) (ap (λ (z : ℤ). le_z z (neg_ℤ r)) (times_neg a x) ∙ alike _ _ (λ t. (turn (a *ℤ x) r (le_z_yes t)).le) (λ t. (back (a *ℤ x) r (le_z_yes t)).le))
  where
    turn : (p r : ℤ) → neg_ℤ p ≤ℤ neg_ℤ r → r ≤ℤ p
    turn p r h = omega (arith, ints)

    back : (p r : ℤ) → r ≤ℤ p → neg_ℤ p ≤ℤ neg_ℤ r
    back p r h = omega (arith, ints)

-- ---- how it is computed

-- no floor lies above its ceiling
pub out_of_order : (f c : ℤ) → c <ℤ f → no_amount ≡ amount_from f c
out_of_order f c h = from_empty no_amount f c (alike (bounded f c) false (λ t. let b = bounded_is f c t in omega (arith, ints, b.order)) (λ t. absurd t)) refl

-- a quotient lies no farther from 0
pub quotient_near : (n : ℕ) (a r : ℤ) → lt_z (pos 0) a ≡ true → Near n r → Near n (int_div_euclid r a)
quotient_near n (pos k) (pos r) e p = let l = div-le_self r k in record { low = omega (arith, ints); high = omega (arith, ints, p.high, l) }
quotient_near n (pos k) (negsuc r) e p = let l = div-le_self r k in record { low = omega (arith, ints, p.low, l); high = omega (arith, ints) }
quotient_near n (negsuc k) r e p = absurd (omega (arith, ints, e))

pub keep_above : (a r q : ℤ) (s : Amount) → lt_z (pos 0) a ≡ true → q ≡ int_div_euclid r a → amount_from s.floor (int_min q s.ceiling) ≡ keep_at_most a r s
unfolding keep_at_most
keep_above a r q s e f = ap (λ (z : ℤ). amount_from s.floor (int_min z s.ceiling)) f ∙ sym (cond-true (lt_z (pos 0) a) _ _ e)

pub keep_below : (a r q : ℤ) (s : Amount) → lt_z (pos 0) a ≡ false → q ≡ neg_ℤ (int_div_euclid r (neg_ℤ a)) → amount_from (int_max q s.floor) s.ceiling ≡ keep_at_most a r s
unfolding keep_at_most
keep_below a r q s e f = ap (λ (z : ℤ). amount_from (int_max z s.floor) s.ceiling) f ∙ sym (cond-false (lt_z (pos 0) a) _ _ e)
