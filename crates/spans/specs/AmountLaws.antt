-- Amounts keep the laws of spans: the proofs, which stand in specs/ since a kind holds them. Assumes nothing.
use Rattle.std.specs.Prelude.{◌≡◌, ℕ, suc, ◌-◌, ◌≤◌, Bool, true, false, cond, ◌&&◌, T, ◌⊎◌, ℤ, pos, ◌+ℤ◌, ◌-ℤ◌, ◌≤ℤ◌, int_le, refl}
use Rattle.std.proofs.Common.{sym, ◌∙◌, ap, subst, inl, inr, ⊎_elim, arith}
use mathlib.Core.HLevel.{is_prop→PathP}
use Rattle.std.proofs.Math.Dec.{T_prop}
use Rattle.std.specs.Int.Signed.{le_z_yes}
use Rattle.std.specs.Int.{int_max, int_min}
use Rattle.std.proofs.lemmas.Int.{ints, clamps}
use Rattle.spans.specs.Numbers.{Number, number, numbers, counted}
use Rattle.spans.specs.Bools.{both, join, either, alike}
use Rattle.spans.specs.Counts.{place, counted_none, counted_gap, counted_range}
use Rattle.spans.specs.Bounds.{bounded, proper}
use Rattle.spans.specs.BoundLaws.{Bounded, bounded_is, is_bounded}
use Rattle.spans.specs.Amounts.{from_to, amount_admits, at_least0, amount_size, no_amount, amount_from, amount_meet}
use Rattle.spans.specs.declared.amount.Amount.{Amount}

-- amounts of the same bounds are the same
pub same_bounds : (a b : Amount) → a.floor ≡ b.floor → a.ceiling ≡ b.ceiling → a ≡ b
same_bounds a b p q = λ i. record { floor = p i; ceiling = q i; ok = is_prop→PathP (λ j. T (proper (p j) (q j))) (λ j. T_prop (proper (p j) (q j))) a.ok b.ok i }

-- an amount has such bounds, or is empty
pub bounds : (a : Amount) → Bounded a.floor a.ceiling ⊎ ((a.floor ≡ pos 1) × (a.ceiling ≡ pos 0))
bounds a = ⊎_elim (λ t. inl (bounded_is a.floor a.ceiling t)) (λ t. inr (ends a.floor a.ceiling t)) (either (bounded a.floor a.ceiling) _ a.ok)
  where
    ends : (f c : ℤ) → T (int_le (pos 1) f && int_le f (pos 1) && int_le (pos 0) c && int_le c (pos 0)) → (f ≡ pos 1) × (c ≡ pos 0)
    ends f c t =
        let s = both (int_le (pos 1) f && int_le f (pos 1) && int_le (pos 0) c) (int_le c (pos 0)) t in
        let r = both (int_le (pos 1) f && int_le f (pos 1)) (int_le (pos 0) c) s.0 in
        let q = both (int_le (pos 1) f) (int_le f (pos 1)) r.0 in
        (omega (arith, ints, q.0, q.1), omega (arith, ints, s.1, r.1))

-- what an amount admits
pub admits_is : (a : Amount) (x : ℤ) → T (amount_admits a x) → (a.floor ≤ℤ x) × (x ≤ℤ a.ceiling)
admits_is a x t = let s = both (int_le a.floor x) (int_le x a.ceiling) t in (le_z_yes s.0, le_z_yes s.1)

pub is_admitted : (a : Amount) (x : ℤ) → a.floor ≤ℤ x → x ≤ℤ a.ceiling → T (amount_admits a x)
is_admitted a x l h = join (int_le a.floor x) (int_le x a.ceiling) l.le h.le

is_true : (a : Amount) (x : ℤ) → T (amount_admits a x) → amount_admits a x ≡ true
is_true a x t = alike (amount_admits a x) true (λ _. tt) (λ _. t)

is_false : (a : Amount) (x : ℤ) → (T (amount_admits a x) → ⊥) → amount_admits a x ≡ false
is_false a x f = alike (amount_admits a x) false f (λ t. absurd t)

pub amount_in_range : (a : Amount) (x : ℤ) → T (amount_admits a x) → Number x
amount_in_range a x t =
    let s = admits_is a x t in
    ⊎_elim
    (λ b. record { low = omega (arith, ints, s.0, b.low); high = omega (arith, ints, s.1, b.high) })
    (λ e. absurd (omega (arith, ints, s.0, s.1, e.0, e.1)))
    (bounds a)

pub none_admits : (x : ℤ) → amount_admits no_amount x ≡ false
none_admits x = is_false no_amount x (λ t. let s = admits_is no_amount x t in omega (arith, ints, s.0, s.1))

-- ---- the same numbers, the same amount

pub amount_same : (a b : Amount) → ((x : ℤ) → amount_admits a x ≡ amount_admits b x) → a ≡ b
amount_same a b f = go (bounds a) (bounds b)
  where
    into : (a b : Amount) → ((x : ℤ) → amount_admits a x ≡ amount_admits b x) → a.floor ≤ℤ a.ceiling → (b.floor ≤ℤ a.floor) × (a.ceiling ≤ℤ b.ceiling)
    into a b f h =
        let s = admits_is b a.floor (subst T (f a.floor) (is_admitted a a.floor (omega (arith, ints)) h)) in
        let t = admits_is b a.ceiling (subst T (f a.ceiling) (is_admitted a a.ceiling h (omega (arith, ints)))) in
        (s.0, t.1)

    go : Bounded a.floor a.ceiling ⊎ ((a.floor ≡ pos 1) × (a.ceiling ≡ pos 0)) → Bounded b.floor b.ceiling ⊎ ((b.floor ≡ pos 1) × (b.ceiling ≡ pos 0)) → a ≡ b
    go (inl p) (inl q) =
        let s = into a b f p.order in
        let t = into b a (λ x. sym (f x)) q.order in
        same_bounds a b (omega (arith, ints, s.0, t.0)) (omega (arith, ints, s.1, t.1))
    go (inl p) (inr q) = let s = into a b f p.order in absurd (omega (arith, ints, s.0, s.1, p.order, q.0, q.1))
    go (inr p) (inl q) = let s = into b a (λ x. sym (f x)) q.order in absurd (omega (arith, ints, s.0, s.1, q.order, p.0, p.1))
    go (inr p) (inr q) = same_bounds a b (p.0 ∙ sym q.0) (p.1 ∙ sym q.1)

-- ---- the common part

pub from_admits : (f c x : ℤ) → amount_admits (amount_from f c) x ≡ (bounded f c && from_to f c x)
from_admits f c x = go (bounded f c)
  where
    go : (t : Bool) → from_to (cond t f (pos 1)) (cond t c (pos 0)) x ≡ (t && from_to f c x)
    go true = refl
    go false = none_admits x

module _ (a b : Amount) (x f c : ℤ) (greater : f ≡ int_max a.floor b.floor) (lesser : c ≡ int_min a.ceiling b.ceiling) where
  meet_both : T (bounded f c && from_to f c x) → T (amount_admits a x && amount_admits b x)
  meet_both t =
      let s = both (int_le f x) (int_le x c) (both (bounded f c) (from_to f c x) t).1 in
      let low : f ≤ℤ x = le_z_yes s.0 in
      let high : x ≤ℤ c = le_z_yes s.1 in
      join (amount_admits a x) (amount_admits b x)
      (is_admitted a x (omega (arith, ints, clamps)) (omega (arith, ints, clamps)))
      (is_admitted b x (omega (arith, ints, clamps)) (omega (arith, ints, clamps)))

  both_meet : T (amount_admits a x && amount_admits b x) → T (bounded f c && from_to f c x)
  both_meet t =
      let s = both (amount_admits a x) (amount_admits b x) t in
      let p = admits_is a x s.0 in
      let q = admits_is b x s.1 in
      let low : f ≤ℤ x = omega (arith, ints, clamps, p.0, q.0) in
      let high : x ≤ℤ c = omega (arith, ints, clamps, p.1, q.1) in
      let in_bounds = ⊎_elim
      (λ k. record { low = omega (arith, ints, clamps, k.low); order = omega (arith, ints); high = omega (arith, ints, clamps, k.high) })
      (λ e. absurd (omega (arith, ints, p.0, p.1, e.0, e.1)))
      (bounds a) in
      join (bounded f c) (from_to f c x) (is_bounded f c in_bounds) (join (int_le f x) (int_le x c) low.le high.le)

pub meet_admits : (a b : Amount) (x : ℤ) → amount_admits (amount_meet a b) x ≡ (amount_admits a x && amount_admits b x)
meet_admits a b x =
    let f = int_max a.floor b.floor in
    let c = int_min a.ceiling b.ceiling in
    from_admits f c x ∙ alike _ _ (meet_both a b x f c refl refl) (both_meet a b x f c refl refl)

-- ---- the size and the least number

pub amount_counts : (a : Amount) → amount_size a ≡ counted (amount_admits a) numbers
amount_counts a = ⊎_elim full empty (bounds a)
  where
    size_by : (n : ℕ) → a.ceiling -ℤ a.floor +ℤ pos 1 ≡ pos n → amount_size a ≡ n
    size_by n e = ap at_least0 e

    empty : (a.floor ≡ pos 1) × (a.ceiling ≡ pos 0) → amount_size a ≡ counted (amount_admits a) numbers
    empty e = size_by 0 (omega (arith, ints, e.0, e.1))
        ∙ sym (counted_gap (amount_admits a) 0 numbers (λ i h k. is_false a (number i) (λ t. let s = admits_is a (number i) t in omega (arith, ints, s.0, s.1, e.0, e.1)))
        ∙ counted_none (amount_admits a))

    full : Bounded a.floor a.ceiling → amount_size a ≡ counted (amount_admits a) numbers
    full b =
        let low = place a.floor (record { low = omega (arith, ints, b.low); high = omega (arith, ints, b.order, b.high) }) in
        let high = place a.ceiling (record { low = omega (arith, ints, b.order, b.low); high = omega (arith, ints, b.high) }) in
        let order : low.0 ≤ high.0 = omega (arith, ints, low.2, high.2, b.order) in
        size_by (suc high.0 - low.0) (omega (arith, ints, low.2, high.2, order))
        ∙ sym (counted_range (amount_admits a) low.0 high.0 order high.1
        (λ i h. is_false a (number i) (λ t. let s = admits_is a (number i) t in omega (arith, ints, s.0, low.2)))
        (λ i h k. is_true a (number i) (is_admitted a (number i) (omega (arith, ints, low.2)) (omega (arith, ints, high.2))))
        (λ i h. is_false a (number i) (λ t. let s = admits_is a (number i) t in omega (arith, ints, s.1, high.2))))

pub least_admitted : (a : Amount) (x : ℤ) → T (amount_admits a x) → T (amount_admits a a.floor)
least_admitted a x t = let s = admits_is a x t in is_admitted a a.floor (omega (arith, ints)) (omega (arith, ints, s.0, s.1))

pub least_first : (a : Amount) (x : ℤ) → T (amount_admits a x) → a.floor ≤ℤ x
least_first a x t = (admits_is a x t).0
