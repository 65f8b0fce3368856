-- How amounts are made, and how large they are. Assumes nothing.
use Rattle.std.proofs.Common.{◌≡◌, ℕ, true, false, ℤ, pos, negsuc, ◌+ℤ◌, ◌-ℤ◌, neg_ℤ, ◌≤ℤ◌, Ok, Err, sym, refl, ap, ◌∙◌, ⊎_elim, arith}
use borrow.Author.Differences.{ints}
use Rattle.std.proofs.lemmas.Bool.{cond-true, cond-false}
use Rattle.spans.specs.Numbers.{million}
use Rattle.spans.specs.Bounds.{bounded}
use Rattle.spans.specs.Amounts.{asked, amount_from, at_least0, amount_size, no_amount}
use Rattle.spans.specs.AmountLaws.{same_bounds, bounds}
use Rattle.spans.specs.declared.amount.Amount.{Amount}
use Rattle.spans.specs.declared.refusal.SpanRefusal.TheVariants.{AmountBounds}

pub from_made : (r : Amount) (f c : ℤ) → bounded f c ≡ true → r.floor ≡ f → r.ceiling ≡ c → r ≡ amount_from f c
from_made r f c e p q = same_bounds r (amount_from f c) (p ∙ sym (cond-true (bounded f c) f (pos 1) e)) (q ∙ sym (cond-true (bounded f c) c (pos 0) e))

pub asked_made : (r : Amount) (f c : ℤ) → bounded f c ≡ true → r.floor ≡ f → r.ceiling ≡ c → Ok r ≡ asked f c
asked_made r f c e p q = ap (λ (a : Amount). Ok a) (from_made r f c e p q) ∙ sym (cond-true (bounded f c) (Ok (amount_from f c)) (Err AmountBounds) e)

pub from_empty : (r : Amount) (f c : ℤ) → bounded f c ≡ false → r ≡ no_amount → r ≡ amount_from f c
from_empty r f c e p = p ∙ same_bounds no_amount (amount_from f c) (sym (cond-false (bounded f c) f (pos 1) e)) (sym (cond-false (bounded f c) c (pos 0) e))

natural : (z : ℤ) → pos 0 ≤ℤ z → (n : ℕ) × (z ≡ pos n)
natural (pos n) h = (n, refl)
natural (negsuc n) h = absurd (omega (arith, ints))

-- the bounds of any amount, in a form for arithmetic
pub record Reach (a : Amount) : Type 0 where
  pub low : neg_ℤ (pos million) ≤ℤ a.floor
  pub floor_high : a.floor ≤ℤ pos million
  pub ceiling_low : neg_ℤ (pos million) ≤ℤ a.ceiling
  pub high : a.ceiling ≤ℤ pos million
  pub near : a.floor ≤ℤ (a.ceiling +ℤ pos 1)

pub reach : (a : Amount) → Reach a
reach a =
    ⊎_elim
    (λ b. record { low = b.low; floor_high = omega (arith, ints, b.order, b.high); ceiling_low = omega (arith, ints, b.low, b.order); high = b.high; near = omega (arith, ints, b.order) })
    (λ e. record {
      low = omega (arith, ints, e.0);
      floor_high = omega (arith, ints, e.0);
      ceiling_low = omega (arith, ints, e.1);
      high = omega (arith, ints, e.1);
      near = omega (arith, ints, e.0, e.1);
    })
    (bounds a)

-- the size is the difference of the bounds, and one
pub extent : (a : Amount) → a.ceiling -ℤ a.floor +ℤ pos 1 ≡ pos (amount_size a)
extent a =
    let r = reach a in
    let n = natural (a.ceiling -ℤ a.floor +ℤ pos 1) (omega (arith, ints)) in
    n.1 ∙ ap (λ (z : ℤ). pos (at_least0 z)) (sym n.1)
