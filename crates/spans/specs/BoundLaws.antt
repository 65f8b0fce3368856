-- What the tests of bounds tell: proofs, which stand in specs/ since the amounts that are defined there hold them. Assumes nothing.
use Rattle.std.specs.Prelude.{◌≡◌, Bool, true, false, cond, ◌&&◌, T, ℤ, pos, neg_ℤ, ◌≤ℤ◌, int_le, refl}
use Rattle.std.proofs.Common.{sym, subst}
use Rattle.std.specs.Int.Signed.{le_z_yes}
use Rattle.spans.specs.Numbers.{million}
use Rattle.spans.specs.Bools.{both, join, first}
use Rattle.spans.specs.Bounds.{bounded, proper}

-- what `bounded` tests
pub record Bounded (floor ceiling : ℤ) : Type 0 where
  pub low : neg_ℤ (pos million) ≤ℤ floor
  pub order : floor ≤ℤ ceiling
  pub high : ceiling ≤ℤ pos million

pub bounded_is : (f c : ℤ) → T (bounded f c) → Bounded f c
bounded_is f c t =
    let s = both (int_le (neg_ℤ (pos million)) f && int_le f c) (int_le c (pos million)) t in
    let r = both (int_le (neg_ℤ (pos million)) f) (int_le f c) s.0 in
    record { low = le_z_yes r.0; order = le_z_yes r.1; high = le_z_yes s.1 }

pub is_bounded : (f c : ℤ) → Bounded f c → T (bounded f c)
is_bounded f c b = join _ _ (join (int_le (neg_ℤ (pos million)) f) _ b.low.le b.order.le) b.high.le

-- a floor and a ceiling, or else 1 and 0
pub from_proper : (f c : ℤ) → T (proper (cond (bounded f c) f (pos 1)) (cond (bounded f c) c (pos 0)))
from_proper f c = go (bounded f c) refl
  where
    go : (t : Bool) → bounded f c ≡ t → T (proper (cond t f (pos 1)) (cond t c (pos 0)))
    go true e = first (bounded f c) _ (subst T (sym e) tt)
    go false e = tt
