-- What an amount is. Assumes nothing.
use Rattle.std.specs.Prelude.{ℕ, Bool, cond, ◌&&◌, ℤ, pos, negsuc, ◌+ℤ◌, ◌-ℤ◌, Ok, Err, Result, int_le}
use Rattle.std.specs.Int.{int_max, int_min}
use Rattle.spans.specs.Bounds.{bounded}
use Rattle.spans.specs.BoundLaws.{from_proper}
use Rattle.spans.specs.declared.amount.Amount.{Amount}
use Rattle.spans.specs.declared.refusal.SpanRefusal.{SpanRefusal}
use Rattle.spans.specs.declared.refusal.SpanRefusal.TheVariants.{AmountBounds}

-- x is one of the numbers from the floor to the ceiling
abbrev pub from_to : ℤ → ℤ → ℤ → Bool
from_to floor ceiling x = int_le floor x && int_le x ceiling

-- an amount admits every number from its floor to its ceiling
abbrev pub amount_admits : Amount → ℤ → Bool
amount_admits a x = from_to a.floor a.ceiling x

-- a whole number, or 0 where it is below 0
abbrev pub at_least0 : ℤ → ℕ
at_least0 (pos n) = n
at_least0 (negsuc n) = 0

-- how many numbers there are from the floor to the ceiling
abbrev pub amount_size : Amount → ℕ
amount_size a = at_least0 (a.ceiling -ℤ a.floor +ℤ pos 1)

-- the empty amount
abbrev pub no_amount : Amount
no_amount = record { floor = pos 1; ceiling = pos 0; ok = tt }

-- the amount from a floor to a ceiling, and the empty one where these are no bounds for an amount
abbrev pub amount_from : ℤ → ℤ → Amount
amount_from floor ceiling = record {
  floor = cond (bounded floor ceiling) floor (pos 1);
  ceiling = cond (bounded floor ceiling) ceiling (pos 0);
  ok = from_proper floor ceiling;
}

-- the common part of two amounts: from the greater floor to the lesser ceiling
abbrev pub amount_meet : Amount → Amount → Amount
amount_meet a b = amount_from (int_max a.floor b.floor) (int_min a.ceiling b.ceiling)

-- an amount that is asked for: refused where these are no bounds for an amount
abbrev pub asked : ℤ → ℤ → Result Amount SpanRefusal
asked floor ceiling = cond (bounded floor ceiling) (Ok (amount_from floor ceiling)) (Err AmountBounds)
