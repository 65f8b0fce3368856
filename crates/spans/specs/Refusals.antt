-- The refusals of this crate, by the numbers that the game is told. Assumes nothing.
use Rattle.std.specs.Prelude.{ℕ}
use Rattle.spans.specs.declared.refusal.SpanRefusal.{SpanRefusal}
use Rattle.spans.specs.declared.refusal.SpanRefusal.TheVariants.{AmountBounds}

-- an amount with its floor above its ceiling, or with a bound beyond a million: 19; no place and no rule is named
abbrev pub refusal_number : SpanRefusal → ℕ
refusal_number AmountBounds = 19
