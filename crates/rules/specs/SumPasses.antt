-- What one pass over the terms of a sum finds. Assumes nothing.
use Rattle.std.specs.Prelude.{ℕ, List, Some, None, Option}
use Rattle.spans.specs.declared.amount.Amount.{Amount}
use Rattle.rules.specs.Sums.{low, high}
use Rattle.rules.specs.declared.sums.term.Term.{Term}
use Rattle.rules.specs.declared.sums.adding.Others.{Others}

-- the asked term's index, if there is one, and low and high of the other terms
abbrev pub passed : List Term → List Amount → Option ℕ → Option Others
passed ts b None = None
passed ts b (Some i) = Some (record { asked = i; low = low ts i b; high = high ts i b })
