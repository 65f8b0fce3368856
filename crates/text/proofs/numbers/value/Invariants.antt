use Rattle.std.proofs.Common.{◌≡◌, ◌+◌, ◌^◌, ◌<◌, ◌∷◌, drop}
use Rattle.text.specs.Numbers.{digits_value}
use Rattle.text.proofs.Spelling.{value_after}
use Rattle.text.proofs.numbers.value.Given as goal

-- the digits left, after those read, give the value of all
abbrev pub invariant-loop-b : goal.invariant-loop-b
invariant-loop-b l = (value_after l.n (drop l.b-index l.rest) ≡ digits_value (l.first ∷ l.rest)) × (l.n < 10 ^ (l.b-index + 1))
