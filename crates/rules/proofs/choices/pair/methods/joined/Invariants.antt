use Rattle.std.proofs.Common.{◌≡◌, ℕ, ◌&&◌, ◌||◌, nat_lt, drop, pos}
use Rattle.spans.specs.Masks.{tokens}
use Rattle.spans.specs.Choices.{choice_admits}
use Rattle.rules.specs.ChoiceRules.{some_pair, joins}
use Rattle.rules.proofs.choices.pair.methods.joined.Given as goal

-- the tokens found, and those that the pairs left would add, are those of all pairs
abbrev pub invariant-loop-pair : goal.invariant-loop-pair
invariant-loop-pair l =
    (t : ℕ) → (choice_admits l.found (pos t) || (nat_lt t tokens && some_pair (joins l.side l.other t) (drop l.pair-index l.pairs))) ≡ (nat_lt t tokens && some_pair (joins l.side l.other t) l.pairs)
