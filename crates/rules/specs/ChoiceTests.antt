-- The tests that pairs of tokens and rows of rules over choices have to pass. Assumes nothing.
use Rattle.std.specs.Prelude.{ℕ, Bool, not, ◌&&◌, ◌==◌, nat_le, nat_lt}
use Rattle.spans.specs.Masks.{tokens}

-- both numbers are tokens
abbrev pub are_tokens : ℕ → ℕ → Bool
are_tokens first second = nat_lt first tokens && nat_lt second tokens

-- two different places of a board of so many
abbrev pub two_places_test : ℕ → ℕ → ℕ → Bool
two_places_test places first second = nat_lt first places && nat_lt second places && not (first == second)

-- two such places, and 1 to 100 pairs
abbrev pub is_pair_row : ℕ → ℕ → ℕ → ℕ → Bool
is_pair_row places first second count = two_places_test places first second && nat_lt 0 count && nat_le count 100
