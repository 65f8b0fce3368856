-- Which places and rules a sheet may have. Assumes nothing.
use Rattle.std.specs.Prelude.{ℕ, Bool, true, false, not, ◌&&◌, List, [], ◌∷◌, ◌++◌, length, nat_le}
use Rattle.spans.specs.Bounds.{bounded}
use Rattle.rules.specs.ChoiceTests.{are_tokens, two_places_test, is_pair_row}
use Rattle.rules.specs.SumTerms.{sum_test}
use Rattle.text.specs.Names.{name_test}
use Rattle.sheets.specs.declared.title.SpanKind.{SpanKind}
use Rattle.sheets.specs.declared.title.SpanKind.TheVariants.{Amounts, Choices}
use Rattle.records.specs.declared.places.Opening.{Opening}
use Rattle.records.specs.declared.places.Opening.TheVariants.{Amount, Tokens}
use Rattle.records.specs.Places.{Place, declares}
use Rattle.records.specs.Rules as rules
use Rattle.records.specs.Rules.{Rule, sum, pair, apart}

-- a place of a sheet of the kind may open so
abbrev pub is_opening : SpanKind → Opening → Bool
is_opening Amounts (Amount floor ceiling) = bounded floor ceiling
is_opening Amounts (Tokens count) = false
is_opening Choices (Amount floor ceiling) = false
is_opening Choices (Tokens count) = nat_le 1 count && nat_le count 64

-- a place that may follow the places given: it has a name, which is new, and may open so
abbrev pub is_place : SpanKind → List Place → Place → Bool
is_place kind before p = name_test p.name && not (declares before p.name) && is_opening kind p.opening

-- each of the places may follow those before it
abbrev pub are_places : SpanKind → List Place → List Place → Bool
are_places kind before [] = true
are_places kind before (p ∷ ps) = is_place kind before p && are_places kind (before ++ (p ∷ [])) ps

-- all pairs are of tokens
abbrev pub all_tokens : List rules.Tokens → Bool
all_tokens [] = true
all_tokens (t ∷ ts) = are_tokens t.first t.second && all_tokens ts

-- a rule that a sheet of the kind may have, over so many places
abbrev pub is_rule : SpanKind → ℕ → Rule → Bool
is_rule Amounts places (sum relation bound terms) = sum_test places bound terms
is_rule Amounts places (pair first second pairs) = false
is_rule Amounts places (apart first second) = false
is_rule Choices places (sum relation bound terms) = false
is_rule Choices places (pair first second pairs) = is_pair_row places first second (length pairs) && all_tokens pairs
is_rule Choices places (apart first second) = two_places_test places first second
