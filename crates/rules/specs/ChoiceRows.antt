-- The rows of a table of rules over choices. Assumes nothing.
use Rattle.std.specs.Prelude.{◌≡◌, ℕ, true, false, List, length, Some, None, Option}
use Rattle.rules.specs.Fews.{listed}
use Rattle.rules.specs.declared.choices.token.TokenPair.{TokenPair}
use Rattle.rules.specs.declared.choices.pair.PairRow.{PairRow}
use Rattle.rules.specs.declared.choices.apart.ApartRow.{ApartRow}
use Rattle.rules.specs.declared.choices.row.ChoiceRow.{ChoiceRow}
use Rattle.rules.specs.declared.choices.row.ChoiceRow.TheVariants.{Pair, Apart}
use Rattle.rules.specs.ChoiceTests.{are_tokens, two_places_test, is_pair_row}

-- the pairs that a row lists
abbrev pub pairs_of : PairRow → List TokenPair
pairs_of row = listed row.pairs

-- how many places the boards have that a row is for
abbrev pub places_of : ChoiceRow → ℕ
places_of (Pair row) = row.places
places_of (Apart row) = row.places

-- a pair asked for has the two numbers given, and there is none where these are not both tokens
abbrev pub TokensAsked : ℕ → ℕ → Option TokenPair → Type 0
TokensAsked first second (Some pair) = (are_tokens first second ≡ true) × (pair.first ≡ first) × (pair.second ≡ second)
TokensAsked first second None = are_tokens first second ≡ false

-- a pair row asked for has the places and the pairs given, and there is none where these make no row
abbrev pub PairAsked : ℕ → ℕ → ℕ → List TokenPair → Option PairRow → Type 0
PairAsked places first second pairs (Some row) = (is_pair_row places first second (length pairs) ≡ true) × (row.places ≡ places) × (row.first ≡ first) × (row.second ≡ second) × (pairs_of row ≡ pairs)
PairAsked places first second pairs None = is_pair_row places first second (length pairs) ≡ false

-- an apart row asked for has the places given, and there is none where these make no row
abbrev pub ApartAsked : ℕ → ℕ → ℕ → Option ApartRow → Type 0
ApartAsked places first second (Some row) = (two_places_test places first second ≡ true) × (row.places ≡ places) × (row.first ≡ first) × (row.second ≡ second)
ApartAsked places first second None = two_places_test places first second ≡ false
