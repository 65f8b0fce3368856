-- Pair rules and apart rules. Assumes nothing.
use Rattle.std.specs.Prelude.{ℕ, Bool, false, not, ◌&&◌, List, ℤ, pos, negsuc, ◌==◌}
use Rattle.std.specs.List.{list_any}
use Rattle.spans.specs.Choices.{choice_admits, choice_size}
use Rattle.spans.specs.declared.choice.Choice.{Choice}
use Rattle.rules.specs.declared.choices.side.Side.{Side}
use Rattle.rules.specs.declared.choices.token.TokenPair.{TokenPair}
use Rattle.rules.specs.declared.choices.pair.PairRow.{PairRow}
use Rattle.rules.specs.declared.choices.apart.ApartRow.{ApartRow}
use Rattle.rules.specs.declared.choices.row.ChoiceRow.{ChoiceRow}
use Rattle.rules.specs.declared.choices.row.ChoiceRow.TheVariants.{Pair, Apart}
use Rattle.rules.specs.Sides.{across, on}
use Rattle.rules.specs.Between.{Between}
use Rattle.rules.specs.ChoiceRows.{pairs_of}

-- the two numbers are the same
abbrev pub same_number : ℤ → ℤ → Bool
same_number (pos m) (pos n) = m == n
same_number (pos m) (negsuc n) = false
same_number (negsuc m) (pos n) = false
same_number (negsuc m) (negsuc n) = m == n

-- some pair of the list passes the test
abbrev pub some_pair : (TokenPair → Bool) → List TokenPair → Bool
some_pair = list_any

-- the two numbers are the tokens of the pair
abbrev pub is_pair : ℤ → ℤ → TokenPair → Bool
is_pair x y pair = same_number x (pos pair.first) && same_number y (pos pair.second)

-- the pair's token on a side
abbrev pub token_on : TokenPair → Side → ℕ
token_on pair side = on side pair.first pair.second

-- the pair joins the token on a side to a token that the other span admits
abbrev pub joins : Side → Choice → ℕ → TokenPair → Bool
joins side other token pair = token == token_on pair side && choice_admits other (pos (token_on pair (across side)))

-- a pair rule: the two tokens are a listed pair; a token may stay if some listed pair joins it to a token admitted at the other place
abbrev pub pair_link : PairRow → Between
pair_link row = record {
  first = row.first;
  second = row.second;
  agree = λ x y. some_pair (is_pair x y) (pairs_of row);
  stays = λ side other token. some_pair (joins side other token) (pairs_of row);
}

-- the span admits only the token
abbrev pub admits_only : Choice → ℕ → Bool
admits_only span token = choice_size span == 1 && choice_admits span (pos token)

-- an apart rule: the two tokens differ; a token may stay unless the other place admits only that token
abbrev pub apart_link : ApartRow → Between
apart_link row = record {
  first = row.first;
  second = row.second;
  agree = λ x y. not (same_number x y);
  stays = λ side other token. not (admits_only other token);
}

-- the rule of a row
abbrev pub link_of : ChoiceRow → Between
link_of (Pair row) = pair_link row
link_of (Apart row) = apart_link row
