-- The rows mean the rules that they hold. Assumes nothing.
use Rattle.std.proofs.Common.{◌≡◌, ◌&&◌, ◌||◌, List, [], ◌∷◌, map, ℤ, pos, refl, ap}
use Rattle.books.specs.Boards.{number_at}
use Rattle.rules.specs.declared.choices.token.TokenPair.{TokenPair}
use Rattle.rules.specs.declared.choices.row.ChoiceRow.{ChoiceRow}
use Rattle.rules.specs.declared.choices.row.ChoiceRow.TheVariants.{Pair, Apart}
use Rattle.rules.specs.ChoiceBooks.{rule_of}
use Rattle.rules.specs.ChoiceRows.{pairs_of, places_of}
use Rattle.rules.specs.ChoiceRules.{is_pair, same_number, some_pair}
use Rattle.records.specs.Between.{tokens_shown, choice_shown}
use Rattle.records.specs.Meanings.{listed, Meant}

-- two numbers are a pair of a row where they are one of the pairs that it shows
some_listed : (x y : ℤ) (pairs : List TokenPair) → some_pair (is_pair x y) pairs ≡ listed x y (map tokens_shown pairs)
some_listed x y [] = refl
some_listed x y (p ∷ pairs) = ap (λ b. (same_number x (pos p.first) && same_number y (pos p.second)) || b) (some_listed x y pairs)

pub choice_means : (row : ChoiceRow) → Meant (places_of row) (rule_of row) (choice_shown row)
choice_means (Pair row) = record { boards = refl; scope = refl; holdings = λ h. some_listed (number_at h row.first) (number_at h row.second) (pairs_of row) }
choice_means (Apart row) = record { boards = refl; scope = refl; holdings = λ h. refl }
