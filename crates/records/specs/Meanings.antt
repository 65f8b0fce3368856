-- What the rules of sheets mean. Assumes nothing.
use Rattle.std.specs.Prelude.{◌≡◌, ℕ, Bool, false, not, ◌&&◌, ◌||◌, List, [], ◌∷◌, map, ℤ, pos}
use Rattle.books.specs.Boards.{number_at}
use Rattle.books.specs.Meaning as books
use Rattle.rules.specs.ChoiceRules.{same_number}
use Rattle.rules.specs.SumTerms.{place_of}
use Rattle.rules.specs.Sums.{sum_of, stands}
use Rattle.records.specs.Rules as rules
use Rattle.records.specs.Rules.{Rule, Row, sum, pair, apart}

-- the places of a rule, in the order of their names on its line
abbrev pub scope_of : Rule → List ℕ
scope_of (sum relation bound terms) = map place_of terms
scope_of (pair first second pairs) = first ∷ second ∷ []
scope_of (apart first second) = first ∷ second ∷ []

-- the two numbers are the tokens of one of the pairs
abbrev pub listed : ℤ → ℤ → List rules.Tokens → Bool
listed x y [] = false
listed x y (t ∷ ts) = (same_number x (pos t.first) && same_number y (pos t.second)) || listed x y ts

-- which holdings obey a rule: the total of a sum stands in its relation to the bound; the tokens at two places are a listed pair; or they differ
abbrev pub obeys_rule : Rule → List ℤ → Bool
obeys_rule (sum relation bound terms) h = stands relation (sum_of terms h) bound
obeys_rule (pair first second pairs) h = listed (number_at h first) (number_at h second) pairs
obeys_rule (apart first second) h = not (same_number (number_at h first) (number_at h second))

-- a rule over boards of so many places is the one that a row holds: it has the same places, and the same holdings obey it
pub record Meant {S : Type 0} (places : ℕ) (one : books.Rule S) (row : Row) : Type 0 where
  pub boards : places ≡ row.places
  pub scope : one.scope ≡ scope_of row.rule
  pub holdings : (h : List ℤ) → one.obeys h ≡ obeys_rule row.rule h
