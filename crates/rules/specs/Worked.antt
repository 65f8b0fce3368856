-- Positions worked through by hand, and what plain sweeps come to on them. Assumes nothing.
use Rattle.std.specs.Prelude.{◌≡◌, ℕ, List, [], ◌∷◌, replicate, ℤ, pos, negsuc, slice_set, refl}
use Rattle.spans.specs.Amounts.{amount_from, amount_meet}
use Rattle.spans.specs.AmountKind.{amounts}
use Rattle.spans.specs.ChoiceKind.{choices}
use Rattle.spans.specs.declared.amount.Amount.{Amount}
use Rattle.spans.specs.declared.choice.Choice.{Choice}
use Rattle.books.specs.Boards.{Among, span_at}
use Rattle.books.specs.Meaning.{Meaning}
use Rattle.books.specs.Sweeps.{Outcome, emptied, left, settle}
use Rattle.rules.specs.declared.sums.term.Term.{Term}
use Rattle.rules.specs.declared.sums.term.Relation.TheVariants.{AtMost, Equal}
use Rattle.rules.specs.declared.choices.token.TokenPair.{TokenPair}
use Rattle.rules.specs.declared.choices.row.ChoiceRow.TheVariants.{Pair, Apart}
use Rattle.rules.specs.SumRows.{padded}
use Rattle.rules.specs.SumBooks.{sum_book_of}
use Rattle.rules.specs.ChoiceBooks.{choice_book_of}

-- a book, a board, and what plain sweeps must come to there: for each kind of span
pub data Worked : Type 0 where
  on_amounts : Meaning Amount → List Amount → Outcome Amount → Worked
  on_choices : Meaning Choice → List Choice → Outcome Choice → Worked

-- plain sweeps do come to it
abbrev pub Comes : Worked → Type 0
Comes (on_amounts book board should) = settle amounts book board ≡ should
Comes (on_choices book board should) = settle choices book board ≡ should

-- ---- sums

-- a summand
abbrev term : ℤ → ℕ → Term
term coefficient place = record { coefficient = coefficient; place = place }

-- 3X - 4Y = 0
abbrev pub three_four : Meaning Amount
three_four = sum_book_of 2 (record { places = 2; relation = Equal; bound = pos 0; terms = record { count = 2; held = padded (term (pos 3) 0 ∷ term (negsuc 3) 1 ∷ []); within = refl }; ok = tt } ∷ [])

-- 2A <= -7
abbrev pub twice : Meaning Amount
twice = sum_book_of 1 (record { places = 1; relation = AtMost; bound = negsuc 6; terms = record { count = 1; held = padded (term (pos 2) 0 ∷ []); within = refl }; ok = tt } ∷ [])

-- 2A + 2B + 2C = 3
abbrev pub three_twos : Meaning Amount
three_twos = sum_book_of 3 (record { places = 3; relation = Equal; bound = pos 3; terms = record { count = 3; held = padded (term (pos 2) 0 ∷ term (pos 2) 1 ∷ term (pos 2) 2 ∷ []); within = refl }; ok = tt } ∷ [])

-- the amount from one natural number to another
abbrev pub up_to : ℕ → ℕ → Amount
up_to floor ceiling = amount_from (pos floor) (pos ceiling)

-- where the sweeps of 3X - 4Y = 0 end on 1..10 and 1..10
abbrev pub settled_at : List Amount
settled_at = up_to 4 8 ∷ up_to 3 6 ∷ []

-- that board with place 0 cut to its common part with a span
abbrev pub cut_to : Amount → List Amount
cut_to span = slice_set settled_at 0 (amount_meet (span_at amounts settled_at 0) span)

-- ---- choices

-- the tokens 0 and 1, by their mask
abbrev tokens01 : Choice
tokens01 = record { mask = 3; ok = tt }

-- the tokens 1 and 2
abbrev tokens12 : Choice
tokens12 = record { mask = 6; ok = tt }

-- the tokens 0 to 2
abbrev tokens012 : Choice
tokens012 = record { mask = 7; ok = tt }

-- the pairs (0, 1) and (1, 2), for the places 0 and 1
abbrev pub two_pairs : Meaning Choice
two_pairs =
    let pairs : List TokenPair = record { first = 0; second = 1; ok = tt } ∷ record { first = 1; second = 2; ok = tt } ∷ replicate 98 (record { first = 0; second = 0; ok = tt }) in
    choice_book_of 2 (Pair (record { places = 2; first = 0; second = 1; pairs = record { count = 2; held = pairs; within = refl }; ok = tt }) ∷ [])

-- three places, each two of them apart: rules 0, 1 and 2
abbrev pub all_apart : Meaning Choice
all_apart =
    choice_book_of 3 (
    Apart (record { places = 3; first = 0; second = 1; ok = tt })
    ∷ Apart (record { places = 3; first = 0; second = 2; ok = tt })
    ∷ Apart (record { places = 3; first = 1; second = 2; ok = tt })
    ∷ [])

-- ---- the positions

-- X, A and P are place 0, Y and Q are place 1, and so on
unfoldable pub worked : List Worked
worked =
    on_amounts three_four (up_to 0 10 ∷ up_to 0 10 ∷ []) (left (up_to 0 8 ∷ up_to 0 6 ∷ []) 4)
    ∷ on_amounts three_four (up_to 1 10 ∷ up_to 1 10 ∷ []) (left settled_at 5)
    ∷ on_amounts three_four (cut_to (up_to 5 8)) (left (up_to 8 8 ∷ up_to 6 6 ∷ []) 6)
    ∷ on_amounts three_four (cut_to (up_to 5 7)) (emptied 1 0)
    ∷ on_amounts twice (amount_from (negsuc 9) (pos 10) ∷ []) (left (amount_from (negsuc 9) (negsuc 3) ∷ []) 1)
    ∷ on_amounts three_twos (up_to 0 1 ∷ up_to 0 1 ∷ up_to 0 1 ∷ []) (left (up_to 0 1 ∷ up_to 0 1 ∷ up_to 0 1 ∷ []) 0)
    ∷ on_choices two_pairs (tokens012 ∷ tokens012 ∷ []) (left (tokens01 ∷ tokens12 ∷ []) 2)
    ∷ on_choices all_apart (tokens01 ∷ tokens01 ∷ tokens01 ∷ []) (left (tokens01 ∷ tokens01 ∷ tokens01 ∷ []) 0)
    ∷ []

-- each of them comes to its outcome
abbrev pub WorkedLaw : Type 0
WorkedLaw = (position : Worked) → Among position worked → Comes position
