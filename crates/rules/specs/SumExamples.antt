-- 2A + 2B + 2C = 3, with every span 0..1: every answer leaves its span as it is, though no holding obeys it. Assumes nothing.
use Rattle.std.specs.Prelude.{◌≡◌, ℕ, ◌<◌, T, List, [], ◌∷◌, ℤ, pos}
use Rattle.spans.specs.Amounts.{amount_from}
use Rattle.spans.specs.AmountKind.{amounts}
use Rattle.spans.specs.declared.amount.Amount.{Amount}
use Rattle.books.specs.Boards.{span_at}
use Rattle.books.specs.Meaning.{Rule}
use Rattle.rules.specs.Sums.{sum_rule}
use Rattle.rules.specs.declared.sums.term.Relation.TheVariants.{Equal}
use Rattle.rules.specs.declared.sums.term.Term.{Term}

-- 2 times the number at a place
abbrev pub twice : ℕ → Term
twice p = record { coefficient = pos 2; place = p }

-- the sum over three places
abbrev pub even_sum : Rule Amount
even_sum = sum_rule Equal (pos 3) (twice 0 ∷ twice 1 ∷ twice 2 ∷ [])

-- 0..1 at each
abbrev pub even_board : List Amount
even_board = amount_from (pos 0) (pos 1) ∷ amount_from (pos 0) (pos 1) ∷ amount_from (pos 0) (pos 1) ∷ []

-- the board is settled under the sum, and nothing obeys the sum
pub record EvenLaw : Type 0 where
  pub unchanged : (p : ℕ) → p < 3 → even_sum.answer p even_board ≡ span_at amounts even_board p
  pub unobeyed : (h : List ℤ) → T (even_sum.obeys h) → ⊥
