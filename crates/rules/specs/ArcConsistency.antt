-- Settled boards are arc consistent. Assumes nothing.
use Rattle.std.specs.Prelude.{ℕ, T, ◌↔◌, List, ℤ}
use Rattle.spans.specs.Choices.{choice_admits}
use Rattle.spans.specs.ChoiceKind.{choices}
use Rattle.spans.specs.declared.choice.Choice.{Choice}
use Rattle.books.specs.Boards.{span_at, Full}
use Rattle.books.specs.Settled.{Settled}
use Rattle.rules.specs.declared.choices.row.ChoiceRow.{ChoiceRow}
use Rattle.rules.specs.Between.{Between}
use Rattle.rules.specs.ChoiceRows.{places_of}
use Rattle.rules.specs.ChoiceRules.{link_of}
use Rattle.rules.specs.BookCounts.{place_count}
use Rattle.rules.specs.ChoiceBooks.{rule_of, choice_book_of}
use Rattle.rules.specs.RowBooks.{Calm, Counts}

-- every admitted token has a partner: a token admitted at the other place such that the two obey the rule
pub record ArcConsistent (link : Between) (board : List Choice) : Type 0 where
  pub first : (x : ℤ) → T (choice_admits (span_at choices board link.first) x) → (y : ℤ) × T (choice_admits (span_at choices board link.second) y) × T (link.agree x y)
  pub second : (y : ℤ) → T (choice_admits (span_at choices board link.second) y) → (x : ℤ) × T (choice_admits (span_at choices board link.first) x) × T (link.agree x y)

-- the board is arc consistent for a row
abbrev pub ArcConsistentFor : ChoiceRow → List Choice → Type 0
ArcConsistentFor row board = ArcConsistent (link_of row) board

-- a board with no empty span is settled under a pair rule or an apart rule exactly when it is arc consistent
abbrev pub ArcLaw : Type 0
ArcLaw = (row : ChoiceRow) (board : List Choice) → Full choices (places_of row) board → Calm choices (places_of row) (rule_of row) board ↔ ArcConsistent (link_of row) board

-- a board with no empty span is settled under the book of these rows exactly when it is arc consistent for each row that counts
abbrev pub ArcBookLaw : ℕ → List ChoiceRow → Type 0
ArcBookLaw places rows = (board : List Choice) → Full choices (place_count places) board → Settled choices (choice_book_of places rows) board ↔ ((row : ChoiceRow) → Counts choices places_of rule_of places rows row → ArcConsistent (link_of row) board)
