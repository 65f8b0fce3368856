-- Books of rows, whatever the rules of the rows. Assumes nothing.
use Rattle.std.specs.Prelude.{◌≡◌, ℕ, ◌<◌, cond, ◌↔◌, List, [], ◌∷◌, map, length, take, ◌==◌, slice_index_or}
use Rattle.spans.specs.Kind.{Kind}
use Rattle.books.specs.Boards.{Among, span_at, Full}
use Rattle.books.specs.Meaning.{Rule, Meaning, idle}
use Rattle.books.specs.Settled.{Settled}
use Rattle.rules.specs.BookCounts.{place_count, rule_count}

-- the board is settled under one rule: every answer equals the board's span
abbrev pub Calm : {S : Type 0} → Kind S → ℕ → Rule S → List S → Type 0
Calm kind places rule board = (p : ℕ) → p < places → rule.answer p board ≡ span_at kind board p

module _ {S R : Type 0} (kind : Kind S) (places_of : R → ℕ) (meant : R → Rule S) where
  -- the rule of a row in a book of so many places: a row for other boards stands for a rule that changes nothing
  abbrev pub rule_in : ℕ → R → Rule S
  rule_in places row = cond (places_of row == places) (meant row) (idle kind (0 ∷ []))

  -- the book of these rows
  abbrev pub row_book_of : ℕ → List R → Meaning S
  row_book_of places rows = record {
    places = place_count places;
    rules = rule_count (length rows);
    rule = λ r. slice_index_or (map (rule_in (place_count places)) rows) r (idle kind (0 ∷ []));
  }

  -- the row counts in the book: it is one of the first 1,000, and for boards of as many places
  abbrev pub Counts : ℕ → List R → R → Type 0
  Counts places rows row = Among row (take 1000 rows) × (places_of row ≡ place_count places)

  module _ (consistent : R → List S → Type 0) where
    -- a board with no empty span is settled under the rule of a row exactly when it is consistent for the row
    abbrev pub RowLaw : Type 0
    RowLaw = (row : R) (board : List S) → Full kind (places_of row) board → Calm kind (places_of row) (meant row) board ↔ consistent row board

    -- a board with no empty span is settled under the book of these rows exactly when it is consistent for each row that counts
    abbrev pub RowBookLaw : ℕ → List R → Type 0
    RowBookLaw places rows = (board : List S) → Full kind (place_count places) board → Settled kind (row_book_of places rows) board ↔ ((row : R) → Counts places rows row → consistent row board)
