-- Limits: a limit cuts one place of a board to a span. Assumes nothing.
use Rattle.std.specs.Prelude.{ℕ, T, List, [], ◌∷◌, ℤ, slice_set}
use Rattle.spans.specs.Kind.{Kind}
use Rattle.books.specs.Boards.{Among, span_at, number_at}

-- a place, and the span that it is cut to
pub record Limit (S : Type 0) : Type 0 where
  pub place : ℕ
  pub span : S

module _ {S : Type 0} (kind : Kind S) where
  -- the common part of a limit's span and the board's span at its place
  abbrev pub shared : List S → Limit S → S
  shared board l = kind.meet (span_at kind board l.place) l.span

  -- the board with that common part at the limit's place
  unfoldable pub cut_one : List S → Limit S → List S
  cut_one board l = slice_set board l.place (shared board l)

  -- the board cut by every limit of a list, the last one first
  unfoldable pub cut : List S → List (Limit S) → List S
  cut board [] = board
  cut board (l ∷ ls) = cut_one (cut board ls) l

  -- the holding obeys every limit of a list: each one's span admits its number there
  abbrev pub Limited : List ℤ → List (Limit S) → Type 0
  Limited holding ls = (l : Limit S) → Among l ls → T (kind.admits l.span (number_at holding l.place))
