-- Settled boards, and the widest of them inside a board. Assumes nothing.
use Rattle.std.specs.Prelude.{◌≡◌, ℕ, ◌<◌, List}
use Rattle.spans.specs.Kind.{Kind}
use Rattle.books.specs.Boards.{span_at, Full, Inside}
use Rattle.books.specs.Meaning.{Meaning}

module _ {S : Type 0} (kind : Kind S) (book : Meaning S) where
  -- no span is empty, and every answer equals the board's span
  pub record Settled (board : List S) : Type 0 where
    pub full : Full kind book.places board
    pub calm : (r p : ℕ) → r < book.rules → p < book.places → (book.rule r).answer p board ≡ span_at kind board p

  -- of the settled boards inside a board, the widest is the one that has every other of them inside it
  pub record Widest (widest board : List S) : Type 0 where
    pub settled : Settled widest
    pub inside : Inside kind book.places widest board
    pub others : (s : List S) → Settled s → Inside kind book.places s board → Inside kind book.places s widest

  -- some settled board lies inside the board
  abbrev pub SomeSettled : List S → Type 0
  SomeSettled board = (s : List S) × Settled s × Inside kind book.places s board
