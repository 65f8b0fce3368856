-- What plain sweeps come to, in words: the law of sweeps. Assumes nothing.
use Rattle.std.specs.Prelude.{◌≡◌, ℕ, ◌+◌, ◌<◌, ◌≤◌, T, List, ℤ}
use Rattle.spans.specs.Kind.{Kind}
use Rattle.books.specs.Boards.{Full, On}
use Rattle.books.specs.Meaning.{Meaning}
use Rattle.books.specs.Settled.{Widest, SomeSettled}
use Rattle.books.specs.Sweeps.{Outcome, emptied, left, total, sweeps, settle}

-- the holding obeys every rule of the book
abbrev pub Obeys : {S : Type 0} → Meaning S → List ℤ → Type 0
Obeys book holding = (r : ℕ) → r < book.rules → T ((book.rule r).obeys holding)

module _ {S : Type 0} (kind : Kind S) (book : Meaning S) where
  -- what is told of a board by the board that sweeps leave of it, and by the strikes
  pub record Left (board end : List S) (strikes : ℕ) : Type 0 where
    -- the widest settled board inside it is left
    pub widest : Widest kind book end board
    -- every holding on it that obeys the rules stays on the board
    pub holdings : (h : List ℤ) → Obeys book h → On kind book.places h board → On kind book.places h end
    -- each strike takes a number away
    pub falls : total kind end + strikes ≤ total kind board

  -- what is told of a board of which a rule empties a span
  pub record Hopeless (board : List S) : Type 0 where
    -- no settled board lies inside it
    pub no_settled : ¬ SomeSettled kind book board
    -- and no holding on it obeys the rules
    pub no_holding : (h : List ℤ) → Obeys book h → ¬ On kind book.places h board

  -- what is told of a board by how its sweeps end
  abbrev pub Ends : List S → Outcome S → Type 0
  Ends board (emptied place rule) = Hopeless board
  Ends board (left end strikes) = Left board end strikes

  -- the law of sweeps
  pub record SweepsLaw : Type 0 where
    -- settling a board with no empty span leaves its widest settled board, or shows that it has none
    pub ends : (board : List S) → Full kind book.places board → Ends board (settle kind book board)
    -- the sweeps never run out: more sweeps than numbers on the board all come to the same
    pub enough : (board : List S) (n : ℕ) → Full kind book.places board → total kind board < n → sweeps kind book n board 0 ≡ settle kind book board
