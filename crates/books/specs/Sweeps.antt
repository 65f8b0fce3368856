-- Plain sweeps: how a board is settled. Assumes nothing.
use Rattle.std.specs.Prelude.{ℕ, zero, suc, ◌+◌, cond, List, [], ◌∷◌, ◌++◌, map, ◌==◌, nat_lt, slice_set}
use Rattle.spans.specs.Kind.{Kind}
use Rattle.books.specs.Boards.{span_at}
use Rattle.books.specs.Meaning.{Meaning}

-- a rule, and a place of it to visit
pub record Visit : Type 0 where
  pub rule : ℕ
  pub place : ℕ

-- the visits of the rules below a number: by rising rule, and each rule's places in its order
unfoldable pub visits : {S : Type 0} → Meaning S → ℕ → List Visit
visits book zero = []
visits book (suc r) = visits book r ++ map (λ p. record { rule = r; place = p }) (book.rule r).scope

-- how visits end: a span was left empty, at this place by this rule; or a board is left, after so many strikes
pub data Outcome (S : Type 0) : Type 0 where
  emptied : (place rule : ℕ) → Outcome S
  left : List S → (strikes : ℕ) → Outcome S

-- go on with the board that is left
abbrev pub then : {S : Type 0} → Outcome S → (List S → ℕ → Outcome S) → Outcome S
then (emptied place rule) next = emptied place rule
then (left board strikes) next = next board strikes

module _ {S : Type 0} (kind : Kind S) where
  -- 1 for a replacement that leaves fewer numbers
  unfoldable pub strike : S → S → ℕ
  strike new old = cond (nat_lt (kind.size new) (kind.size old)) 1 0

  -- how many numbers the spans of a board have together
  unfoldable pub total : List S → ℕ
  total [] = 0
  total (span ∷ board) = kind.size span + total board

  module _ (book : Meaning S) where
    -- visits in turn: each visited span is replaced by the answer on the board of that moment, and an empty answer ends them
    unfoldable pub walk : List Visit → List S → ℕ → Outcome S
    walk [] board strikes = left board strikes
    walk (v ∷ vs) board strikes =
        let answer = (book.rule v.rule).answer v.place board in
        let more = walk vs (slice_set board v.place answer) (strikes + strike answer (span_at kind board v.place)) in
        cond (kind.size answer == 0) (emptied v.place v.rule) more

    -- one sweep over the whole book
    unfoldable pub sweep : List S → ℕ → Outcome S
    sweep board strikes = walk (visits book book.rules) board strikes

    -- sweep after sweep until one without a strike, at most as many as the first number says
    unfoldable pub sweeps : ℕ → List S → ℕ → Outcome S
    sweeps zero board strikes = left board strikes
    sweeps (suc n) board strikes = then (sweep board strikes) (λ b s. let more = sweeps n b s in cond (s == strikes) (left b s) more)

    -- settle a board: each sweep but the last takes a number away, so these sweeps never run out
    unfoldable pub settle : List S → Outcome S
    settle board = sweeps (suc (total board)) board 0
