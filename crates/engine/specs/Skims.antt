-- Sweeps that pass over the rules that do not wait, as the engine runs them. Assumes nothing.
use Rattle.std.specs.Prelude.{◌≡◌, ℕ, zero, suc, ◌≤◌, cond, List, [], ◌∷◌, length, ◌==◌, nat_lt, slice_index, slice_set}
use Rattle.spans.specs.Kind.{Kind}
use Rattle.books.specs.Boards.{span_at, Full}
use Rattle.books.specs.Meaning.{Meaning}
use Rattle.books.specs.Sweeps.{Outcome, emptied, left, total, settle}
use Rattle.books.specs.Waking.{woken}
use Rattle.engine.specs.Waiting.{all_wait, none_wait}

-- how visits end: a span would be left empty, at this place by this rule; or a board and a waiting list are left, after so many strikes
pub data Skim (S : Type 0) : Type 0 where
  halted : (place rule : ℕ) → Skim S
  onward : List S → (waiting : List ℕ) → (strikes : ℕ) → Skim S

-- go on with the board and the waiting list that are left
abbrev pub on_then : {S : Type 0} → Skim S → (List S → List ℕ → ℕ → Skim S) → Skim S
on_then (halted place rule) next = halted place rule
on_then (onward board waiting strikes) next = next board waiting strikes

-- how the same visits end as plain ones
abbrev pub bare : {S : Type 0} → Skim S → Outcome S
bare (halted place rule) = emptied place rule
bare (onward board waiting strikes) = left board strikes

module _ {S : Type 0} (kind : Kind S) (book : Meaning S) where
  -- places of the rule r in turn: an answer with fewer numbers is a strike, it takes its place on the board, and every rule of that place waits
  unfoldable pub tend : ℕ → List ℕ → List S → List ℕ → ℕ → Skim S
  tend r [] board waiting strikes = onward board waiting strikes
  tend r (p ∷ ps) board waiting strikes =
      let answer = (book.rule r).answer p board in
      let struck = tend r ps (slice_set board p answer) (woken book p waiting) (suc strikes) in
      let same = tend r ps board waiting strikes in
      cond (kind.size answer == 0) (halted p r) (cond (nat_lt (kind.size answer) (kind.size (span_at kind board p))) struck same)

  -- the rule r, if it waits: it waits no more, and then its places are visited
  unfoldable pub tend_rule : ℕ → List S → List ℕ → ℕ → Skim S
  tend_rule r board waiting strikes =
      let visited = tend r (book.rule r).scope board (slice_set waiting r 0) strikes in
      cond (slice_index waiting r == 0) (onward board waiting strikes) visited

  -- so many rules from the rule r on, by rising number
  unfoldable pub skim_from : ℕ → ℕ → List S → List ℕ → ℕ → Skim S
  skim_from zero r board waiting strikes = onward board waiting strikes
  skim_from (suc n) r board waiting strikes = on_then (tend_rule r board waiting strikes) (skim_from n (suc r))

  -- one sweep over the rules of the book that wait
  unfoldable pub skim : List S → List ℕ → ℕ → Skim S
  skim board waiting strikes = skim_from book.rules 0 board waiting strikes

  -- sweep after sweep until one without a strike, at most as many as the first number says
  unfoldable pub skims : ℕ → List S → List ℕ → ℕ → Skim S
  skims zero board waiting strikes = onward board waiting strikes
  skims (suc n) board waiting strikes = on_then (skim board waiting strikes) (λ b w s. let more = skims n b w s in cond (s == strikes) (onward b w s) more)

  -- settle a board so: every rule waits at first
  unfoldable pub skimmed : List S → List ℕ → Skim S
  skimmed board waiting = skims (suc (total kind board)) board (all_wait book.rules waiting) 0

  -- at the end of the visits no rule of the book waits, and the rest of the waiting list is as it was
  abbrev pub Rests : List ℕ → Skim S → Type 0
  Rests waiting (halted place rule) = Unit {0}
  Rests waiting (onward b w s) = w ≡ none_wait book.rules waiting

  -- the law of passing over, for a board with no empty span and a waiting list with an entry for each rule
  pub record PassingLaw : Type 0 where
    -- the same board is left as by plain sweeps, or the same place is emptied by the same rule, after as many strikes
    pub same : (board : List S) (waiting : List ℕ) → Full kind book.places board → book.rules ≤ length waiting → bare (skimmed board waiting) ≡ settle kind book board
    -- and then no rule waits
    pub rests : (board : List S) (waiting : List ℕ) → Full kind book.places board → book.rules ≤ length waiting → Rests waiting (skimmed board waiting)
