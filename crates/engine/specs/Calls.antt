-- The calls on a position: what each answers, and every piece of memory after it. Assumes nothing.
use Rattle.std.specs.Prelude.{ℕ, zero, suc, ◌+◌, ◌*◌, Bool, cond, not, ◌&&◌, leb, List, [], ◌∷◌, ◌++◌, length, take, drop, ℤ, pos, Ok, Err, Result, ◌==◌, nat_le, nat_lt}
use Rattle.std.specs.List.{position}
use Rattle.std.specs.Option.{option_map_or}
use Rattle.spans.specs.Kind.{Kind}
use Rattle.books.specs.Boards.{span_at}
use Rattle.books.specs.Meaning.{Meaning}
use Rattle.books.specs.Sweeps.{Outcome, emptied, left, settle}
use Rattle.engine.specs.declared.refusal.Refusal.{Refusal}
use Rattle.engine.specs.declared.refusal.Refusal.TheVariants.{TooShort, OtherBook, NoSuchPlace, EmptySpan, NothingShared, Emptied, KeepFull, NoMark, NotOneNumber}
use Rattle.engine.specs.Limits.{Limit, shared, cut_one}
use Rattle.engine.specs.Waiting.{none_wait}

-- the memory that the game hands in: a board, a working board, a waiting list with an entry for each rule, and a keep for the boards of marks
pub record Memory (S : Type 0) : Type 0 where
  pub board : List S
  pub working : List S
  pub waiting : List ℕ
  pub keep : List S

-- a position with its memory: it records how many places, rules and standing marks it counts
pub record State (S : Type 0) : Type 0 where
  pub places : ℕ
  pub rules : ℕ
  pub marks : ℕ
  pub memory : Memory S

-- what a call comes to: its answer, which is a value or a refusal, and the state after it
pub record Reply (A S : Type 0) : Type 0 where
  pub answer : Result A Refusal
  pub state : State S

-- a refusal that leaves all as it was
abbrev pub refuse : {A S : Type 0} → Refusal → State S → Reply A S
refuse refusal st = record { answer = Err refusal; state = st }

-- the board of the position: the memory's board, as far as places are counted
unfoldable pub shown : {S : Type 0} → State S → List S
shown st = take st.places st.memory.board

-- ---- opening and limit

-- what the settling of a call comes to: a refusal, or a settled board after so many strikes
pub data Verdict (S : Type 0) : Type 0 where
  denied : Refusal → Verdict S
  allowed : List S → (strikes : ℕ) → Verdict S

-- a rule that empties a span refuses
abbrev pub judged : {S : Type 0} → Outcome S → Verdict S
judged (emptied place rule) = denied (Emptied place rule)
judged (left board strikes) = allowed board strikes

module _ {S : Type 0} (kind : Kind S) where
  -- an empty span on the board refuses, at the lowest such place
  unfoldable pub whole : List S → Verdict S → Verdict S
  whole board verdict = option_map_or (λ place. denied (EmptySpan place)) (position (λ span. kind.size span == 0) board) verdict

  -- opening settles the board
  unfoldable pub open_verdict : Meaning S → List S → Verdict S
  open_verdict book board = whole board (judged (settle kind book board))

  -- limit cuts the board at one place, which refuses if no number is shared there, and settles it
  unfoldable pub limit_verdict : Meaning S → Limit S → List S → Verdict S
  limit_verdict book l board =
      whole board (cond (kind.size (shared kind board l) == 0) (denied (NothingShared l.place)) (judged (settle kind book (cut_one kind board l))))

-- board, working board and waiting list are long enough for so many places and rules
unfoldable pub enough : {S : Type 0} → ℕ → ℕ → Memory S → Bool
enough places rules m = nat_le places (length m.board) && nat_le places (length m.working) && nat_le rules (length m.waiting)

-- the memory with a board of so many places laid first on board and working board, and with no rule waiting; the rest stays
unfoldable pub laid : {S : Type 0} → ℕ → ℕ → List S → Memory S → Memory S
laid places rules b m = record {
  board = b ++ drop places m.board;
  working = b ++ drop places m.working;
  waiting = none_wait rules m.waiting;
  keep = m.keep;
}

-- the state with its memory laid so
unfoldable pub settled_on : {S : Type 0} → List S → State S → State S
settled_on b st = record { places = st.places; rules = st.rules; marks = st.marks; memory = laid st.places st.rules b st.memory }

-- the reply by a verdict: refused with the board as it was, or granted with the settled board and the strikes
abbrev pub replied : {S : Type 0} → State S → Verdict S → Reply ℕ S
replied st (denied refusal) = refuse refusal (settled_on (shown st) st)
replied st (allowed b strikes) = record { answer = Ok strikes; state = settled_on b st }

-- a position as it is opened: the book's counts, and no mark
abbrev pub fresh : {S : Type 0} → Meaning S → Memory S → State S
fresh book m = record { places = book.places; rules = book.rules; marks = 0; memory = m }

module _ {S : Type 0} (kind : Kind S) (book : Meaning S) where
  -- opening: too short memory, and then as its verdict
  unfoldable pub open_reply : Memory S → Reply ℕ S
  open_reply m =
      let st = fresh book m in
      cond (enough book.places book.rules m) (replied st (open_verdict kind book (shown st))) (refuse TooShort st)

  -- limit: too short memory, another book, a place that is not counted, and then as its verdict
  unfoldable pub limit_reply : Limit S → State S → Reply ℕ S
  limit_reply l st =
      let there = cond (nat_lt l.place st.places) (replied st (limit_verdict kind book l (shown st))) (refuse (NoSuchPlace l.place) st) in
      let same = cond (book.places == st.places && book.rules == st.rules) there (refuse OtherBook st) in
      cond (enough st.places st.rules st.memory) same (refuse TooShort st)

-- ---- mark and back

-- the board is long enough, and the keep for the marks
unfoldable pub holds : {S : Type 0} → State S → Bool
holds st = nat_le st.places (length st.memory.board) && nat_le (st.marks * st.places) (length st.memory.keep)

-- the board of the position copied onto the next free part of the keep, and one more mark
unfoldable pub marked : {S : Type 0} → State S → State S
marked st =
    let at = st.marks * st.places in
    let m = st.memory in
    record {
      places = st.places;
      rules = st.rules;
      marks = suc st.marks;
      memory = record {
        board = m.board;
        working = m.working;
        waiting = m.waiting;
        keep = take at m.keep ++ (shown st ++ drop (at + st.places) m.keep);
      };
    }

-- mark: too short memory, no whole board left on the keep, and then the copy
unfoldable pub mark_reply : {S : Type 0} → State S → Reply (Unit {0}) S
mark_reply st =
    let fits = leb (st.marks * st.places + st.places) (length st.memory.keep) in
    cond (holds st) (cond fits (record { answer = Ok tt; state = marked st }) (refuse KeepFull st)) (refuse TooShort st)

-- back to the latest of so many marks, if any: its board is restored, and the mark is gone
unfoldable pub back_to : {S : Type 0} → State S → ℕ → Reply (Unit {0}) S
back_to st zero = refuse NoMark st
back_to st (suc m) = record {
  answer = Ok tt;
  state = record {
    places = st.places;
    rules = st.rules;
    marks = m;
    memory = record {
      board = take st.places (drop (m * st.places) st.memory.keep) ++ drop st.places st.memory.board;
      working = st.memory.working;
      waiting = st.memory.waiting;
      keep = st.memory.keep;
    };
  };
}

-- back: too short memory, no mark, and then the restoring
unfoldable pub back_reply : {S : Type 0} → State S → Reply (Unit {0}) S
back_reply st = cond (holds st) (back_to st st.marks) (refuse TooShort st)

-- ---- finish

module _ {S : Type 0} (kind : Kind S) where
  -- the check of finish, which changes nothing: too short board or list, and then the lowest place without exactly one number
  unfoldable pub check_answer : State S → List ℤ → Result (Unit {0}) Refusal
  check_answer st list =
      let ready = option_map_or (λ place. Err (NotOneNumber place)) (position (λ span. not (kind.size span == 1)) (shown st)) (Ok tt) in
      cond (nat_le st.places (length st.memory.board) && nat_le st.places (length list)) ready (Err TooShort)

  -- the number that finish writes for a span: the least, or 0 where it is empty
  unfoldable pub lowest : S → ℤ
  lowest span = cond (kind.size span == 0) (pos 0) (kind.least span)

  -- such a number for each of so many places of the board, as far as the list reaches; the rest of the list stays
  unfoldable pub written : ℕ → List S → List ℤ → List ℤ
  written zero board list = list
  written (suc n) board [] = []
  written (suc n) board (x ∷ list) = lowest (span_at kind board 0) ∷ written n (drop 1 board) list

  -- the list after finish
  unfoldable pub finish_list : State S → List ℤ → List ℤ
  finish_list st list = written st.places st.memory.board list
