-- What the code's calls come to, in the pieces that are lent to them. Assumes nothing.
use Rattle.std.specs.Prelude.{◌≡◌, ℕ, ◌*◌, cond, ◌&&◌, List, [], ℤ, Ok, Err, Result, ◌==◌, nat_le, nat_lt}
use Rattle.std.specs.List.{position}
use Rattle.std.specs.Option.{option_map_or}
use Rattle.books.specs.Meaning.{Meaning}
use Rattle.spans.specs.Kind.{Kind}
use Rattle.engine.specs.declared.sweep.EmptiedBy.{EmptiedBy}
use Rattle.engine.specs.declared.refusal.Refusal.{Refusal}
use Rattle.engine.specs.declared.refusal.Refusal.TheVariants.{TooShort, OtherBook, NoSuchPlace, EmptySpan}
use Rattle.engine.specs.declared.counts.Counts.{Counts}
use Rattle.engine.specs.declared.position.Position.{Position}
use Rattle.engine.specs.declared.position.opening.Opened.{Opened}
use Rattle.engine.specs.Limits.{Limit}
use Rattle.engine.specs.Calls.{Memory, State, Reply, Verdict, denied, allowed, enough, fresh, open_reply, limit_reply, mark_reply, back_reply, check_answer, finish_list}
use Rattle.engine.specs.Skims.{Skim, halted, onward}

-- how a sweep ended, by its answer and by the board and the waiting list that it left
abbrev pub skim_told : {S : Type 0} → Result ℕ EmptiedBy → List S → List ℕ → Skim S
skim_told (Ok strikes) board waiting = onward board waiting strikes
skim_told (Err by) board waiting = halted by.place by.rule

-- refused at the lowest empty span of a board, if it has one
abbrev pub empty_told : {S : Type 0} → Kind S → List S → Result (Unit {0}) Refusal
empty_told kind board = option_map_or (λ place. Err (EmptySpan place)) (position (λ span. kind.size span == 0) board) (Ok tt)

-- the answer of a verdict
abbrev pub verdict_answer : {S : Type 0} → Verdict S → Result ℕ Refusal
verdict_answer (denied refusal) = Err refusal
verdict_answer (allowed board strikes) = Ok strikes

-- the board after a verdict: the settled one, or the one that was there
abbrev pub verdict_board : {S : Type 0} → List S → Verdict S → List S
verdict_board was (denied refusal) = was
verdict_board was (allowed board strikes) = board

-- the memory that the lent pieces make
abbrev pub lent : {S : Type 0} → List S → List S → List ℕ → List S → Memory S
lent board working waiting keep = record { board = board; working = working; waiting = waiting; keep = keep }

-- the state that a position makes with them
abbrev pub at : {S : Type 0} → Position → List S → List S → List ℕ → List S → State S
at position board working waiting keep = record { places = position.counts.places; rules = position.counts.rules; marks = position.marks; memory = lent board working waiting keep }

-- what an opening came to: a position with its memory; or, refused, the memory alone
abbrev pub opened : {S : Type 0} → Meaning S → Result Opened Refusal → Memory S → Reply ℕ S
opened book (Ok o) m = record { answer = Ok o.strikes; state = at o.position m.board m.working m.waiting m.keep }
opened book (Err refusal) m = record { answer = Err refusal; state = fresh book m }

-- the counts of a book
abbrev pub counted : {S : Type 0} → Meaning S → Counts
counted book = record { places = book.places; rules = book.rules }

-- the check of the memory that opening and limit settle in
abbrev pub memory_checked : {S : Type 0} → Counts → List S → List S → List ℕ → Result (Unit {0}) Refusal
memory_checked counts board working waiting = cond (enough counts.places counts.rules (lent board working waiting [])) (Ok tt) (Err TooShort)

-- the checks of a limit that come before the board is looked at
abbrev pub limit_checked : {S : Type 0} → Position → Meaning S → ℕ → List S → List S → List ℕ → Result (Unit {0}) Refusal
limit_checked position book place board working waiting =
    cond (enough position.counts.places position.counts.rules (lent board working waiting []))
    (cond (book.places == position.counts.places && book.rules == position.counts.rules) (cond (nat_lt place position.counts.places) (Ok tt) (Err (NoSuchPlace place))) (Err OtherBook))
    (Err TooShort)

module _ {S : Type 0} (kind : Kind S) where
  module _ (book : Meaning S) where
    -- opening answers and leaves all memory as its definition says, whatever the keep holds
    abbrev pub OpeningCall : Memory S → Result Opened Refusal → List S → List S → List ℕ → Type 0
    OpeningCall m r board working waiting = (keep : List S) → opened book r (lent board working waiting keep) ≡ open_reply kind book (lent m.board m.working m.waiting keep)

    -- and so does limit, on the same position
    abbrev pub LimitCall : Position → Limit S → Memory S → Result ℕ Refusal → List S → List S → List ℕ → Type 0
    LimitCall position l m r board working waiting =
        (keep : List S) → ◌≡◌ {A = Reply ℕ S} (record { answer = r; state = at position board working waiting keep }) (limit_reply kind book l (at position m.board m.working m.waiting keep))

  -- the check of finish answers as its definition says, whatever the rest of the memory holds
  abbrev pub CheckCall : Position → List S → List ℤ → Result (Unit {0}) Refusal → Type 0
  CheckCall position board list r = (working : List S) (waiting : List ℕ) (keep : List S) → r ≡ check_answer kind (at position board working waiting keep) list

  -- and finish writes the list so
  abbrev pub FinishCall : Position → List S → List ℤ → List ℤ → Type 0
  FinishCall position board list after = (working : List S) (waiting : List ℕ) (keep : List S) → after ≡ finish_list kind (at position board working waiting keep) list

-- the check of mark and back: a board of so many spans, and a keep of so many
abbrev pub keep_checked : Position → ℕ → ℕ → Result (Unit {0}) Refusal
keep_checked position board keep = cond (nat_le position.counts.places board && nat_le (position.marks * position.counts.places) keep) (Ok tt) (Err TooShort)

-- mark answers, counts its marks and leaves board and keep as its definition says, whatever the rest of the memory holds
abbrev pub MarkCall : {S : Type 0} → Position → List S → List S → Result (Unit {0}) Refusal → Position → List S → Type 0
MarkCall {S} position board keep r after keep' =
    (working : List S) (waiting : List ℕ) → ◌≡◌ {A = Reply (Unit {0}) S} (record { answer = r; state = at after board working waiting keep' }) (mark_reply (at position board working waiting keep))

-- and so does back
abbrev pub BackCall : {S : Type 0} → Position → List S → List S → Result (Unit {0}) Refusal → Position → List S → Type 0
BackCall {S} position board keep r after board' =
    (working : List S) (waiting : List ℕ) → ◌≡◌ {A = Reply (Unit {0}) S} (record { answer = r; state = at after board' working waiting keep }) (back_reply (at position board working waiting keep))
