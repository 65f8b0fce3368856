-- Histories of a position, the limits in force, and the law of all histories. Assumes nothing.
use Rattle.std.specs.Prelude.{◌≡◌, ℕ, suc, ◌*◌, ◌<◌, ◌≤◌, cond, T, ◌↔◌, List, [], ◌∷◌, length, take, ℤ, Ok, Err, Result, nat_le}
use Rattle.spans.specs.Kind.{Kind}
use Rattle.books.specs.Boards.{Among, span_at, On}
use Rattle.books.specs.Meaning.{Meaning}
use Rattle.books.specs.Settled.{Widest, SomeSettled}
use Rattle.engine.specs.declared.refusal.Refusal.{Refusal}
use Rattle.engine.specs.declared.refusal.Refusal.TheVariants.{NoSuchPlace, KeepFull, NoMark}
use Rattle.engine.specs.Limits.{Limit, cut, Limited}
use Rattle.engine.specs.Settling.{Obeys}
use Rattle.engine.specs.Calls.{Memory, State, shown, enough, open_reply, limit_reply, mark_reply, back_reply, check_answer, finish_list}

-- the call was granted
abbrev pub Granted : {A : Type 0} → Result A Refusal → Type 0
Granted (Ok value) = Unit {0}
Granted (Err refusal) = ⊥

-- the call was refused
abbrev pub Refused : {A : Type 0} → Result A Refusal → Type 0
Refused (Ok value) = ⊥
Refused (Err refusal) = Unit {0}

-- what a history goes on with
pub data Move (S : Type 0) : Type 0 where
  limiting : Limit S → Move S
  marking : Move S
  backing : Move S

-- the limits in force are those on the roll; the pile has copies of rolls, the latest on top
pub record Force (S : Type 0) : Type 0 where
  pub roll : List (Limit S)
  pub pile : List (List (Limit S))

-- a granted limit joins the roll
abbrev pub joins : {S : Type 0} → Limit S → Result ℕ Refusal → Force S → Force S
joins l (Ok strikes) f = record { roll = l ∷ f.roll; pile = f.pile }
joins l (Err refusal) f = f

-- a granted mark lays a copy of the roll on the pile
abbrev pub lays : {S : Type 0} → Result (Unit {0}) Refusal → Force S → Force S
lays (Ok done) f = record { roll = f.roll; pile = f.roll ∷ f.pile }
lays (Err refusal) f = f

-- the top copy of a pile, if there is one, becomes the roll
abbrev pub top_taken : {S : Type 0} → Force S → List (List (Limit S)) → Force S
top_taken f [] = f
top_taken f (top ∷ pile) = record { roll = top; pile = pile }

-- a granted back takes the top copy off the pile as the new roll
abbrev pub takes : {S : Type 0} → Result (Unit {0}) Refusal → Force S → Force S
takes (Ok done) f = top_taken f f.pile
takes (Err refusal) f = f

-- where a history has come to: a state, and the limits in force
pub record Story (S : Type 0) : Type 0 where
  pub state : State S
  pub force : Force S

module _ {S : Type 0} (kind : Kind S) (book : Meaning S) where
  -- one move: roll and pile are read off the call and its answer
  abbrev pub advance : Move S → Story S → Story S
  advance (limiting l) s = let r = limit_reply kind book l s.state in record { state = r.state; force = joins l r.answer s.force }
  advance marking s = let r = mark_reply s.state in record { state = r.state; force = lays r.answer s.force }
  advance backing s = let r = back_reply s.state in record { state = r.state; force = takes r.answer s.force }

  -- any number of moves, in any order
  unfoldable pub play : List (Move S) → Story S → Story S
  play [] s = s
  play (m ∷ ms) s = play ms (advance m s)

  -- an opening on the memory handed in, and then the moves
  unfoldable pub history : Memory S → List (Move S) → Story S
  history m moves = play moves (record { state = (open_reply kind book m).state; force = record { roll = []; pile = [] } })

-- the opening board: the board as handed to the opening, as far as the book counts places
abbrev pub handed : {S : Type 0} → Meaning S → Memory S → List S
handed book m = take book.places m.board

-- the answer to a mark where so many marks stand: granted if the keep has room for one more board
abbrev pub room_for : ℕ → ℕ → ℕ → Result (Unit {0}) Refusal
room_for places marks spans = cond (nat_le (suc marks * places) spans) (Ok tt) (Err KeepFull)

-- the answer to a back, by the pile: granted if a mark stands
abbrev pub top_of : {S : Type 0} → List (List (Limit S)) → Result (Unit {0}) Refusal
top_of [] = Err NoMark
top_of (top ∷ pile) = Ok tt

module _ {S : Type 0} (kind : Kind S) (book : Meaning S) where
  -- a holding on a board that obeys the rules and the limits
  pub record Fair (board : List S) (limits : List (Limit S)) (holding : List ℤ) : Type 0 where
    pub on : On kind book.places holding board
    pub obeys : Obeys book holding
    pub limited : Limited kind holding limits

  -- what holds where a history has come to, over its opening board and a keep of so many spans
  pub record Told (opening : List S) (spans : ℕ) (s : Story S) : Type 0 where
    -- its spans are the widest settled board inside the opening board cut by the limits in force
    pub shows : Widest kind book (shown s.state) (cut kind opening s.force.roll)
    -- a limit on a counted place is refused exactly when no settled board lies inside the opening board cut by it and the limits in force
    pub next_limit : (l : Limit S) → l.place < book.places → Refused (limit_reply kind book l s.state).answer ↔ (¬ SomeSettled kind book (cut kind opening (l ∷ s.force.roll)))
    -- a limit on any other place is refused, for there is no such place
    pub no_place : (l : Limit S) → book.places ≤ l.place → (limit_reply kind book l s.state).answer ≡ Err (NoSuchPlace l.place)
    -- a mark is refused exactly when no whole board is left on the keep
    pub next_mark : (mark_reply s.state).answer ≡ room_for book.places (length s.force.pile) spans
    -- a back is refused exactly when no mark stands
    pub next_back : (back_reply s.state).answer ≡ top_of s.force.pile
    -- every holding on the opening board that obeys the rules and the limits in force stays admitted
    pub admitted : (h : List ℤ) → Fair opening s.force.roll h → On kind book.places h (shown s.state)
    -- a finish straight after its granted check hands out such a holding
    pub finishes : (list : List ℤ) → Granted (check_answer kind s.state list) → Fair opening s.force.roll (take book.places (finish_list kind s.state list))

  -- two boards admit the same numbers at every counted place
  abbrev pub SameNumbers : List S → List S → Type 0
  SameNumbers a b = (p : ℕ) (x : ℤ) → p < book.places → kind.admits (span_at kind a p) x ≡ kind.admits (span_at kind b p) x

  -- two histories stand alike: equal spans, and the same answer to the same next limit, with its strikes or its number, place and rule
  pub record Alike (s t : Story S) : Type 0 where
    pub spans : shown s.state ≡ shown t.state
    pub answers : (l : Limit S) → (limit_reply kind book l s.state).answer ≡ (limit_reply kind book l t.state).answer

  -- the law of all histories
  pub record HistoryLaw : Type 0 where
    -- a board cut by limits keeps at each place its numbers that the span of every limit there admits
    pub cuts : (b : List S) (ls : List (Limit S)) (p : ℕ) (x : ℤ) → p < length b
        → T (kind.admits (span_at kind (cut kind b ls) p) x) ↔ (T (kind.admits (span_at kind b p) x) × ((l : Limit S) → Among l ls → l.place ≡ p → T (kind.admits l.span x)))
    -- an opening with enough memory is refused exactly when no settled board lies inside the board handed to it
    pub opens : (m : Memory S) → T (enough book.places book.rules m) → Refused (open_reply kind book m).answer ↔ (¬ SomeSettled kind book (handed book m))
    -- every history: a granted opening, and then any moves
    pub tells : (m : Memory S) (moves : List (Move S)) → Granted (open_reply kind book m).answer → Told (handed book m) (length m.keep) (history kind book m moves)
    -- two histories of one opening board whose limits in force cut it to the same numbers stand alike, whatever the rest of their memory and its sizes
    pub alike : (m m' : Memory S) (moves moves' : List (Move S)) → Granted (open_reply kind book m).answer → Granted (open_reply kind book m').answer → handed book m ≡ handed book m'
        → SameNumbers (cut kind (handed book m) (history kind book m moves).force.roll) (cut kind (handed book m') (history kind book m' moves').force.roll)
        → Alike (history kind book m moves) (history kind book m' moves')
