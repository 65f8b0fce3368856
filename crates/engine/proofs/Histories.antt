-- Every history keeps its board, and the boards of its marks, what the opening board and the limits come to. Assumes nothing.
use Rattle.std.proofs.Common.{◌≡◌, ℕ, zero, suc, ◌+◌, ◌*◌, ◌<◌, ◌≤◌, Bool, true, false, cond, ◌&&◌, T, ltb, leb, ◌⊎◌, ◌↔◌, List, [], ◌∷◌, ◌++◌, length, take, drop, replicate, Ok, sym, refl, ap, ◌∙◌, subst, inl, inr, suc-mul, suc-add, zero-add, arith, length-append, length-drop, length-take, length-take-le, take-take, take_at, drop_at}
use lib.ListN.{length-replicate}
use lib.Seq.{take-nil}
use Rattle.std.proofs.lemmas.Bool.{lt-ltb, le-ltb, le-leb, leb-true, eq-eqb, and_parts, cases_lt}
use Rattle.spans.specs.Kind.{Kind}
use Rattle.books.specs.Meaning.{Meaning, Lawful}
use Rattle.books.specs.Settled.{SomeSettled}
use Rattle.engine.specs.declared.refusal.Refusal.TheVariants.{TooShort, NoSuchPlace, KeepFull}
use Rattle.engine.specs.Limits.{Limit, cut}
use Rattle.engine.specs.Waiting.{filled}
use Rattle.engine.specs.Calls.{Memory, State, Reply, refuse, shown, Verdict, denied, allowed, open_verdict, limit_verdict, enough, laid, settled_on, replied, fresh, open_reply, limit_reply, holds, marked, mark_reply, back_to, back_reply}
use Rattle.engine.specs.History.{Granted, Refused, Move, limiting, marking, backing, Force, joins, lays, takes, Story, advance, play, handed, history}
use Rattle.engine.proofs.Boards.{is_true}
use Rattle.engine.proofs.Verdicts.{Stands, GoodVerdict, open_good, limit_good}

-- a part of a list is the end of the list cut off behind the part
pub part_take : {A : Type 0} (a n : ℕ) (l : List A) → take n (drop a l) ≡ drop a (take (a + n) l)
part_take zero n l = rw zero-add
part_take (suc a) n [] = take-nil n ∙ sym (rw suc-add)
part_take (suc a) n (x ∷ l) = rw suc-add (part_take a n l)

-- the board of a mark on a keep of boards of so many places
abbrev pub kept_board : {S : Type 0} → ℕ → List S → ℕ → List S
kept_board places keep m = take places (drop (m * places) keep)

-- a position with the book's counts
abbrev pub at_book : {S : Type 0} → Meaning S → ℕ → Memory S → State S
at_book book marks m = record { places = book.places; rules = book.rules; marks = marks; memory = m }

module _ {S : Type 0} (kind : Kind S) (book : Meaning S) where
  -- the boards of the standing marks are what the opening board and the rolls of the pile come to
  abbrev pub Kept : List S → List S → ℕ → List (List (Limit S)) → Type 0
  Kept opening keep zero [] = Unit {0}
  Kept opening keep zero (roll ∷ pile) = ⊥
  Kept opening keep (suc m) [] = ⊥
  Kept opening keep (suc m) (roll ∷ pile) = Stands kind book opening roll (kept_board book.places keep m) × Kept opening keep m pile

  -- what every history keeps, of a position with the book's counts
  pub record Inner (opening : List S) (spans marks : ℕ) (m : Memory S) (f : Force S) : Type 0 where
    pub stands : Stands kind book opening f.roll (take book.places m.board)
    pub kept : Kept opening m.keep marks f.pile
    pub room : marks * book.places ≤ length m.keep
    pub keep_long : length m.keep ≡ spans
    pub working_long : book.places ≤ length m.working
    pub waiting_long : book.rules ≤ length m.waiting

  -- and of where it has come to
  pub record Keeps (opening : List S) (spans : ℕ) (s : Story S) : Type 0 where
    pub marks : ℕ
    pub memory : Memory S
    pub is : s.state ≡ at_book book marks memory
    pub inner : Inner opening spans marks memory s.force

  module _ (o : List S) where
    -- the kept boards depend on the keep only as far as the marks go
    kept_same : (keep keep' : List S) (m : ℕ) (pile : List (List (Limit S))) → take (m * book.places) keep ≡ take (m * book.places) keep' → Kept o keep m pile → Kept o keep' m pile
    kept_same keep keep' zero [] e h = tt
    kept_same keep keep' zero (r ∷ rs) e h = h
    kept_same keep keep' (suc m) [] e h = h
    kept_same keep keep' (suc m) (r ∷ rs) e h = (subst (Stands kind book o r) same h.0, kept_same keep keep' m rs less h.1)
      where
        n : ℕ
        n = book.places

        whole : take (m * n + n) keep ≡ take (m * n + n) keep'
        whole = rw (suc-mul m n) at e

        same : kept_board n keep m ≡ kept_board n keep' m
        same = part_take (m * n) n keep ∙ ap (drop (m * n)) whole ∙ sym (part_take (m * n) n keep')

        less : take (m * n) keep ≡ take (m * n) keep'
        less = sym (take-take (m * n) (m * n + n) keep (omega arith)) ∙ ap (take (m * n)) whole ∙ take-take (m * n) (m * n + n) keep' (omega arith)

    -- as many marks stand as the pile has rolls
    pub kept_count : (keep : List S) (m : ℕ) (pile : List (List (Limit S))) → Kept o keep m pile → m ≡ length pile
    kept_count keep zero [] h = refl
    kept_count keep zero (r ∷ rs) h = absurd h
    kept_count keep (suc m) [] h = absurd h
    kept_count keep (suc m) (r ∷ rs) h = ap suc (kept_count keep m rs h.1)

    pub stands_long : {roll : List (Limit S)} {b : List S} → Stands kind book o roll b → length b ≡ book.places
    stands_long s = s.widest.settled.full.long

    -- a board laid on the memory
    laid_inner : (spans marks : ℕ) (m : Memory S) (b : List S) (roll : List (Limit S)) (pile : List (List (Limit S)))
        → Stands kind book o roll b → Kept o m.keep marks pile → marks * book.places ≤ length m.keep → length m.keep ≡ spans
        → Inner o spans marks (laid book.places book.rules b m) (record { roll = roll; pile = pile })
    unfolding laid filled
    laid_inner spans marks m b roll pile s h room e = record {
      stands = subst (Stands kind book o roll) (sym (take_at b _ book.places (stands_long s))) s;
      kept = h;
      room = room;
      keep_long = e;
      working_long = rw (length-append b _, stands_long s) (omega arith);
      waiting_long = rw (length-append {A = ℕ} (replicate book.rules 0) _, length-replicate {A = ℕ} book.rules 0) (omega arith);
    }

    module _ (spans : ℕ) where
      pub board_long : {marks : ℕ} {m : Memory S} {f : Force S} → Inner o spans marks m f → book.places ≤ length m.board
      board_long {m} h = let e : length (take book.places m.board) ≡ book.places = stands_long h.stands in omega (arith, e, length-take book.places m.board)

      enough_true : {marks : ℕ} {m : Memory S} {f : Force S} → Inner o spans marks m f → enough book.places book.rules m ≡ true
      unfolding enough
      enough_true {m} h = rw (
        le-leb book.places (length m.board) (board_long h),
        le-leb book.places (length m.working) h.working_long,
        le-leb book.rules (length m.waiting) h.waiting_long,
      )

      pub holds_true : {marks : ℕ} {m : Memory S} {f : Force S} → Inner o spans marks m f → holds (at_book book marks m) ≡ true
      unfolding holds
      holds_true {marks} {m} h = rw (le-leb book.places (length m.board) (board_long h), le-leb (marks * book.places) (length m.keep) h.room)

      -- a limit with enough memory and the same book
      pub limit_by : (l : Limit S) (marks : ℕ) (m : Memory S) (f : Force S) → Inner o spans marks m f
          → let st = at_book book marks m in
          limit_reply kind book l st ≡ cond (ltb l.place book.places) (replied st (limit_verdict kind book l (take book.places m.board))) (refuse (NoSuchPlace l.place) st)
      unfolding limit_reply shown
      limit_by l marks m f h = rw (enough_true h, eq-eqb book.places book.places refl, eq-eqb book.rules book.rules refl)

      limit_step : (l : Limit S) (marks : ℕ) (m : Memory S) (f : Force S) → Inner o spans marks m f → (v : Verdict S) → GoodVerdict kind book o (l ∷ f.roll) v
          → let r = replied (at_book book marks m) v in Keeps o spans (record { state = r.state; force = joins l r.answer f })
      unfolding settled_on shown
      limit_step l marks m f h (denied refusal) g = record {
        marks = marks;
        memory = laid book.places book.rules (take book.places m.board) m;
        is = refl;
        inner = laid_inner spans marks m (take book.places m.board) f.roll f.pile h.stands h.kept h.room h.keep_long;
      }
      limit_step l marks m f h (allowed b i) g = record {
        marks = marks;
        memory = laid book.places book.rules b m;
        is = refl;
        inner = laid_inner spans marks m b (l ∷ f.roll) f.pile g h.kept h.room h.keep_long;
      }

      limit_keeps : Lawful kind book → length o ≡ book.places → (l : Limit S) (marks : ℕ) (m : Memory S) (f : Force S) → Inner o spans marks m f
          → Keeps o spans (advance kind book (limiting l) (record { state = at_book book marks m; force = f }))
      limit_keeps law long l marks m f h = rw (limit_by l marks m f h) (go (cases_lt l.place book.places))
        where
          st : State S
          st = at_book book marks m

          reply : Reply ℕ S
          reply = cond (ltb l.place book.places) (replied st (limit_verdict kind book l (take book.places m.board))) (refuse (NoSuchPlace l.place) st)

          go : (l.place < book.places) ⊎ (book.places ≤ l.place) → Keeps o spans (record { state = reply.state; force = joins l reply.answer f })
          go (inl here) = rw (lt-ltb l.place book.places here)
              (limit_step l marks m f h (limit_verdict kind book l (take book.places m.board)) (limit_good kind book law o long f.roll (take book.places m.board) h.stands l here))
          go (inr out) = rw (le-ltb l.place book.places out) (record { marks = marks; memory = m; is = refl; inner = h })

      mark_keeps : (marks : ℕ) (m : Memory S) (f : Force S) → Inner o spans marks m f → Keeps o spans (advance kind book marking (record { state = at_book book marks m; force = f }))
      unfolding mark_reply marked shown
      mark_keeps marks m f h = rw (holds_true h) (go (leb (at + n) (length keep)) refl)
        where
          n : ℕ
          n = book.places

          keep : List S
          keep = m.keep

          board : List S
          board = take n m.board

          at : ℕ
          at = marks * n

          keep' : List S
          keep' = take at keep ++ (board ++ drop (at + n) keep)

          m' : Memory S
          m' = record { board = m.board; working = m.working; waiting = m.waiting; keep = keep' }

          reply : Bool → Reply (Unit {0}) S
          reply e = cond e (record { answer = Ok tt; state = at_book book (suc marks) m' }) (refuse KeepFull (at_book book marks m))

          front : length (take at keep) ≡ at
          front = length-take-le at keep h.room

          go : (e : Bool) → leb (at + n) (length keep) ≡ e → Keeps o spans (record { state = (reply e).state; force = lays (reply e).answer f })
          go true e =
              let fit : at + n ≤ length keep = leb-true (at + n) (length keep) e in
              let wide : length board ≡ n = stands_long h.stands in
              let same : length keep' ≡ length keep = rw (length-append (take at keep) _, length-append board _, length-drop (at + n) keep, front, wide) (omega arith) in
              let here : kept_board n keep' marks ≡ board = ap (take n) (drop_at (take at keep) _ at front) ∙ take_at board _ n wide in
              record {
                marks = suc marks;
                memory = m';
                is = refl;
                inner = record {
                  stands = h.stands;
                  kept = (
                    subst (Stands kind book o f.roll) (sym here) h.stands,
                    kept_same keep keep' marks f.pile (sym (take_at (take at keep) _ at front)) h.kept,
                  );
                  room = rw (suc-mul marks n, same) fit;
                  keep_long = same ∙ h.keep_long;
                  working_long = h.working_long;
                  waiting_long = h.waiting_long;
                };
              }
          go false e = record { marks = marks; memory = m; is = refl; inner = h }

      back_step : (m : Memory S) (roll : List (Limit S)) (marks : ℕ) (pile : List (List (Limit S)))
          → let f : Force S = record { roll = roll; pile = pile } in
          let r : Reply (Unit {0}) S = back_to (at_book book marks m) marks in
          Inner o spans marks m f → Keeps o spans (record { state = r.state; force = takes r.answer f })
      unfolding back_to
      back_step m roll zero [] h = record { marks = 0; memory = m; is = refl; inner = h }
      back_step m roll zero (r ∷ rs) h = absurd h.kept
      back_step m roll (suc marks) [] h = absurd h.kept
      back_step m roll (suc marks) (r ∷ rs) h = record {
        marks = marks;
        memory = _;
        is = refl;
        inner = record {
          stands = subst (Stands kind book o r) (sym (take_at (kept_board book.places m.keep marks) _ book.places (stands_long h.kept.0))) h.kept.0;
          kept = h.kept.1;
          room = omega (arith, h.room, suc-mul marks book.places);
          keep_long = h.keep_long;
          working_long = h.working_long;
          waiting_long = h.waiting_long;
        };
      }

      back_keeps : (marks : ℕ) (m : Memory S) (f : Force S) → Inner o spans marks m f → Keeps o spans (advance kind book backing (record { state = at_book book marks m; force = f }))
      unfolding back_reply
      back_keeps marks m f h = rw (holds_true h) (back_step m f.roll marks f.pile h)

      -- where a history has come to has the book's counts
      pub plain_story : (s : Story S) (h : Keeps o spans s) → s ≡ record { state = at_book book h.marks h.memory; force = s.force }
      plain_story s h = λ i. record { state = h.is i; force = s.force }

      module _ (law : Lawful kind book) (long : length o ≡ book.places) where
        inner_keeps : (mv : Move S) (marks : ℕ) (m : Memory S) (f : Force S) → Inner o spans marks m f → Keeps o spans (advance kind book mv (record { state = at_book book marks m; force = f }))
        inner_keeps (limiting l) marks m f h = limit_keeps law long l marks m f h
        inner_keeps marking marks m f h = mark_keeps marks m f h
        inner_keeps backing marks m f h = back_keeps marks m f h

        advance_keeps : (mv : Move S) (s : Story S) → Keeps o spans s → Keeps o spans (advance kind book mv s)
        advance_keeps mv s h =
            subst (λ (z : Story S). Keeps o spans (advance kind book mv z)) (sym (plain_story s h)) (inner_keeps mv h.marks h.memory s.force h.inner)

        pub play_keeps : (ms : List (Move S)) (s : Story S) → Keeps o spans s → Keeps o spans (play kind book ms s)
        unfolding play
        play_keeps [] s h = h
        play_keeps (mv ∷ ms) s h = play_keeps ms (advance kind book mv s) (advance_keeps mv s h)

  module _ (m : Memory S) where
    opening_is : enough book.places book.rules m ≡ true → open_reply kind book m ≡ replied (fresh book m) (open_verdict kind book (handed book m))
    unfolding open_reply shown
    opening_is e = rw e

    pub handed_long : enough book.places book.rules m ≡ true → length (handed book m) ≡ book.places
    unfolding enough
    handed_long e =
        let two = (and_parts (leb book.places (length m.board) && leb book.places (length m.working)) (leb book.rules (length m.waiting)) e).0 in
        let one = (and_parts (leb book.places (length m.board)) (leb book.places (length m.working)) two).0 in
        length-take-le book.places m.board (leb-true book.places (length m.board) one)

    -- a granted opening had enough memory
    pub opening_enough : Granted (open_reply kind book m).answer → enough book.places book.rules m ≡ true
    unfolding open_reply
    opening_enough g = go (enough book.places book.rules m) refl g
      where
        go : (e : Bool) → enough book.places book.rules m ≡ e
            → Granted (cond e (replied (fresh book m) (open_verdict kind book (shown (fresh book m)))) (refuse TooShort (fresh book m))).answer → enough book.places book.rules m ≡ true
        go true e g = e
        go false e g = absurd g

    module _ (law : Lawful kind book) where
      -- an opening with enough memory is refused exactly when no settled board lies inside the board handed to it
      pub opens : T (enough book.places book.rules m) → Refused (open_reply kind book m).answer ↔ (¬ SomeSettled kind book (handed book m))
      unfolding cut
      opens t = let e = is_true (enough book.places book.rules m) t in rw (opening_is e) (go (open_verdict kind book (handed book m)) (open_good kind book law (handed book m) (handed_long e)))
        where
          go : (v : Verdict S) → GoodVerdict kind book (handed book m) [] v → Refused (replied (fresh book m) v).answer ↔ (¬ SomeSettled kind book (handed book m))
          go (denied refusal) g = (λ _. g, λ _. tt)
          go (allowed b i) g = (λ u. absurd u, λ f. f (b, g.widest.settled, g.widest.inside))

      opening_keeps : Granted (open_reply kind book m).answer → Keeps (handed book m) (length m.keep) (record { state = (open_reply kind book m).state; force = record { roll = []; pile = [] } })
      unfolding settled_on
      opening_keeps g =
          let e = opening_enough g in
          rw (opening_is e) (go (open_verdict kind book (handed book m)) (open_good kind book law (handed book m) (handed_long e)) (rw (opening_is e) at g))
        where
          go : (v : Verdict S) → GoodVerdict kind book (handed book m) [] v → Granted (replied (fresh book m) v).answer
              → Keeps (handed book m) (length m.keep) (record { state = (replied (fresh book m) v).state; force = record { roll = []; pile = [] } })
          go (denied refusal) v g = absurd g
          go (allowed b i) v g = record {
            marks = 0;
            memory = laid book.places book.rules b m;
            is = refl;
            inner = laid_inner (handed book m) (length m.keep) 0 m b [] [] v tt (omega arith) refl;
          }

      pub history_keeps : (moves : List (Move S)) → Granted (open_reply kind book m).answer → Keeps (handed book m) (length m.keep) (history kind book m moves)
      unfolding history
      history_keeps moves g = play_keeps (handed book m) (length m.keep) law (handed_long (opening_enough g)) moves _ (opening_keeps g)
