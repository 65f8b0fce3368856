-- The law of all histories. Assumes nothing.
use Rattle.std.proofs.Common.{◌≡◌, ℕ, zero, suc, ◌+◌, ◌*◌, ◌<◌, ◌≤◌, Bool, true, false, cond, ltb, leb, ◌↔◌, List, [], ◌∷◌, length, take, ℤ, pos, Ok, Err, Result, sym, refl, ap, ◌∙◌, subst, suc-mul, arith, length-take-le, get_or-take, ext_get_or}
use Rattle.std.proofs.lemmas.Bool.{lt-ltb, le-ltb}
use Rattle.spans.specs.Kind.{Kind}
use Rattle.books.specs.Boards.{span_at, number_at, On}
use Rattle.books.specs.Meaning.{Meaning, Lawful}
use Rattle.books.specs.Settled.{Widest, SomeSettled}
use Rattle.engine.specs.declared.refusal.Refusal.{Refusal}
use Rattle.engine.specs.declared.refusal.Refusal.TheVariants.{NoSuchPlace, KeepFull}
use Rattle.engine.specs.Limits.{Limit, cut}
use Rattle.engine.specs.Calls.{Memory, State, Reply, refuse, shown, Verdict, denied, allowed, limit_verdict, replied, open_reply, limit_reply, mark_reply, back_to, back_reply, check_answer, written, finish_list}
use Rattle.engine.specs.Lent.{verdict_answer}
use Rattle.engine.specs.History.{Granted, Refused, Move, Force, Story, history, handed, room_for, top_of, Fair, Told, SameNumbers, Alike, HistoryLaw}
use Rattle.engine.proofs.Boards.{inside_same}
use Rattle.engine.proofs.Cuts.{cut_length, cut_means, on_cut, cut_on, cut_limited}
use Rattle.engine.proofs.Verdicts.{GoodVerdict, limit_good}
use Rattle.engine.proofs.Histories.{at_book, Kept, Inner, Keeps, kept_count, stands_long, holds_true, limit_by, plain_story, opens, opening_enough, handed_long, history_keeps}
use Rattle.engine.proofs.Finishing.{lowest_admitted, written_length, written_at, check_shows, settled_obeys}

replied_answer : {S : Type 0} (st : State S) (v : Verdict S) → (replied st v).answer ≡ verdict_answer v
replied_answer st (denied refusal) = refl
replied_answer st (allowed b strikes) = refl

-- the answer to a limit where the counts are the book's and the memory is enough: it depends on the board alone
limit_told : {S : Type 0} → Kind S → Meaning S → Limit S → List S → Result ℕ Refusal
limit_told kind book l board = cond (ltb l.place book.places) (verdict_answer (limit_verdict kind book l board)) (Err (NoSuchPlace l.place))

module _ {S : Type 0} (kind : Kind S) (book : Meaning S) (law : Lawful kind book) where
  module _ (o : List S) (spans : ℕ) (long : length o ≡ book.places) (marks : ℕ) (m : Memory S) (f : Force S) (h : Inner kind book o spans marks m f) where
    st : State S
    st = at_book book marks m

    board : List S
    board = take book.places m.board

    limit_in : (l : Limit S) → l.place < book.places → limit_reply kind book l st ≡ replied st (limit_verdict kind book l board)
    unfolding st board
    limit_in l here = limit_by kind book o spans l marks m f h ∙ rw (lt-ltb l.place book.places here)

    limit_out : (l : Limit S) → book.places ≤ l.place → (limit_reply kind book l st).answer ≡ Err (NoSuchPlace l.place)
    unfolding st
    limit_out l out = rw (limit_by kind book o spans l marks m f h, le-ltb l.place book.places out)

    next_limit_of : (l : Limit S) → l.place < book.places → Refused (limit_reply kind book l st).answer ↔ (¬ SomeSettled kind book (cut kind o (l ∷ f.roll)))
    unfolding board
    next_limit_of l here = rw (limit_in l here) (go (limit_verdict kind book l board) (limit_good kind book law o long f.roll board h.stands l here))
      where
        go : (v : Verdict S) → GoodVerdict kind book o (l ∷ f.roll) v → Refused (replied st v).answer ↔ (¬ SomeSettled kind book (cut kind o (l ∷ f.roll)))
        go (denied refusal) g = (λ _. g, λ _. tt)
        go (allowed b i) g = (λ u. absurd u, λ z. z (b, g.widest.settled, g.widest.inside))

    next_mark_of : (mark_reply st).answer ≡ room_for book.places (length f.pile) spans
    unfolding st mark_reply
    next_mark_of = rw (holds_true kind book o spans h) (go (leb (marks * book.places + book.places) (length m.keep)) _ ∙ ap granting test)
      where
        granting : Bool → Result (Unit {0}) Refusal
        granting e = cond e (Ok tt) (Err KeepFull)

        reply : Bool → State S → Reply (Unit {0}) S
        reply e x = cond e (record { answer = Ok tt; state = x }) (refuse KeepFull st)

        go : (e : Bool) (x : State S) → (reply e x).answer ≡ granting e
        go true x = refl
        go false x = refl

        test : leb (marks * book.places + book.places) (length m.keep) ≡ leb (suc (length f.pile) * book.places) spans
        test = rw (← (kept_count kind book o m.keep marks f.pile h.kept), suc-mul marks book.places, h.keep_long)

    back_of : (x : State S) (n : ℕ) (pile : List (List (Limit S))) → Kept kind book o m.keep n pile → (back_to x n).answer ≡ top_of pile
    unfolding back_to
    back_of x zero [] h = refl
    back_of x zero (r ∷ rs) h = absurd h
    back_of x (suc n) [] h = absurd h
    back_of x (suc n) (r ∷ rs) h = refl

    next_back_of : (back_reply st).answer ≡ top_of f.pile
    unfolding st back_reply
    next_back_of = rw (holds_true kind book o spans h) (back_of st marks f.pile h.kept)

    finishes_of : (list : List ℤ) → Granted (check_answer kind st list) → Fair kind book o f.roll (take book.places (finish_list kind st list))
    unfolding st board finish_list shown
    finishes_of list g = record {
      on = cut_on kind n x o f.roll long inside;
      obeys = settled_obeys kind book law board x h.stands.widest.settled seen.1 on;
      limited = cut_limited kind n x o f.roll long h.stands.ranged inside;
    }
      where
        n : ℕ
        n = book.places

        seen : (n ≤ length list) × ((p : ℕ) → p < n → kind.size (span_at kind board p) ≡ 1)
        seen = check_shows kind st list (stands_long kind book o h.stands) g

        x : List ℤ
        x = take n (written kind n m.board list)

        on : On kind n x board
        on = record {
          long = length-take-le n (written kind n m.board list) (rw (written_length kind n m.board list) seen.0);
          admitted = λ p t.
              rw (get_or-take n (written kind n m.board list) p (pos 0) t, written_at kind n m.board list p t (omega (arith, seen.0)), ← (get_or-take n m.board p kind.none t))
              (lowest_admitted kind (span_at kind board p) (omega (arith, seen.1 p t)));
        }

        inside : On kind n x (cut kind o f.roll)
        inside = record { long = on.long; admitted = λ p t. h.stands.widest.inside p t (number_at x p) (on.admitted p t) }

    told_inner : Told kind book o spans (record { state = st; force = f })
    unfolding st shown
    told_inner = record {
      shows = h.stands.widest;
      next_limit = next_limit_of;
      no_place = limit_out;
      next_mark = next_mark_of;
      next_back = next_back_of;
      admitted = λ x z. h.stands.holdings x z.obeys (on_cut kind book.places x o f.roll long z.on z.limited);
      finishes = finishes_of;
    }

    limit_answer : (l : Limit S) → (limit_reply kind book l st).answer ≡ limit_told kind book l (shown st)
    unfolding st shown board limit_told
    limit_answer l = rw (limit_by kind book o spans l marks m f h) (go (ltb l.place book.places))
      where
        go : (e : Bool) → (cond e (replied st (limit_verdict kind book l board)) (refuse (NoSuchPlace l.place) st)).answer ≡ cond e (verdict_answer (limit_verdict kind book l board)) (Err (NoSuchPlace l.place))
        go true = replied_answer st (limit_verdict kind book l board)
        go false = refl

  -- only one settled board is the widest
  pub widest_unique : (b v w : List S) → Widest kind book v b → Widest kind book w b → v ≡ w
  widest_unique b v w x y =
      inside_same kind book.places v w x.settled.full.long y.settled.full.long
      (y.others v x.settled x.inside) (x.others w y.settled y.inside)

  told_of : (o : List S) (spans : ℕ) → length o ≡ book.places → (s : Story S) → Keeps kind book o spans s → Told kind book o spans s
  unfolding st
  told_of o spans long s h = subst (Told kind book o spans) (sym (plain_story kind book o spans s h)) (told_inner o spans long h.marks h.memory s.force h.inner)

  answer_of : (o : List S) (spans : ℕ) → length o ≡ book.places → (s : Story S) → Keeps kind book o spans s → (l : Limit S) → (limit_reply kind book l s.state).answer ≡ limit_told kind book l (shown s.state)
  unfolding st
  answer_of o spans long s h l =
      subst (λ (z : State S). (limit_reply kind book l z).answer ≡ limit_told kind book l (shown z)) (sym h.is) (limit_answer o spans long h.marks h.memory s.force h.inner l)

  alike_of : (m m' : Memory S) (moves moves' : List (Move S)) → Granted (open_reply kind book m).answer → Granted (open_reply kind book m').answer → handed book m ≡ handed book m'
      → SameNumbers kind book (cut kind (handed book m) (history kind book m moves).force.roll) (cut kind (handed book m') (history kind book m' moves').force.roll)
      → Alike kind book (history kind book m moves) (history kind book m' moves')
  alike_of m m' moves moves' g g' e f =
      let s = history kind book m moves in
      let s' = history kind book m' moves' in
      let c = cut kind (handed book m) s.force.roll in
      let c' = cut kind (handed book m') s'.force.roll in
      let ol = handed_long kind book m (opening_enough kind book m g) in
      let ol' = handed_long kind book m' (opening_enough kind book m' g') in
      let long : length c ≡ book.places = cut_length kind (handed book m) s.force.roll ∙ ol in
      let long' : length c' ≡ book.places = cut_length kind (handed book m') s'.force.roll ∙ ol' in
      let same : c ≡ c' = ext_get_or kind.none c c' (long ∙ sym long') (λ p h. kind.same (span_at kind c p) (span_at kind c' p) (λ x. f p x (rw long at h))) in
      let h = history_keeps kind book m law moves g in
      let h' = history_keeps kind book m' law moves' g' in
      let t = told_of (handed book m) (length m.keep) ol s h in
      let t' = told_of (handed book m') (length m'.keep) ol' s' h' in
      let boards = widest_unique c' (shown s.state) (shown s'.state) (subst (Widest kind book (shown s.state)) same t.shows) t'.shows in
      record {
        spans = boards;
        answers = λ l. answer_of (handed book m) (length m.keep) ol s h l ∙ ap (limit_told kind book l) boards ∙ sym (answer_of (handed book m') (length m'.keep) ol' s' h' l);
      }

  pub history_law_lem : HistoryLaw kind book
  history_law_lem = record {
    cuts = cut_means kind;
    opens = λ m. opens kind book m law;
    tells = λ m moves g. told_of (handed book m) (length m.keep) (handed_long kind book m (opening_enough kind book m g)) (history kind book m moves) (history_keeps kind book m law moves g);
    alike = alike_of;
  }
