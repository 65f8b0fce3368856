-- The ways out of opening, in what the code holds. Assumes nothing.
use Rattle.std.proofs.Common.{◌≡◌, ℕ, ◌-◌, ◌≤◌, List, ◌++◌, length, take, drop, replicate, Ok, Err, Result, sym, ap, ◌∙◌, subst, arith, true}
use Rattle.std.proofs.lemmas.List.{length-take-le}
use Rattle.spans.specs.Kind.{Kind}
use Rattle.books.specs.Boards.{Full}
use Rattle.books.specs.Meaning.{Meaning}
use Rattle.books.specs.Sweeps.{settle}
use Rattle.engine.specs.declared.counts.Counts.{Counts}
use Rattle.engine.specs.declared.refusal.Refusal.{Refusal}
use Rattle.engine.specs.declared.position.opening.Opened.{Opened}
use Rattle.engine.specs.Calls.{Memory, State, Reply, Verdict, denied, judged, shown, open_verdict, enough, fresh, open_reply}
use Rattle.engine.specs.Lent.{lent, opened, counted, memory_checked, empty_told, verdict_answer, verdict_board}
use Rattle.engine.proofs.Calling.{put, none_empty, empty_refuses, tried}
use Rattle.engine.proofs.Exits.{checked_enough, checked_long, open_by, open_settles}

module _ {S : Type 0} (kind : Kind S) (book : Meaning S) (B W keep : List S) (L : List ℕ) (counts : Counts) (is : counts ≡ counted book) where
  abbrev st : State S
  st = fresh book (lent B W L keep)

  -- the board that is tried
  abbrev pub front : List S
  front = take (counts.places - 0) B

  module _ (ok : Ok tt ≡ memory_checked counts B W L) where
    fits : enough book.places book.rules (lent B W L keep) ≡ true
    fits = subst (λ (k : Counts). enough k.places k.rules (lent B W L keep) ≡ true) is (checked_enough counts B W L keep ok)

    long : (book.places ≤ length B) × (book.places ≤ length W) × (book.rules ≤ length L)
    long = checked_long (counted book) B W L (subst (λ (k : Counts). Ok tt ≡ memory_checked k B W L) is ok)

    places-are : counts.places - 0 ≡ book.places
    places-are = omega (arith, ap (λ (k : Counts). k.places) is)

    rules-are : counts.rules - 0 ≡ book.rules
    rules-are = omega (arith, ap (λ (k : Counts). k.rules) is)

    opening_full : Ok tt ≡ empty_told kind front → Full kind book.places front
    opening_full h = none_empty kind front book.places (ap (λ (n : ℕ). length (take n B)) places-are ∙ length-take-le book.places B long.0) (sym h)

    -- what is left by a verdict
    leaves : (v : Verdict S) → open_verdict kind book front ≡ v → (a : Result ℕ Refusal) (b w : List S) (l : List ℕ) → a ≡ verdict_answer v → b ≡ verdict_board front v → w ≡ b
        → l ≡ replicate (length (take (counts.rules - 0) L)) 0
        → ◌≡◌ {A = Reply ℕ S} (record { answer = a; state = put st (b ++ drop (counts.places - 0) B) (w ++ drop (counts.places - 0) W) (l ++ drop (counts.rules - 0) L) }) (open_reply kind book (lent B W L keep))
    unfolding shown
    leaves v e a b w l ae be we le =
        tried st v a b w l (counts.places - 0) (counts.rules - 0) places-are rules-are long.2 ae be we le
        ∙ sym (open_by kind book (lent B W L keep) v fits (ap (λ (n : ℕ). open_verdict kind book (take n B)) (sym places-are) ∙ e))

    -- the memory that is left
    abbrev after : List S → List S → List ℕ → Memory S
    after b w l = lent (b ++ drop (counts.places - 0) B) (w ++ drop (counts.places - 0) W) (l ++ drop (counts.rules - 0) L) keep

    pub opening_hole : (r : Result Opened Refusal) (e : Refusal) (w : List S) (l : List ℕ) → r ≡ Err e → Err e ≡ empty_told kind front → w ≡ front → l ≡ replicate (length (take (counts.rules - 0) L)) 0
        → opened book r (after front w l) ≡ open_reply kind book (lent B W L keep)
    unfolding open_verdict
    opening_hole r e w l is-e h we le = rw is-e (leaves (denied e) (empty_refuses kind front e _ (sym h)) (Err e) front w l (λ _. Err e) (λ _. front) we le)

    -- a try on the working board, which is the board
    module _ (h : Ok tt ≡ empty_told kind front) (on : List S) (on-is : on ≡ front) where
      settled : (a : Result ℕ Refusal) (b w : List S) (l : List ℕ) → let v = judged (settle kind book on) in a ≡ verdict_answer v → b ≡ verdict_board front v → w ≡ b
          → l ≡ replicate (length (take (counts.rules - 0) L)) 0
          → ◌≡◌ {A = Reply ℕ S} (record { answer = a; state = put st (b ++ drop (counts.places - 0) B) (w ++ drop (counts.places - 0) W) (l ++ drop (counts.rules - 0) L) }) (open_reply kind book (lent B W L keep))
      settled = leaves (judged (settle kind book on)) (open_settles kind book front (settle kind book on) (opening_full h) (ap (settle kind book) (sym on-is)))

      pub opening_refused : (r : Result Opened Refusal) (e : Refusal) (b w : List S) (l : List ℕ) → r ≡ Err e → let v = judged (settle kind book on) in Err e ≡ verdict_answer v → b ≡ verdict_board front v → w ≡ b
          → l ≡ replicate (length (take (counts.rules - 0) L)) 0 → opened book r (after b w l) ≡ open_reply kind book (lent B W L keep)
      opening_refused r e b w l is-e ae be we le = rw is-e (settled (Err e) b w l ae be we le)

      pub opening_granted : (s : ℕ) (b w : List S) (l : List ℕ) → let v = judged (settle kind book on) in Ok s ≡ verdict_answer v → b ≡ verdict_board front v → w ≡ b → l ≡ replicate (length (take (counts.rules - 0) L)) 0
          → ◌≡◌ {A = Reply ℕ S} (record { answer = Ok s; state = record { places = counts.places; rules = counts.rules; marks = 0; memory = after b w l } }) (open_reply kind book (lent B W L keep))
      opening_granted s b w l ae be we le =
          ap (λ (k : Counts). record { answer = Ok s; state = record { places = k.places; rules = k.rules; marks = 0; memory = after b w l } }) is ∙ settled (Ok s) b w l ae be we le
