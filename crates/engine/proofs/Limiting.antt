-- The ways out of limit, in what the code holds. Assumes nothing.
use Rattle.std.proofs.Common.{◌≡◌, ℕ, ◌-◌, ◌<◌, ◌≤◌, true, List, ◌++◌, length, get_or, take, drop, set, replicate, Ok, Err, Result, sym, ap, ◌∙◌, subst, arith}
use Rattle.std.proofs.lemmas.List.{length-take-le, get_or_default}
use Rattle.std.proofs.lemmas.Bool.Decides.{nat_tests}
use Rattle.std.proofs.lemmas.Bool.{le-leb, eq-eqb, ne_eqb}
use Rattle.spans.specs.Kind.{Kind}
use Rattle.books.specs.Boards.{Full}
use Rattle.books.specs.Meaning.{Meaning}
use Rattle.books.specs.Sweeps.{settle}
use Rattle.engine.specs.declared.refusal.Refusal.{Refusal}
use Rattle.engine.specs.declared.refusal.Refusal.TheVariants.{NothingShared}
use Rattle.engine.specs.declared.position.Position.{Position}
use Rattle.engine.specs.Limits.{Limit, shared, cut_one}
use Rattle.engine.specs.Calls.{State, Reply, Verdict, denied, judged, shown, limit_verdict, enough, limit_reply}
use Rattle.engine.specs.Lent.{lent, at, empty_told, verdict_answer, verdict_board, limit_checked}
use Rattle.engine.proofs.Calling.{put, none_empty, empty_refuses, tried}
use Rattle.engine.proofs.Boards.{full_set}
use Rattle.engine.proofs.Exits.{limit_at, limit_shares_nothing, limit_settles}

-- what the checks that come first tell of the lengths and the counts
pub checked_lengths : {S : Type 0} (position : Position) (book : Meaning S) (place : ℕ) (B W : List S) (L : List ℕ) → Ok tt ≡ limit_checked position book place B W L
    → (position.counts.places ≤ length B) × (position.counts.places ≤ length W) × (position.counts.rules ≤ length L) × (place < position.counts.places) × (book.places ≡ position.counts.places) × (book.rules ≡ position.counts.rules)
unfolding enough
checked_lengths position book place B W L e = grind (arith, nat_tests)

module _ {S : Type 0} (kind : Kind S) (book : Meaning S) (position : Position) (l : Limit S) (B W keep : List S) (L : List ℕ) where
  abbrev st : State S
  st = at position B W L keep

  -- the board that is tried
  abbrev pub front : List S
  front = take (position.counts.places - 0) B

  module _ (ok : Ok tt ≡ limit_checked position book l.place B W L) where
    lengths : (position.counts.places ≤ length B) × (position.counts.places ≤ length W) × (position.counts.rules ≤ length L) × (l.place < position.counts.places) × (book.places ≡ position.counts.places) × (book.rules ≡ position.counts.rules)
    lengths = checked_lengths position book l.place B W L ok

    fits : enough position.counts.places position.counts.rules (lent B W L keep) ≡ true
    unfolding enough
    fits = rw (le-leb _ _ lengths.0, le-leb _ _ lengths.1, le-leb _ _ lengths.2)

    whole : position.counts.places - 0 ≡ position.counts.places
    whole = omega arith

    long : length front ≡ book.places
    long = ap (λ (n : ℕ). length (take n B)) whole ∙ length-take-le position.counts.places B lengths.0 ∙ sym lengths.4

    counted_place : l.place < book.places
    counted_place = omega (arith, lengths.3, lengths.4)

    -- the memory that is left
    abbrev after : List S → List S → List ℕ → State S
    after b w v = put st (b ++ drop (position.counts.places - 0) B) (w ++ drop (position.counts.places - 0) W) (v ++ drop (position.counts.rules - 0) L)

    -- what is left by a verdict
    leaves : (v : Verdict S) → limit_verdict kind book l front ≡ v → (a : Result ℕ Refusal) (b w : List S) (u : List ℕ) → a ≡ verdict_answer v → b ≡ verdict_board front v → w ≡ b
        → u ≡ replicate (length (take (position.counts.rules - 0) L)) 0 → ◌≡◌ {A = Reply ℕ S} (record { answer = a; state = after b w u }) (limit_reply kind book l st)
    unfolding shown
    leaves v e a b w u ae be we le =
        tried st v a b w u (position.counts.places - 0) (position.counts.rules - 0) whole (omega arith) lengths.2 ae be we le
        ∙ sym (limit_at kind book l st fits lengths.4 lengths.5 lengths.3 v (ap (λ (n : ℕ). limit_verdict kind book l (take n B)) (sym whole) ∙ e))

    pub limiting_hole : (r : Result ℕ Refusal) (e : Refusal) (w : List S) (u : List ℕ) → r ≡ Err e → Err e ≡ empty_told kind front → w ≡ front → u ≡ replicate (length (take (position.counts.rules - 0) L)) 0
        → ◌≡◌ {A = Reply ℕ S} (record { answer = r; state = after front w u }) (limit_reply kind book l st)
    unfolding limit_verdict
    limiting_hole r e w u is-e h we le = leaves (denied e) (empty_refuses kind front e _ (sym h)) r front w u is-e (λ _. front) we le

    module _ (h : Ok tt ≡ empty_told kind front) (a x : S) (cut-is : a ≡ kind.meet x l.span) (read : x ≡ get_or front l.place x) where
      full : Full kind book.places front
      full = none_empty kind front book.places long (sym h)

      -- the span cut is the common part with the limit's
      is_shared : a ≡ shared kind front l
      is_shared = cut-is ∙ ap (λ (s : S). kind.meet s l.span) (read ∙ get_or_default front l.place x kind.none (omega (arith, long, counted_place)))

      pub limiting_nothing : kind.size a ≡ 0 → (w : List S) (u : List ℕ) → w ≡ front → u ≡ replicate (length (take (position.counts.rules - 0) L)) 0
          → ◌≡◌ {A = Reply ℕ S} (record { answer = Err (NothingShared l.place); state = after front w u }) (limit_reply kind book l st)
      limiting_nothing e w u we le =
          let none = eq-eqb (kind.size (shared kind front l)) 0 (ap kind.size (sym is_shared) ∙ e) in
          leaves (denied (NothingShared l.place)) (limit_shares_nothing kind book l front full none) _ front w u (λ _. Err (NothingShared l.place)) (λ _. front) we le

      module _ (some : kind.size a ≡ 0 → ⊥) (w : List S) (we : w ≡ front) where
        -- the working board is the cut board
        is_cut : set w l.place a ≡ cut_one kind front l
        unfolding cut_one
        is_cut = rw (we, is_shared)

        pub limiting_full : Full kind book.places (set w l.place a)
        unfolding cut_one
        limiting_full = subst (Full kind book.places) (sym is_cut) (full_set kind book.places front l.place (shared kind front l) counted_place full (omega (arith, some, ap kind.size is_shared)))

        pub limiting_tried : (r : Result ℕ Refusal) (b w' : List S) (u : List ℕ) → let v = judged (settle kind book (set w l.place a)) in r ≡ verdict_answer v → b ≡ verdict_board front v → w' ≡ b
            → u ≡ replicate (length (take (position.counts.rules - 0) L)) 0 → ◌≡◌ {A = Reply ℕ S} (record { answer = r; state = after b w' u }) (limit_reply kind book l st)
        limiting_tried =
            let some-shared = ne_eqb (kind.size (shared kind front l)) 0 (λ e. some (ap kind.size is_shared ∙ e)) in
            leaves (judged (settle kind book (set w l.place a))) (limit_settles kind book l front (settle kind book (set w l.place a)) full some-shared (ap (settle kind book) (sym is_cut)))
