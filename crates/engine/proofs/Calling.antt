-- What opening and limit leave in the lent memory. Assumes nothing.
use Rattle.std.proofs.Common.{◌≡◌, ℕ, eqb, List, ◌++◌, length, take, drop, replicate, Some, None, Option, Ok, Err, Result, sym, refl, ap, ◌∙◌, ◌≤◌}
use Rattle.std.specs.List.{position}
use Rattle.std.specs.Option.{option_map_or}
use Rattle.spans.specs.Kind.{Kind}
use Rattle.books.specs.Boards.{Full}
use Rattle.engine.specs.declared.refusal.Refusal.{Refusal}
use Rattle.engine.specs.declared.refusal.Refusal.TheVariants.{EmptySpan}
use Rattle.engine.specs.Calls.{State, Reply, Verdict, denied, allowed, whole, laid, settled_on, shown, replied}
use Rattle.engine.specs.Waiting.{none_wait}
use Rattle.engine.specs.Lent.{lent, empty_told, verdict_answer, verdict_board}
use Rattle.engine.proofs.Boards.{some_size}
use Rattle.engine.proofs.Verdicts.{none_passes}
use Rattle.engine.proofs.Waits.{filled_front}

-- ---- an empty span

module _ {S : Type 0} (kind : Kind S) (b : List S) where
  pub empty_refuses : (e : Refusal) (v : Verdict S) → empty_told kind b ≡ Err e → whole kind b v ≡ denied e
  unfolding whole
  empty_refuses e v t = go (position (λ span. eqb (kind.size span) 0) b) t
    where
      go : (o : Option ℕ) → ◌≡◌ {A = Result (Unit {0}) Refusal} (option_map_or (λ place. Err (EmptySpan place)) o (Ok tt)) (Err e) → option_map_or (λ place. denied (EmptySpan place)) o v ≡ denied e
      go (Some p) t = let same : EmptySpan p ≡ e = cc in ap denied same
      go None t = cc

  pub none_empty : (n : ℕ) → length b ≡ n → empty_told kind b ≡ Ok tt → Full kind n b
  none_empty n long t = go (position (λ span. eqb (kind.size span) 0) b) refl t
    where
      go : (o : Option ℕ) → position (λ span. eqb (kind.size span) 0) b ≡ o → ◌≡◌ {A = Result (Unit {0}) Refusal} (option_map_or (λ place. Err (EmptySpan place)) o (Ok tt)) (Ok tt) → Full kind n b
      go (Some p) e t = cc
      go None e t = record { long = long; some = λ p h. some_size kind _ (none_passes (λ span. eqb (kind.size span) 0) kind.none b e p (rw long h)) }

-- ---- replies

module _ {S : Type 0} (st : State S) where
  -- the state with other board, working board and waiting list
  abbrev pub put : List S → List S → List ℕ → State S
  put board working waiting = record { places = st.places; rules = st.rules; marks = st.marks; memory = lent board working waiting st.memory.keep }

  pub by_verdict : (v : Verdict S) → let was = take st.places st.memory.board in replied st v ≡ record {
    answer = verdict_answer v;
    state = put (verdict_board was v ++ drop st.places st.memory.board) (verdict_board was v ++ drop st.places st.memory.working) (none_wait st.rules st.memory.waiting);
  }
  unfolding settled_on laid shown
  by_verdict (denied e) = refl
  by_verdict (allowed b s) = refl

  -- what a call leaves that tried on the counted parts of the memory: the board by the verdict, the working board the same, and no rule waiting
  pub tried : (v : Verdict S) (a : Result ℕ Refusal) (b w : List S) (l : List ℕ) (n r : ℕ) → n ≡ st.places → r ≡ st.rules → st.rules ≤ length st.memory.waiting
      → a ≡ verdict_answer v → b ≡ verdict_board (take n st.memory.board) v → w ≡ b → l ≡ replicate (length (take r st.memory.waiting)) 0
      → ◌≡◌ {A = Reply ℕ S} (record { answer = a; state = put (b ++ drop n st.memory.board) (w ++ drop n st.memory.working) (l ++ drop r st.memory.waiting) }) (replied st v)
  tried v a b w l n r ne re long ae be we le =
      let bs : b ≡ verdict_board (take st.places st.memory.board) v = be ∙ ap (λ (k : ℕ). verdict_board (take k st.memory.board) v) ne in
      let ls : l ++ drop r st.memory.waiting ≡ none_wait st.rules st.memory.waiting = filled_front st.rules r 0 st.memory.waiting l re long le in
      let rest : (x : List S) → drop n x ≡ drop st.places x = λ x. ap (λ (k : ℕ). drop k x) ne in
      rw (ae, we, ls, rest st.memory.board, rest st.memory.working, bs) (sym (by_verdict v))
