-- What the check of finish shows, and what finish writes. Assumes nothing.
use Rattle.std.proofs.Common.{◌≡◌, ℕ, zero, suc, ◌<◌, ◌≤◌, Bool, true, false, cond, not, ◌&&◌, T, eqb, leb, List, [], ◌∷◌, length, drop, ℤ, pos, Some, None, Option, Ok, Err, refl, ap, ◌∙◌, le_of_suc-le-suc, not-suc-le-zero, arith}
use Rattle.std.proofs.lemmas.Bool.{leb-true, eqb-true, and_parts, not-false}
use Rattle.std.specs.List.{position}
use Rattle.std.specs.Option.{option_map_or}
use Rattle.spans.specs.Kind.{Kind}
use Rattle.spans.proofs.Sizes.{some_least}
use Rattle.books.specs.Boards.{span_at, number_at, On}
use Rattle.books.specs.Meaning.{Meaning, Lawful}
use Rattle.books.specs.Settled.{Settled}
use Rattle.engine.specs.declared.refusal.Refusal.TheVariants.{TooShort, NotOneNumber}
use Rattle.engine.specs.Settling.{Obeys}
use Rattle.engine.specs.Calls.{State, shown, check_answer, lowest, written}
use Rattle.engine.specs.History.{Granted}
use Rattle.engine.proofs.Boards.{not_T_of, empty_size}
use Rattle.engine.proofs.Verdicts.{none_passes}

module _ {S : Type 0} (kind : Kind S) where
  pub lowest_admitted : (a : S) → 0 < kind.size a → T (kind.admits a (lowest kind a))
  unfolding lowest
  lowest_admitted a h = go (eqb (kind.size a) 0) refl
    where
      go : (e : Bool) → eqb (kind.size a) 0 ≡ e → T (kind.admits a (cond e (pos 0) (kind.least a)))
      go true e = absurd (omega (arith, empty_size kind a e))
      go false e = some_least kind a h

  pub written_length : (n : ℕ) (b : List S) (list : List ℤ) → length (written kind n b list) ≡ length list
  unfolding written
  written_length zero b list = refl
  written_length (suc n) b [] = refl
  written_length (suc n) b (x ∷ list) = ap suc (written_length n (drop 1 b) list)

  next_span : (b : List S) (p : ℕ) → span_at kind (drop 1 b) p ≡ span_at kind b (suc p)
  next_span [] p = refl
  next_span (a ∷ b) p = refl

  -- the entry of a place is its lowest number
  pub written_at : (n : ℕ) (b : List S) (list : List ℤ) (p : ℕ) → p < n → p < length list → number_at (written kind n b list) p ≡ lowest kind (span_at kind b p)
  unfolding written
  written_at zero b list p h l = absurd (not-suc-le-zero h)
  written_at (suc n) b [] p h l = absurd (not-suc-le-zero l)
  written_at (suc n) b (x ∷ list) zero h l = refl
  written_at (suc n) b (x ∷ list) (suc p) h l = written_at n (drop 1 b) list p (le_of_suc-le-suc h) (le_of_suc-le-suc l) ∙ ap (lowest kind) (next_span b p)

  -- the other entries stay
  pub written_rest : (n : ℕ) (b : List S) (list : List ℤ) (p : ℕ) → n ≤ p → number_at (written kind n b list) p ≡ number_at list p
  unfolding written
  written_rest zero b list p h = refl
  written_rest (suc n) b [] p h = refl
  written_rest (suc n) b (x ∷ list) zero h = absurd (not-suc-le-zero h)
  written_rest (suc n) b (x ∷ list) (suc p) h = written_rest n (drop 1 b) list p (le_of_suc-le-suc h)

  -- what a granted check shows: the list is long enough, and each place admits exactly one number
  pub check_shows : (st : State S) (list : List ℤ) → length (shown st) ≡ st.places → Granted (check_answer kind st list)
      → (st.places ≤ length list) × ((p : ℕ) → p < st.places → kind.size (span_at kind (shown st) p) ≡ 1)
  unfolding check_answer
  check_shows st list long g = go (leb st.places (length st.memory.board) && leb st.places (length list)) refl (position several (shown st)) refl g
    where
      several : S → Bool
      several = λ a. not (eqb (kind.size a) 1)

      go : (c : Bool) → leb st.places (length st.memory.board) && leb st.places (length list) ≡ c → (o : Option ℕ) → position several (shown st) ≡ o
          → Granted {A = Unit {0}} (cond c (option_map_or (λ place. Err (NotOneNumber place)) o (Ok tt)) (Err TooShort))
          → (st.places ≤ length list) × ((p : ℕ) → p < st.places → kind.size (span_at kind (shown st) p) ≡ 1)
      go true u (Some place) v g = absurd g
      go true u None v g = (
        leb-true st.places (length list) (and_parts (leb st.places (length st.memory.board)) (leb st.places (length list)) u).1,
        λ p h. eqb-true (kind.size (span_at kind (shown st) p)) 1 (not-false _ (none_passes several kind.none (shown st) v p (rw long h))),
      )
      go false u o v g = absurd g

-- a holding on a settled board with one number everywhere obeys the rules
pub settled_obeys : {S : Type 0} (kind : Kind S) (book : Meaning S) → Lawful kind book → (b : List S) (h : List ℤ) → Settled kind book b
    → ((p : ℕ) → p < book.places → kind.size (span_at kind b p) ≡ 1) → On kind book.places h b → Obeys book h
settled_obeys kind book law b h z one on r l = go ((book.rule r).obeys h) refl
  where
    go : (e : Bool) → (book.rule r).obeys h ≡ e → T e
    go true e = tt
    go false e =
        let w = ((law.each r l).decides b h z.full one on).1 (not_T_of e) in
        let s = z.full.some w.0 w.1 in
        let q = ap kind.size (z.calm r w.0 l w.1) in
        absurd (omega (arith, s, q, w.2))
