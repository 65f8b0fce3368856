-- The verdicts of opening and limit: the board allowed is the widest settled one, and where they deny there is none. Assumes nothing.
use Rattle.std.proofs.Common.{◌≡◌, ℕ, ◌<◌, Bool, true, false, cond, eqb, ltb, List, [], ◌∷◌, length, get_or, ℤ, Some, None, Option, sym, refl, ap, inl, inr, arith}
use Rattle.std.proofs.lemmas.List.{get_or-set_same}
use Rattle.std.proofs.lemmas.List.Quantifiers.{position-Some}
use Rattle.std.proofs.lemmas.List.Sums.{fails_before_first}
use Rattle.std.proofs.lemmas.Option.{none-some}
use Rattle.std.proofs.lemmas.Bool.{ltb-false}
use Rattle.std.specs.List.{position, position_or_len}
use Rattle.std.specs.Option.{option_map_or}
use Rattle.spans.specs.Kind.{Kind}
use Rattle.books.specs.Boards.{span_at, number_at, Full, Inside, On}
use Rattle.books.specs.Meaning.{Meaning, Lawful}
use Rattle.books.specs.Settled.{Settled, Widest, SomeSettled}
use Rattle.books.specs.Sweeps.{Outcome, emptied, left, settle}
use Rattle.engine.specs.declared.refusal.Refusal.TheVariants.{EmptySpan, NothingShared}
use Rattle.engine.specs.Limits.{Limit, shared, cut_one, cut}
use Rattle.engine.specs.Settling.{Obeys}
use Rattle.engine.specs.Calls.{Verdict, denied, allowed, judged, whole, open_verdict, limit_verdict}
use Rattle.engine.proofs.Boards.{empty_size, some_size, within_some, meet_both, full_set, on_set}
use Rattle.engine.proofs.Cuts.{Ranged, cut_length, cut_one_left, cut_one_right, cut_one_both}
use Rattle.engine.proofs.Sweeping.{GoodEnd, settle_good}

-- where no span of a board passes a test
pub none_passes : {S : Type 0} (test : S → Bool) (d : S) (b : List S) → position test b ≡ None → (p : ℕ) → p < length b → test (get_or b p d) ≡ false
none_passes test d b e p l = go (ltb (position_or_len test b) (length b)) refl e
  where
    go : (x : Bool) → ltb (position_or_len test b) (length b) ≡ x → cond x (Some (position_or_len test b)) None ≡ None → test (get_or b p d) ≡ false
    go true h e = absurd (none-some _ (sym e))
    go false h e = fails_before_first test b p d (omega (arith, ltb-false _ _ h))

module _ {S : Type 0} (kind : Kind S) (book : Meaning S) where
  -- a board is what an opening board and the limits of a roll come to
  pub record Stands (opening : List S) (roll : List (Limit S)) (b : List S) : Type 0 where
    pub widest : Widest kind book b (cut kind opening roll)
    pub ranged : Ranged book.places roll
    pub holdings : (h : List ℤ) → Obeys book h → On kind book.places h (cut kind opening roll) → On kind book.places h b

  abbrev pub GoodVerdict : List S → List (Limit S) → Verdict S → Type 0
  GoodVerdict opening roll (denied refusal) = ¬ SomeSettled kind book (cut kind opening roll)
  GoodVerdict opening roll (allowed b strikes) = Stands opening roll b

  -- an empty span
  abbrev pub hollow : S → Bool
  hollow span = eqb (kind.size span) 0

  -- a board with no empty span is not refused for one
  pub whole_full : (b : List S) (v : Verdict S) → Full kind book.places b → whole kind b v ≡ v
  unfolding whole
  whole_full b v f = go (position hollow b) refl
    where
      go : (o : Option ℕ) → position hollow b ≡ o → option_map_or (λ place. denied (EmptySpan place)) o v ≡ v
      go (Some p) e =
          let q = position-Some hollow b p kind.none e in
          absurd (omega (arith, empty_size kind _ q.1, f.some p (rw f.long at q.0)))
      go None e = refl

  module _ (law : Lawful kind book) where
    pub open_good : (o : List S) → length o ≡ book.places → GoodVerdict o [] (open_verdict kind book o)
    unfolding open_verdict whole cut
    open_good o long = go (position hollow o) refl
      where
        end : (u : Outcome S) → GoodEnd kind book o 0 u → GoodVerdict o [] (judged u)
        end (emptied p r) g = g.no_settled
        end (left c i) g = record {
          widest = record { settled = g.is_settled; inside = g.narrowed.inside; others = g.narrowed.settled };
          ranged = λ l m. absurd m;
          holdings = g.narrowed.holdings;
        }

        go : (place : Option ℕ) → position hollow o ≡ place → GoodVerdict o [] (option_map_or (λ p. denied (EmptySpan p)) place (judged (settle kind book o)))
        go (Some p) e = λ s.
            let q = position-Some hollow o p kind.none e in
            let w = within_some kind (span_at kind s.0 p) (span_at kind o p) (s.2 p (rw long at q.0)) (s.1.full.some p (rw long at q.0)) in
            omega (arith, empty_size kind _ q.1, w)
        go None e = end (settle kind book o) (settle_good kind book law o (record { long = long; some = λ p l. some_size kind _ (none_passes hollow kind.none o e p (rw long l)) }))

    module _ (o : List S) (long : length o ≡ book.places) (roll : List (Limit S)) (b : List S) (st : Stands o roll b) (l : Limit S) (here : l.place < book.places) where
      board_here : l.place < length b
      board_here = rw st.widest.settled.full.long here

      cut_here : l.place < length (cut kind o roll)
      cut_here = rw (cut_length kind o roll, long) here

      -- a settled board inside the opening board cut by the roll and the limit lies inside the board cut by the limit
      down : (s : List S) → Settled kind book s → Inside kind book.places s (cut kind o (l ∷ roll)) → Inside kind book.places s (cut_one kind b l)
      unfolding cut
      down s z f = cut_one_both kind book.places s b l here board_here
          (st.widest.others s z (cut_one_left kind book.places s (cut kind o roll) l cut_here f))
          (cut_one_right kind book.places s (cut kind o roll) l here cut_here f)

      -- and the other way
      up : (s : List S) → Inside kind book.places s (cut_one kind b l) → Inside kind book.places s (cut kind o (l ∷ roll))
      unfolding cut
      up s f = cut_one_both kind book.places s (cut kind o roll) l here cut_here
          (λ p h x t. st.widest.inside p h x (cut_one_left kind book.places s b l board_here f p h x t))
          (cut_one_right kind book.places s b l here board_here f)

      -- a holding that obeys the rules, on the opening board cut by the roll and the limit, is on the board cut by the limit
      fair : (h : List ℤ) → Obeys book h → On kind book.places h (cut kind o (l ∷ roll)) → On kind book.places h (cut_one kind b l)
      unfolding cut cut_one
      fair h z on =
          let c = cut kind o (l ∷ roll) in
          let wide : On kind book.places h (cut kind o roll) = record {
            long = on.long;
            admitted = λ p t. cut_one_left kind book.places c (cut kind o roll) l cut_here (λ _ _ _ u. u) p t (number_at h p) (on.admitted p t);
          } in
          let old = st.holdings h z wide in
          on_set kind book.places h b l.place _ board_here old
          (meet_both kind (span_at kind b l.place) l.span (number_at h l.place) (old.admitted l.place here)
          (cut_one_right kind book.places c (cut kind o roll) l here cut_here (λ _ _ _ u. u) (number_at h l.place) (on.admitted l.place here)))

      limit_end : (u : Outcome S) → GoodEnd kind book (cut_one kind b l) 0 u → GoodVerdict o (l ∷ roll) (judged u)
      limit_end (emptied p r) g = λ s. g.no_settled (s.0, s.1, down s.0 s.1 s.2)
      limit_end (left c i) g = record {
        widest = record { settled = g.is_settled; inside = up c g.narrowed.inside; others = λ s z f. g.narrowed.settled s z (down s z f) };
        ranged = λ m a. elim a [ inl e ↦ rw e here | inr e ↦ st.ranged m e ];
        holdings = λ h z on. g.narrowed.holdings h z (fair h z on);
      }

      limit_is : limit_verdict kind book l b ≡ cond (eqb (kind.size (shared kind b l)) 0) (denied (NothingShared l.place)) (judged (settle kind book (cut_one kind b l)))
      unfolding limit_verdict
      limit_is = whole_full b _ st.widest.settled.full

      pub limit_good : GoodVerdict o (l ∷ roll) (limit_verdict kind book l b)
      unfolding cut_one
      limit_good = rw limit_is (go (eqb (kind.size (shared kind b l)) 0) refl)
        where
          m : S
          m = shared kind b l

          go : (e : Bool) → eqb (kind.size m) 0 ≡ e → GoodVerdict o (l ∷ roll) (cond e (denied (NothingShared l.place)) (judged (settle kind book (cut_one kind b l))))
          go true e = λ s.
              let w = within_some kind (span_at kind s.0 l.place) (span_at kind (cut_one kind b l) l.place) (down s.0 s.1 s.2 l.place here) (s.1.full.some l.place here) in
              let z = empty_size kind m e in
              let q = ap kind.size (get_or-set_same b l.place m kind.none board_here) in
              omega (arith, w, z, q)
          go false e = limit_end (settle kind book (cut_one kind b l)) (settle_good kind book law (cut_one kind b l) (full_set kind book.places b l.place m here st.widest.settled.full (some_size kind m e)))
