-- The ways out of each call: by its tests, what it comes to. Assumes nothing.
use Rattle.std.proofs.Common.{◌≡◌, ℕ, ◌<◌, ◌≤◌, true, false, ◌&&◌, eqb, List, length, Ok, ap, ◌∙◌, Err, Bool, cond, leb, Result, refl, arith}
use Rattle.std.proofs.lemmas.Bool.Decides.{nat_tests}
use Rattle.std.proofs.lemmas.Bool.{lt-ltb, eq-eqb}
use Rattle.spans.specs.Kind.{Kind}
use Rattle.books.specs.Boards.{Full}
use Rattle.books.specs.Meaning.{Meaning}
use Rattle.books.specs.Sweeps.{Outcome, settle}
use Rattle.engine.specs.declared.refusal.Refusal.{Refusal}
use Rattle.engine.specs.declared.refusal.Refusal.TheVariants.{TooShort, NothingShared}
use Rattle.engine.specs.Limits.{Limit, shared, cut_one}
use Rattle.engine.specs.Calls.{Memory, State, shown, Verdict, denied, judged, open_verdict, limit_verdict, enough, replied, fresh, open_reply, limit_reply}
use Rattle.engine.specs.declared.counts.Counts.{Counts}
use Rattle.engine.specs.Lent.{lent, memory_checked}
use Rattle.engine.specs.History.{handed}
use Rattle.engine.proofs.Verdicts.{whole_full}

-- ---- verdicts

module _ {S : Type 0} (kind : Kind S) (book : Meaning S) where
  pub open_settles : (b : List S) (o : Outcome S) → Full kind book.places b → settle kind book b ≡ o → open_verdict kind book b ≡ judged o
  unfolding open_verdict
  open_settles b o f e = whole_full kind book b (judged (settle kind book b)) f ∙ ap judged e

  pub limit_shares_nothing : (l : Limit S) (b : List S) → Full kind book.places b → eqb (kind.size (shared kind b l)) 0 ≡ true → limit_verdict kind book l b ≡ denied (NothingShared l.place)
  unfolding limit_verdict
  limit_shares_nothing l b f e = whole_full kind book b _ f ∙ rw e

  pub limit_settles : (l : Limit S) (b : List S) (o : Outcome S) → Full kind book.places b → eqb (kind.size (shared kind b l)) 0 ≡ false → settle kind book (cut_one kind b l) ≡ o
      → limit_verdict kind book l b ≡ judged o
  unfolding limit_verdict
  limit_settles l b o f e z = whole_full kind book b _ f ∙ rw e (ap judged z)

-- ---- memory that is enough, or too short

-- what the check of the memory tells
module _ {S : Type 0} (counts : Counts) (B W : List S) (L : List ℕ) where
  pub checked_enough : (keep : List S) → Ok tt ≡ memory_checked counts B W L → enough counts.places counts.rules (lent B W L keep) ≡ true
  unfolding enough
  checked_enough keep h = go (leb counts.places (length B) && leb counts.places (length W) && leb counts.rules (length L)) h
    where
      go : (x : Bool) → ◌≡◌ {A = Result (Unit {0}) Refusal} (Ok tt) (cond x (Ok tt) (Err TooShort)) → x ≡ true
      go true h = refl
      go false h = cc

  pub checked_long : Ok tt ≡ memory_checked counts B W L → (counts.places ≤ length B) × (counts.places ≤ length W) × (counts.rules ≤ length L)
  unfolding enough
  checked_long e = grind (arith, nat_tests)

-- ---- opening and limit

module _ {S : Type 0} (kind : Kind S) (book : Meaning S) where
  pub open_by : (m : Memory S) (v : Verdict S) → enough book.places book.rules m ≡ true → open_verdict kind book (handed book m) ≡ v → open_reply kind book m ≡ replied (fresh book m) v
  unfolding open_reply shown
  open_by m v e z = rw e (ap (replied (fresh book m)) z)

  pub limit_at : (l : Limit S) (st : State S) → enough st.places st.rules st.memory ≡ true → book.places ≡ st.places → book.rules ≡ st.rules → l.place < st.places → (v : Verdict S) → limit_verdict kind book l (shown st) ≡ v
      → limit_reply kind book l st ≡ replied st v
  unfolding limit_reply
  limit_at l st e p r h v z = rw (e, eq-eqb book.places st.places p, eq-eqb book.rules st.rules r, lt-ltb l.place st.places h) (ap (replied st) z)
