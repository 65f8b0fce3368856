-- Boards cut by limits. Assumes nothing.
use Rattle.std.proofs.Common.{◌≡◌, ℕ, ◌<◌, T, ◌⊎◌, ◌↔◌, List, [], ◌∷◌, length, set, ℤ, sym, refl, ap, ◌∙◌, subst, inl, inr, length-set}
use Rattle.std.proofs.lemmas.List.{get_or-set_same, get_or-set_other}
use Rattle.std.proofs.lemmas.Bool.{cases_eq}
use Rattle.spans.specs.Kind.{Kind, Within}
use Rattle.books.specs.Boards.{Among, span_at, number_at, Inside, On}
use Rattle.engine.specs.Limits.{Limit, shared, cut_one, cut, Limited}
use Rattle.engine.proofs.Boards.{meet_left, meet_right, meet_both, into_set, inside_set}

-- every limit of the list is on a place below a number
abbrev pub Ranged : {S : Type 0} → ℕ → List (Limit S) → Type 0
Ranged n ls = (l : Limit _) → Among l ls → l.place < n

module _ {S : Type 0} (kind : Kind S) where
  pub cut_one_length : (b : List S) (l : Limit S) → length (cut_one kind b l) ≡ length b
  unfolding cut_one
  cut_one_length b l = length-set b l.place _

  pub cut_length : (b : List S) (ls : List (Limit S)) → length (cut kind b ls) ≡ length b
  unfolding cut
  cut_length b [] = refl
  cut_length b (l ∷ ls) = cut_one_length (cut kind b ls) l ∙ cut_length b ls

  -- what lies inside a board cut by a limit: it lies inside the board, and within the limit's span at its place
  pub cut_one_left : (n : ℕ) (s b : List S) (l : Limit S) → l.place < length b → Inside kind n s (cut_one kind b l) → Inside kind n s b
  unfolding cut_one
  cut_one_left n s b l h f q t x u = inside_set kind n b l.place _ h (meet_left kind (span_at kind b l.place) l.span) q t x (f q t x u)

  pub cut_one_right : (n : ℕ) (s b : List S) (l : Limit S) → l.place < n → l.place < length b → Inside kind n s (cut_one kind b l) → Within kind (span_at kind s l.place) l.span
  unfolding cut_one
  cut_one_right n s b l t h f x u =
      meet_right kind (span_at kind b l.place) l.span x (rw (get_or-set_same b l.place (shared kind b l) kind.none h) at (f l.place t x u))

  -- and the other way
  pub cut_one_both : (n : ℕ) (s b : List S) (l : Limit S) → l.place < n → l.place < length b → Inside kind n s b → Within kind (span_at kind s l.place) l.span → Inside kind n s (cut_one kind b l)
  unfolding cut_one
  cut_one_both n s b l t h f w = into_set kind n s b l.place _ h f (λ x u. meet_both kind (span_at kind b l.place) l.span x (f l.place t x u) (w x u))

  -- the numbers that stay admitted at a place of a cut board
  abbrev KeptBy : List S → List (Limit S) → ℕ → ℤ → Type 0
  KeptBy b ls p x = T (kind.admits (span_at kind b p) x) × ((l : Limit S) → Among l ls → l.place ≡ p → T (kind.admits l.span x))

  -- what a cut board admits
  pub cut_means : (b : List S) (ls : List (Limit S)) (p : ℕ) (x : ℤ) → p < length b → T (kind.admits (span_at kind (cut kind b ls) p) x) ↔ KeptBy b ls p x
  unfolding cut cut_one
  cut_means b [] p x h = (λ t. (t, λ l m e. absurd m), λ t. t.0)
  cut_means b (l ∷ ls) p x h = go (cases_eq p l.place) (cut_means b ls p x h)
    where
      c : List S
      c = cut kind b ls

      a : S
      a = shared kind c l

      go : (p ≡ l.place) ⊎ (p ≡ l.place → ⊥) → T (kind.admits (span_at kind c p) x) ↔ KeptBy b ls p x → T (kind.admits (span_at kind (set c l.place a) p) x) ↔ KeptBy b (l ∷ ls) p x
      go (inr d) ih = rw (get_or-set_other c l.place p a kind.none d) (
        λ t. let u = ih.0 t in (u.0, λ l' m e. elim m [ inl z ↦ absurd (d (sym e ∙ ap (λ (y : Limit S). y.place) z)) | inr z ↦ u.1 l' z e ]),
        λ u. ih.1 (u.0, λ l' m e. u.1 l' (inr m) e),
      )
      go (inl d) ih =
          let here : p < length c = rw (cut_length b ls) h in
          let same : span_at kind (set c l.place a) p ≡ kind.meet (span_at kind c p) l.span =
          subst (λ (q : ℕ). span_at kind (set c q (kind.meet (span_at kind c q) l.span)) p ≡ kind.meet (span_at kind c p) l.span) d (get_or-set_same c p (kind.meet (span_at kind c p) l.span) kind.none here) in
          rw same (
            λ t. let u = ih.0 (meet_left kind (span_at kind c p) l.span x t) in
                (u.0, λ l' m e. elim m [ inl z ↦ rw z (meet_right kind (span_at kind c p) l.span x t) | inr z ↦ u.1 l' z e ]),
            λ u. meet_both kind (span_at kind c p) l.span x (ih.1 (u.0, λ l' m e. u.1 l' (inr m) e)) (u.1 l (inl refl) (sym d)),
          )

  -- a holding is on a cut board exactly if it is on the board and obeys the limits
  pub on_cut : (n : ℕ) (h : List ℤ) (b : List S) (ls : List (Limit S)) → length b ≡ n → On kind n h b → Limited kind h ls → On kind n h (cut kind b ls)
  on_cut n h b ls e o f = record {
    long = o.long;
    admitted = λ p t. (cut_means b ls p (number_at h p) (rw e t)).1 (o.admitted p t, λ l m q. rw (← q) (f l m));
  }

  pub cut_on : (n : ℕ) (h : List ℤ) (b : List S) (ls : List (Limit S)) → length b ≡ n → On kind n h (cut kind b ls) → On kind n h b
  cut_on n h b ls e o = record { long = o.long; admitted = λ p t. ((cut_means b ls p (number_at h p) (rw e t)).0 (o.admitted p t)).0 }

  pub cut_limited : (n : ℕ) (h : List ℤ) (b : List S) (ls : List (Limit S)) → length b ≡ n → Ranged n ls → On kind n h (cut kind b ls) → Limited kind h ls
  cut_limited n h b ls e f o l m = ((cut_means b ls l.place (number_at h l.place) (rw e (f l m))).0 (o.admitted l.place (f l m))).1 l m refl
