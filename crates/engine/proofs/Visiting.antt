-- What each step of a sweep's code comes to. Assumes nothing.
use Rattle.std.proofs.Common.{◌≡◌, ℕ, suc, ◌+◌, ◌-◌, ◌<◌, ◌≤◌, cond, eqb, ltb, List, ◌∷◌, length, get_or, drop, set, sym, ap, ◌∙◌, subst, add-one, arith, drop-cons}
use lib.Seq.{drop-length}
use Rattle.std.proofs.lemmas.Bool.{cond-true, cond-false, lt-ltb, le-ltb, eq-eqb, ne_eqb}
use Rattle.spans.specs.Kind.{Kind}
use Rattle.books.specs.Boards.{span_at, Full}
use Rattle.books.specs.Meaning.{Meaning, Lawful}
use Rattle.books.specs.Waking.{woken}
use Rattle.books.proofs.Places.{among_at}
use Rattle.engine.specs.Skims.{halted, onward, on_then, tend, tend_rule, skim_from}

module _ {S : Type 0} (kind : Kind S) where
  module _ (book : Meaning S) where
    -- one place more of a rule: its answer empties the span, strikes, or leaves it
    module _ (r : ℕ) (ps : List ℕ) (i : ℕ) (b : List S) (w : List ℕ) (s : ℕ) (h : i < length ps) (a old : S) (p : ℕ) (place : p ≡ get_or ps i 0) (answered : a ≡ (book.rule r).answer p b) (was : old ≡ span_at kind b p) where
      here : tend kind book r (drop i ps) b w s ≡ cond (eqb (kind.size a) 0) (halted p r) (cond (ltb (kind.size a) (kind.size old)) (tend kind book r (drop (i + 1) ps) (set b p a) (woken book p w) (suc s)) (tend kind book r (drop (i + 1) ps) b w s))
      unfolding tend
      here =
          ap (λ (qs : List ℕ). tend kind book r qs b w s) (drop-cons ps i 0 h ∙ ap (λ (j : ℕ). get_or ps i 0 ∷ drop j ps) (sym (add-one i)))
          ∙ ap (λ (q : ℕ). tend kind book r (q ∷ drop (i + 1) ps) b w s) (sym place)
          ∙ ap (λ (x : S). cond (eqb (kind.size x) 0) (halted p r) (cond (ltb (kind.size x) (kind.size (span_at kind b p))) (tend kind book r (drop (i + 1) ps) (set b p x) (woken book p w) (suc s)) (tend kind book r (drop (i + 1) ps) b w s))) (sym answered)
          ∙ ap (λ (x : S). cond (eqb (kind.size a) 0) (halted p r) (cond (ltb (kind.size a) (kind.size x)) (tend kind book r (drop (i + 1) ps) (set b p a) (woken book p w) (suc s)) (tend kind book r (drop (i + 1) ps) b w s))) (sym was)

      pub tend_empties : kind.size a ≡ 0 → tend kind book r (drop i ps) b w s ≡ halted p r
      tend_empties e = here ∙ cond-true _ _ _ (eq-eqb (kind.size a) 0 e)

      pub tend_strikes : (kind.size a ≡ 0 → ⊥) → kind.size a < kind.size old → tend kind book r (drop i ps) b w s ≡ tend kind book r (drop (i + 1) ps) (set b p a) (woken book p w) (s + 1)
      tend_strikes n l = here ∙ cond-false _ _ _ (ne_eqb (kind.size a) 0 n) ∙ cond-true _ _ _ (lt-ltb (kind.size a) (kind.size old) l) ∙ ap (tend kind book r (drop (i + 1) ps) (set b p a) (woken book p w)) (sym (add-one s))

      pub tend_leaves : (kind.size a ≡ 0 → ⊥) → kind.size old ≤ kind.size a → tend kind book r (drop i ps) b w s ≡ tend kind book r (drop (i + 1) ps) b w s
      tend_leaves n l = here ∙ cond-false _ _ _ (ne_eqb (kind.size a) 0 n) ∙ cond-false _ _ _ (le-ltb (kind.size a) (kind.size old) l)

    pub tend_end : (r : ℕ) (ps : List ℕ) (i : ℕ) (b : List S) (w : List ℕ) (s : ℕ) → i ≡ length ps → tend kind book r (drop i ps) b w s ≡ onward b w s
    unfolding tend
    tend_end r ps i b w s e = ap (λ (qs : List ℕ). tend kind book r qs b w s) (ap (λ (j : ℕ). drop j ps) e ∙ drop-length ps)

    -- one rule more
    pub skim_at : (r : ℕ) (b : List S) (w : List ℕ) (s : ℕ) → r < book.rules → skim_from kind book (book.rules - r) r b w s ≡ on_then (tend_rule kind book r b w s) (skim_from kind book (book.rules - (r + 1)) (r + 1))
    unfolding skim_from
    skim_at r b w s h =
        let e : book.rules - r ≡ suc (book.rules - (r + 1)) = omega arith in
        ap (λ (n : ℕ). skim_from kind book n r b w s) e ∙ ap (λ (q : ℕ). on_then (tend_rule kind book r b w s) (skim_from kind book (book.rules - (r + 1)) q)) (sym (add-one r))

    pub skim_end : (r : ℕ) (b : List S) (w : List ℕ) (s : ℕ) → book.rules ≤ r → skim_from kind book (book.rules - r) r b w s ≡ onward b w s
    unfolding skim_from
    skim_end r b w s h = let e : book.rules - r ≡ 0 = omega arith in ap (λ (n : ℕ). skim_from kind book n r b w s) e

    pub rule_passed : (r : ℕ) (b : List S) (w : List ℕ) (s : ℕ) → get_or w r 0 ≡ 0 → tend_rule kind book r b w s ≡ onward b w s
    unfolding tend_rule
    rule_passed r b w s e = cond-true _ _ _ (eq-eqb (get_or w r 0) 0 e)

    pub rule_visited : (r : ℕ) (b : List S) (w : List ℕ) (s : ℕ) → (get_or w r 0 ≡ 0 → ⊥) → tend_rule kind book r b w s ≡ tend kind book r (book.rule r).scope b (set w r 0) s
    unfolding tend_rule
    rule_visited r b w s n = cond-false _ _ _ (ne_eqb (get_or w r 0) 0 n)

    module _ (law : Lawful kind book) where
      -- a place of a rule is a place of the board
      module _ (r i p : ℕ) (b : List S) (counted-rule : r < book.rules) (in_scope : i < length (book.rule r).scope) (place : p ≡ get_or (book.rule r).scope i 0) (full : Full kind book.places b) where
        pub place_counted : p < book.places
        place_counted = subst (λ (q : ℕ). q < book.places) (sym place) ((law.each r counted-rule).counted (get_or (book.rule r).scope i 0) (among_at (book.rule r).scope i in_scope))

        pub place_within : p < length b
        place_within = omega (arith, place_counted, full.long)
