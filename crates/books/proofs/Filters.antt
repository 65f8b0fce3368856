-- A rule that keeps at each of its places the numbers that pass a test keeps the laws of rules. Assumes nothing.
use Rattle.std.proofs.Common.{◌≡◌, ℕ, ◌<◌, ◌≤◌, Bool, true, false, ◌&&◌, T, ◌⊎◌, List, [], ◌∷◌, length, ℤ, sym, refl, ap, ◌∙◌, subst, inl, inr, arith}
use Rattle.std.proofs.lemmas.Bool.{cases_lt}
use Rattle.spans.specs.Kind.{Kind, Within}
use Rattle.spans.specs.Bools.{both, join}
use Rattle.spans.proofs.Sizes.{size_some, some_least, one_single}
use Rattle.books.specs.Boards.{Among, Distinct, has, span_at, number_at, Full, Inside, On}
use Rattle.books.specs.Meaning.{Rule, Sound, idle}
use Rattle.books.proofs.Places.{has_among, among_has}

-- what a test has to fulfil: `may p b x` says that on the board b the number x may stay at the place p
pub record Filter {S : Type 0} (kind : Kind S) (places : ℕ) (rule : Rule S) (may : ℕ → List S → ℤ → Bool) : Type 0 where
  pub some : 1 ≤ length rule.scope
  pub few : length rule.scope ≤ 16
  pub counted : (p : ℕ) → Among p rule.scope → p < places
  pub once : Distinct rule.scope
  -- on a wider board no less may stay
  pub wider : (p : ℕ) (a b : List S) (x : ℤ) → Among p rule.scope → Full kind places a → Full kind places b → Inside kind places a b → T (may p a x) → T (may p b x)
  -- a holding that obeys may stay
  pub fair : (p : ℕ) (b : List S) (h : List ℤ) → Among p rule.scope → Full kind places b → On kind places h b → T (rule.obeys h) → T (may p b (number_at h p))
  -- on spans of one number, a holding that may stay everywhere obeys
  pub tight : (b : List S) (h : List ℤ) → Full kind places b → ((p : ℕ) → p < places → kind.size (span_at kind b p) ≡ 1) → On kind places h b
      → ((p : ℕ) → Among p rule.scope → T (may p b (number_at h p))) → T (rule.obeys h)
  -- only the rule's places tell
  pub own : (p : ℕ) (a b : List S) (x : ℤ) → Among p rule.scope → ((q : ℕ) → Among q rule.scope → span_at kind a q ≡ span_at kind b q) → may p a x ≡ may p b x
  -- the answer keeps exactly what may stay
  pub exact : (p : ℕ) (b : List S) (x : ℤ) → Among p rule.scope → Full kind places b → kind.admits (rule.answer p b) x ≡ (kind.admits (span_at kind b p) x && may p b x)
  pub elsewhere : (p : ℕ) (b : List S) → (Among p rule.scope → ⊥) → rule.answer p b ≡ span_at kind b p
  pub at_empty : (p q : ℕ) (b : List S) → Among q rule.scope → kind.size (span_at kind b q) ≡ 0 → rule.answer p b ≡ span_at kind b p

-- a place is one of a list or not
pub among_or_not : (p : ℕ) (ps : List ℕ) → Among p ps ⊎ (Among p ps → ⊥)
among_or_not p ps = go (has p ps) refl
  where
    go : (t : Bool) → has p ps ≡ t → Among p ps ⊎ (Among p ps → ⊥)
    go true e = inl (has_among p ps (subst T (sym e) tt))
    go false e = inr (λ m. subst T e (among_has p ps m))

-- of the places of a list, one has a fact, or each has the other
find : {P Q : ℕ → Type 0} (ps : List ℕ) → ((p : ℕ) → Among p ps → P p ⊎ Q p) → ((p : ℕ) × Among p ps × P p) ⊎ ((p : ℕ) → Among p ps → Q p)
find [] f = inr (λ p m. absurd m)
find {P} {Q} (q ∷ qs) f = go (f q (inl refl)) (find qs (λ p m. f p (inr m)))
  where
    go : P q ⊎ Q q → ((p : ℕ) × Among p qs × P p) ⊎ ((p : ℕ) → Among p qs → Q p) → ((p : ℕ) × Among p (q ∷ qs) × P p) ⊎ ((p : ℕ) → Among p (q ∷ qs) → Q p)
    go (inl u) r = inl (q, inl refl, u)
    go (inr u) (inl r) = inl (r.0, inr r.1, r.2)
    go (inr u) (inr r) = inr (λ p m. elim m [ inl e ↦ subst Q (sym e) u | inr z ↦ r p z ])

module _ {S : Type 0} (kind : Kind S) where
  -- a span of one number admits no other
  pub one_number : (a : S) (x y : ℤ) → kind.size a ≡ 1 → T (kind.admits a x) → T (kind.admits a y) → x ≡ y
  one_number a x y e s t = let o = one_single kind a e in o.alone x s ∙ sym (o.alone y t)

  module _ (places : ℕ) (rule : Rule S) (may : ℕ → List S → ℤ → Bool) (F : Filter kind places rule may) where
    stays : (p : ℕ) (b : List S) (x : ℤ) → Among p rule.scope → Full kind places b → T (kind.admits (rule.answer p b) x) → T (kind.admits (span_at kind b p) x) × T (may p b x)
    stays p b x m f t = both (kind.admits (span_at kind b p) x) (may p b x) (subst T (F.exact p b x m f) t)

    kept : (p : ℕ) (b : List S) (x : ℤ) → Among p rule.scope → Full kind places b → T (kind.admits (span_at kind b p) x) → T (may p b x) → T (kind.admits (rule.answer p b) x)
    kept p b x m f s t = subst T (sym (F.exact p b x m f)) (join (kind.admits (span_at kind b p) x) (may p b x) s t)

    -- on spans of one number, either the answer is empty or the number may stay
    either : (b : List S) (h : List ℤ) → Full kind places b → ((p : ℕ) → p < places → kind.size (span_at kind b p) ≡ 1) → On kind places h b → (p : ℕ) → Among p rule.scope
        → (kind.size (rule.answer p b) ≡ 0) ⊎ T (may p b (number_at h p))
    either b h f one o p m = go (cases_lt 0 (kind.size (rule.answer p b)))
      where
        go : (0 < kind.size (rule.answer p b)) ⊎ (kind.size (rule.answer p b) ≤ 0) → (kind.size (rule.answer p b) ≡ 0) ⊎ T (may p b (number_at h p))
        go (inr e) = inl (omega arith)
        go (inl e) =
            let a = rule.answer p b in
            let u = stays p b (kind.least a) m f (some_least kind a e) in
            let v = one_number (span_at kind b p) (kind.least a) (number_at h p) (one p (F.counted p m)) u.0 (o.admitted p (F.counted p m)) in
            inr (subst (λ (z : ℤ). T (may p b z)) v u.1)

    -- at a place that is not the rule's the board's span stays, so each law is clear there
    here : (P : S → Type 0) (p : ℕ) (b : List S) → (Among p rule.scope → P (rule.answer p b)) → P (span_at kind b p) → P (rule.answer p b)
    here P p b f g = go (among_or_not p rule.scope)
      where
        go : Among p rule.scope ⊎ (Among p rule.scope → ⊥) → P (rule.answer p b)
        go (inl m) = f m
        go (inr n) = subst P (sym (F.elsewhere p b n)) g

    pub filter_sound : Sound kind places rule
    filter_sound = record {
      some = F.some;
      few = F.few;
      counted = F.counted;
      once = F.once;
      narrows = λ p b l f. here (λ a. Within kind a (span_at kind b p)) p b (λ m x t. (stays p b x m f t).0) (λ x t. t);
      monotone = λ p a b l f g w. mono p a b l f g w (among_or_not p rule.scope);
      keeps = λ p b h l f o t. here (λ a. T (kind.admits a (number_at h p))) p b (λ m. kept p b (number_at h p) m f (o.admitted p l) (F.fair p b h m f o t)) (o.admitted p l);
      decides = λ b h f one o. (broken b h f o, breaks b h f one o);
      own = λ p a b m f g e. kind.same (rule.answer p a) (rule.answer p b) (λ x.
          F.exact p a x m f ∙ ap (λ (s : S). kind.admits s x && may p a x) (e p m) ∙ ap (λ (z : Bool). kind.admits (span_at kind b p) x && z) (F.own p a b x m e) ∙ sym (F.exact p b x m g));
      elsewhere = λ p b l d f. F.elsewhere p b d;
      at_empty = λ p q b l z k e. F.at_empty p q b z e;
    }
      where
        mono : (p : ℕ) (a b : List S) → p < places → Full kind places a → Full kind places b → Inside kind places a b → Among p rule.scope ⊎ (Among p rule.scope → ⊥) → Within kind (rule.answer p a) (rule.answer p b)
        mono p a b l f g w (inl m) x t = let u = stays p a x m f t in kept p b x m g (w p l x u.0) (F.wider p a b x m f g w u.1)
        mono p a b l f g w (inr n) x t = subst (λ (s : S). T (kind.admits s x)) (sym (F.elsewhere p b n)) (w p l x (subst (λ (s : S). T (kind.admits s x)) (F.elsewhere p a n) t))

        broken : (b : List S) (h : List ℤ) → Full kind places b → On kind places h b → (p : ℕ) × (p < places) × (kind.size (rule.answer p b) ≡ 0) → T (rule.obeys h) → ⊥
        broken b h f o z t =
            let p = z.0 in
            let n = here (λ a. T (kind.admits a (number_at h p))) p b (λ m. kept p b (number_at h p) m f (o.admitted p z.1) (F.fair p b h m f o t)) (o.admitted p z.1) in
            let s = size_some kind (rule.answer p b) (number_at h p) n in
            omega (arith, s, z.2)

        breaks : (b : List S) (h : List ℤ) → Full kind places b → ((p : ℕ) → p < places → kind.size (span_at kind b p) ≡ 1) → On kind places h b → (T (rule.obeys h) → ⊥) → (p : ℕ) × (p < places) × (kind.size (rule.answer p b) ≡ 0)
        breaks b h f one o z = elim (find {P = λ p. kind.size (rule.answer p b) ≡ 0} {Q = λ p. T (may p b (number_at h p))} rule.scope (either b h f one o)) [
          | inl r ↦ (r.0, F.counted r.0 r.1, r.2)
          | inr r ↦ absurd (z (F.tight b h f one o r))
        ]

  -- an idle rule keeps the laws
  pub idle_sound : (places : ℕ) (scope : List ℕ) → 1 ≤ length scope → length scope ≤ 16 → ((p : ℕ) → Among p scope → p < places) → Distinct scope → Sound kind places (idle kind scope)
  idle_sound places scope some few counted once = record {
    some = some;
    few = few;
    counted = counted;
    once = once;
    narrows = λ p b l f x t. t;
    monotone = λ p a b l f g w. w p l;
    keeps = λ p b h l f o t. o.admitted p l;
    decides = λ b h f one o. (λ z t. omega (arith, one z.0 z.1, z.2), λ z. absurd (z tt));
    own = λ p a b m f g e. e p m;
    elsewhere = λ p b l d f. refl;
    at_empty = λ p q b l z k e. refl;
  }
