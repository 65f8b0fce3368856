-- Rules between two places keep the laws, where a token may stay exactly if it has a partner. Assumes nothing.
use Rattle.std.proofs.Common.{◌≡◌, ℕ, ◌<◌, Bool, true, false, cond, ◌&&◌, T, eqb, ◌⊎◌, ◌↔◌, List, ℤ, pos, negsuc, sym, refl, ap, ◌∙◌, subst, inl, inr, arith, lit≤}
use Rattle.std.proofs.lemmas.Bool.{eq-eqb, ne_eqb, or_from, or_left, or_right, cond-true, cond-false}
use Rattle.spans.specs.Bools.{both, join, alike}
use Rattle.spans.specs.Choices.{choice_admits, choice_size}
use Rattle.spans.specs.ChoiceKind.{choices}
use Rattle.spans.specs.declared.choice.Choice.{Choice}
use Rattle.books.specs.Boards.{Among, span_at, number_at, Full, Inside, On}
use Rattle.books.specs.Meaning.{Sound}
use Rattle.books.proofs.Filters.{Filter, filter_sound, among_or_not, one_number}
use Rattle.rules.specs.declared.choices.side.Side.{Side}
use Rattle.rules.specs.declared.choices.side.Side.TheVariants.{First, Second}
use Rattle.rules.specs.Sides.{across}
use Rattle.rules.specs.TokenSets.{keeping}
use Rattle.rules.specs.Between.{Between, place_on_side, answer_from, answer_between, between}
use Rattle.rules.specs.ArcConsistency.{ArcConsistent}
use Rattle.rules.specs.RowBooks.{Calm}
use Rattle.rules.proofs.Keeping.{keeping_admits, kept_is}

-- a number on a side and one on the other obey the rule
abbrev pub agree_on : Between → Side → ℤ → ℤ → Bool
agree_on link First x y = link.agree x y
agree_on link Second x y = link.agree y x

-- a token may stay exactly if it has a partner
pub record Partnered (link : Between) : Type 0 where
  pub partner : (side : Side) (other : Choice) (t : ℕ) → 0 < choice_size other → T (link.stays side other t) → (y : ℤ) × T (choice_admits other y) × T (agree_on link side (pos t) y)
  pub stay : (side : Side) (other : Choice) (t : ℕ) (y : ℤ) → T (choice_admits other y) → T (agree_on link side (pos t) y) → T (link.stays side other t)

-- whether a number may stay, at either place
abbrev may : Between → ℕ → List Choice → ℤ → Bool
may link p b (pos t) = cond (eqb p link.first) (link.stays First (span_at choices b link.second) t) (link.stays Second (span_at choices b link.first) t)
may link p b (negsuc n) = false

either_way : (e : Bool) (one two : Choice) → two ≡ one → cond e one two ≡ one
either_way true one two h = refl
either_way false one two h = h

module _ (places : ℕ) (link : Between) (P : Partnered link) (d : link.first ≡ link.second → ⊥) (lf : link.first < places) (ls : link.second < places) where
  below : (side : Side) → place_on_side link side < places
  below First = lf
  below Second = ls

  own_place : (side : Side) → Among (place_on_side link side) (between link).scope
  own_place First = inl refl
  own_place Second = inr (inl refl)

  side_of : (p : ℕ) → Among p (between link).scope → (side : Side) × (place_on_side link side ≡ p)
  side_of p (inl e) = (First, sym e)
  side_of p (inr (inl e)) = (Second, sym e)
  side_of p (inr (inr m)) = absurd m

  some : (side : Side) (b : List Choice) → Full choices places b → 0 < choice_size (span_at choices b (place_on_side link side))
  some side b f = f.some (place_on_side link side) (below side)

  may_at : (side : Side) (b : List Choice) (t : ℕ) → may link (place_on_side link side) b (pos t) ≡ link.stays side (span_at choices b (place_on_side link (across side))) t
  may_at First b t = cond-true _ _ _ (eq-eqb link.first link.first refl)
  may_at Second b t = cond-false _ _ _ (ne_eqb link.second link.first (λ e. d (sym e)))

  answer_at : (side : Side) (b : List Choice) → Full choices places b
      → answer_between link (place_on_side link side) b ≡ keeping (span_at choices b (place_on_side link side)) (link.stays side (span_at choices b (place_on_side link (across side))))
  unfolding answer_from
  answer_at First b f =
      let one = some First b f in
      let two = some Second b f in
      cond-false _ _ _ (or_from _ _ (ne_eqb (choice_size (span_at choices b link.first)) 0 (λ e. omega arith)) (ne_eqb (choice_size (span_at choices b link.second)) 0 (λ e. omega arith)))
      ∙ cond-true _ _ _ (eq-eqb link.first link.first refl)
  answer_at Second b f =
      let one = some First b f in
      let two = some Second b f in
      cond-false _ _ _ (or_from _ _ (ne_eqb (choice_size (span_at choices b link.first)) 0 (λ e. omega arith)) (ne_eqb (choice_size (span_at choices b link.second)) 0 (λ e. omega arith)))
      ∙ cond-false _ _ _ (ne_eqb link.second link.first (λ e. d (sym e))) ∙ cond-true _ _ _ (eq-eqb link.second link.second refl)

  elsewhere : (p : ℕ) (b : List Choice) → (Among p (between link).scope → ⊥) → answer_between link p b ≡ span_at choices b p
  unfolding answer_from
  elsewhere p b n = either_way _ _ _ (cond-false _ _ _ (ne_eqb p link.first (λ z. n (inl z))) ∙ cond-false _ _ _ (ne_eqb p link.second (λ z. n (inr (inl z)))))

  at_empty : (p q : ℕ) (b : List Choice) → Among q (between link).scope → choice_size (span_at choices b q) ≡ 0 → answer_between link p b ≡ span_at choices b p
  unfolding answer_from
  at_empty p q b (inl z) e = cond-true _ _ _ (or_left _ _ (eq-eqb (choice_size (span_at choices b link.first)) 0 (rw z at e)))
  at_empty p q b (inr (inl z)) e = cond-true _ _ _ (or_right _ _ (eq-eqb (choice_size (span_at choices b link.second)) 0 (rw z at e)))
  at_empty p q b (inr (inr m)) e = absurd m

  exact : (side : Side) (b : List Choice) (x : ℤ) → Full choices places b → choice_admits (answer_between link (place_on_side link side) b) x ≡ (choice_admits (span_at choices b (place_on_side link side)) x && may link (place_on_side link side) b x)
  exact side b (pos t) f =
      let span = span_at choices b (place_on_side link side) in
      ap (λ (s : Choice). choice_admits s (pos t)) (answer_at side b f) ∙ keeping_admits span (link.stays side (span_at choices b (place_on_side link (across side)))) t
      ∙ ap (λ (z : Bool). choice_admits span (pos t) && z) (sym (may_at side b t))
  exact side b (negsuc n) f = refl

  wider : (side : Side) (a b : List Choice) (x : ℤ) → Full choices places a → Inside choices places a b → T (may link (place_on_side link side) a x) → T (may link (place_on_side link side) b x)
  wider side a b (negsuc n) f w h = h
  wider side a b (pos t) f w h =
      let q = P.partner side (span_at choices a (place_on_side link (across side))) t (some (across side) a f) (subst T (may_at side a t) h) in
      subst T (sym (may_at side b t)) (P.stay side (span_at choices b (place_on_side link (across side))) t q.0 (w (place_on_side link (across side)) (below (across side)) q.0 q.1) q.2)

  agreed : (side : Side) (h : List ℤ) → T ((between link).obeys h) → T (agree_on link side (number_at h (place_on_side link side)) (number_at h (place_on_side link (across side))))
  agreed First h t = t
  agreed Second h t = t

  fair : (side : Side) (b : List Choice) (h : List ℤ) → On choices places h b → T ((between link).obeys h) → T (may link (place_on_side link side) b (number_at h (place_on_side link side)))
  fair side b h o t = go (number_at h (place_on_side link side)) (o.admitted (place_on_side link side) (below side)) (agreed side h t)
    where
      go : (x : ℤ) → T (choice_admits (span_at choices b (place_on_side link side)) x) → T (agree_on link side x (number_at h (place_on_side link (across side)))) → T (may link (place_on_side link side) b x)
      go (pos t) a u = subst T (sym (may_at side b t)) (P.stay side (span_at choices b (place_on_side link (across side))) t (number_at h (place_on_side link (across side))) (o.admitted (place_on_side link (across side)) (below (across side))) u)
      go (negsuc n) a u = a

  tight : (b : List Choice) (h : List ℤ) → Full choices places b → ((p : ℕ) → p < places → choice_size (span_at choices b p) ≡ 1) → On choices places h b → T (may link link.first b (number_at h link.first)) → T ((between link).obeys h)
  tight b h f one o = go (number_at h link.first)
    where
      go : (x : ℤ) → T (may link link.first b x) → T (link.agree x (number_at h link.second))
      go (negsuc n) u = absurd u
      go (pos t) u =
          let span = span_at choices b link.second in
          let q = P.partner First span t (some Second b f) (subst T (may_at First b t) u) in
          subst (λ (y : ℤ). T (link.agree (pos t) y)) (one_number choices span q.0 (number_at h link.second) (one link.second ls) q.1 (o.admitted link.second ls)) q.2

  alone : (side : Side) (a b : List Choice) (x : ℤ) → ((q : ℕ) → Among q (between link).scope → span_at choices a q ≡ span_at choices b q) → may link (place_on_side link side) a x ≡ may link (place_on_side link side) b x
  alone side a b (negsuc n) e = refl
  alone side a b (pos t) e = may_at side a t ∙ ap (λ (s : Choice). link.stays side s t) (e (place_on_side link (across side)) (own_place (across side))) ∙ sym (may_at side b t)

  filter : Filter choices places (between link) (may link)
  filter = record {
    some = lit≤ tt;
    few = lit≤ tt;
    counted = λ p m. let s = side_of p m in subst (λ (q : ℕ). q < places) s.1 (below s.0);
    once = (λ m. elim m [ inl e ↦ d e | inr z ↦ z ], (λ m. m, tt));
    wider = λ p a b x m f g w. let s = side_of p m in subst (λ (q : ℕ). T (may link q a x) → T (may link q b x)) s.1 (wider s.0 a b x f w);
    fair = λ p b h m f o t. let s = side_of p m in subst (λ (q : ℕ). T (may link q b (number_at h q))) s.1 (fair s.0 b h o t);
    tight = λ b h f one o t. tight b h f one o (t link.first (inl refl));
    own = λ p a b x m e. let s = side_of p m in subst (λ (q : ℕ). may link q a x ≡ may link q b x) s.1 (alone s.0 a b x e);
    exact = λ p b x m f. let s = side_of p m in subst (λ (q : ℕ). choice_admits (answer_between link q b) x ≡ (choice_admits (span_at choices b q) x && may link q b x)) s.1 (exact s.0 b x f);
    elsewhere = elsewhere;
    at_empty = at_empty;
  }

  -- all laws of a rule
  pub link_sound : Sound choices places (between link)
  link_sound = filter_sound choices places (between link) (may link) filter

  -- ---- arc consistency

  -- each admitted token on a side has a partner
  Supported : Side → List Choice → Type 0
  Supported side b = (x : ℤ) → T (choice_admits (span_at choices b (place_on_side link side)) x) → (y : ℤ) × T (choice_admits (span_at choices b (place_on_side link (across side))) y) × T (agree_on link side x y)

  supported : (b : List Choice) → Full choices places b → Calm choices places (between link) b → (side : Side) → Supported side b
  unfolding Supported
  supported b f calm side (negsuc n) h = absurd h
  supported b f calm side (pos t) h =
      let span = span_at choices b (place_on_side link side) in
      let other = span_at choices b (place_on_side link (across side)) in
      let kept = sym (ap (λ (s : Choice). choice_admits s (pos t)) (calm (place_on_side link side) (below side))) ∙ ap (λ (s : Choice). choice_admits s (pos t)) (answer_at side b f) ∙ keeping_admits span (link.stays side other) t in
      P.partner side other t (some (across side) b f) (both (choice_admits span (pos t)) (link.stays side other t) (subst T kept h)).1

  calm_on : (b : List Choice) → Full choices places b → (side : Side) → Supported side b → answer_between link (place_on_side link side) b ≡ span_at choices b (place_on_side link side)
  unfolding Supported
  calm_on b f side sup =
      let span = span_at choices b (place_on_side link side) in
      let other = span_at choices b (place_on_side link (across side)) in
      answer_at side b f ∙ sym (kept_is span span (link.stays side other) (λ t. alike (choice_admits span (pos t)) (choice_admits span (pos t) && link.stays side other t)
      (λ h. let q = sup (pos t) h in join (choice_admits span (pos t)) (link.stays side other t) h (P.stay side other t q.0 q.1 q.2))
      (λ h. (both (choice_admits span (pos t)) (link.stays side other t) h).0)))

  pub arc_consistent : (b : List Choice) → Full choices places b → Calm choices places (between link) b ↔ ArcConsistent link b
  unfolding Supported
  arc_consistent b f = (
    λ calm. record { first = supported b f calm First; second = supported b f calm Second },
    λ arc p l. go arc p (among_or_not p (between link).scope),
  )
    where
      each : ArcConsistent link b → (side : Side) → answer_between link (place_on_side link side) b ≡ span_at choices b (place_on_side link side)
      each arc First = calm_on b f First arc.first
      each arc Second = calm_on b f Second arc.second

      go : ArcConsistent link b → (p : ℕ) → Among p (between link).scope ⊎ (Among p (between link).scope → ⊥) → answer_between link p b ≡ span_at choices b p
      go arc p (inl m) = let s = side_of p m in subst (λ (q : ℕ). answer_between link q b ≡ span_at choices b q) s.1 (each arc s.0)
      go arc p (inr n) = elsewhere p b n
