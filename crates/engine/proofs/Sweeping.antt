-- Plain sweeps end: at the widest settled board inside the board, or where they show that there is none. Assumes nothing.
use Rattle.std.proofs.Common.{◌≡◌, ℕ, zero, suc, ◌+◌, ◌<◌, ◌≤◌, Bool, true, false, cond, eqb, ltb, ◌⊎◌, List, [], ◌∷◌, ◌++◌, length, set, ℤ, sym, refl, ap, ◌∙◌, subst, inl, inr, not-suc-le-zero, arith}
use Rattle.std.proofs.lemmas.List.{set-get_or}
use Rattle.std.proofs.lemmas.Bool.{ltb-true, ltb-false, eqb-true, eqb-false, cases_Bool}
use Rattle.spans.specs.Kind.{Kind, Within}
use Rattle.spans.proofs.Sizes.{some_least, size_within}
use Rattle.books.specs.Boards.{Among, has, span_at, number_at, Full, Inside, On}
use Rattle.books.specs.Meaning.{Meaning, Sound, Lawful}
use Rattle.books.specs.Settled.{Settled, Widest}
use Rattle.books.specs.Sweeps.{Visit, visits, Outcome, emptied, left, then, strike, total, walk, sweep, sweeps, settle}
use Rattle.books.proofs.Places.{has_among, among_has}
use Rattle.engine.specs.Settling.{Obeys, Hopeless, Ends, SweepsLaw}
use Rattle.engine.proofs.Boards.{T_of, not_T_of, empty_size, some_size, zero_none, as_many, inside_trans, inside_set, into_set, on_set, full_set, total_set}
use Rattle.engine.proofs.Among.{among_split, visit_of, visits_counted, visits_all}

-- the visit is of a place of a rule of the book
abbrev pub Counted : {S : Type 0} → Meaning S → Visit → Type 0
Counted book v = (v.rule < book.rules) × Among v.place (book.rule v.rule).scope

module _ {S : Type 0} (kind : Kind S) (book : Meaning S) where
  -- from a board and some strikes to another: no settled board inside it and no holding on it that obeys the rules is lost
  pub record Narrowed (b : List S) (i : ℕ) (c : List S) (j : ℕ) : Type 0 where
    pub full : Full kind book.places c
    pub inside : Inside kind book.places c b
    pub settled : (s : List S) → Settled kind book s → Inside kind book.places s b → Inside kind book.places s c
    pub holdings : (h : List ℤ) → Obeys book h → On kind book.places h b → On kind book.places h c
    pub up : i ≤ j
    pub falls : total kind c + j ≤ total kind b + i
    pub still : j ≡ i → c ≡ b

  -- the answer of the visit is the board's span
  abbrev pub Calm : List S → Visit → Type 0
  Calm b v = (book.rule v.rule).answer v.place b ≡ span_at kind b v.place

  -- visits that leave a board; where there was no strike, all of them were calm
  pub record Walked (vs : List Visit) (b : List S) (i : ℕ) (c : List S) (j : ℕ) : Type 0 where
    pub narrowed : Narrowed b i c j
    pub calm : j ≡ i → (v : Visit) → Among v vs → Calm b v

  abbrev pub GoodWalk : List Visit → List S → ℕ → Outcome S → Type 0
  GoodWalk vs b i (emptied p r) = Hopeless kind book b
  GoodWalk vs b i (left c j) = Walked vs b i c j

  -- sweeps that leave a settled board
  pub record Ended (b : List S) (i : ℕ) (c : List S) (j : ℕ) : Type 0 where
    pub is_settled : Settled kind book c
    pub narrowed : Narrowed b i c j

  abbrev pub GoodEnd : List S → ℕ → Outcome S → Type 0
  GoodEnd b i (emptied p r) = Hopeless kind book b
  GoodEnd b i (left c j) = Ended b i c j

  pub narrowed_trans : {b c d : List S} {i j l : ℕ} → Narrowed b i c j → Narrowed c j d l → Narrowed b i d l
  narrowed_trans {b} {c} {d} {i} {j} {l} f g = record {
    full = g.full;
    inside = inside_trans kind book.places d c b g.inside f.inside;
    settled = λ s z h. g.settled s z (f.settled s z h);
    holdings = λ h z o. g.holdings h z (f.holdings h z o);
    up = omega (arith, f.up, g.up);
    falls = omega (arith, f.falls, g.falls);
    still = λ e. g.still (omega (arith, f.up, g.up)) ∙ f.still (omega (arith, f.up, g.up));
  }

  pub hopeless_back : {b c : List S} {i j : ℕ} → Narrowed b i c j → Hopeless kind book c → Hopeless kind book b
  hopeless_back f g = record {
    no_settled = λ s. g.no_settled (s.0, s.1, f.settled s.0 s.1 s.2);
    no_holding = λ h z o. g.no_holding h z (f.holdings h z o);
  }

  pub strike_cases : (new old : S) → ((strike kind new old ≡ 1) × (kind.size new < kind.size old)) ⊎ ((strike kind new old ≡ 0) × (kind.size old ≤ kind.size new))
  unfolding strike
  strike_cases new old = go (ltb (kind.size new) (kind.size old)) refl
    where
      one : Bool → ℕ
      one e = cond e 1 0

      go : (e : Bool) → ltb (kind.size new) (kind.size old) ≡ e → ((one e ≡ 1) × (kind.size new < kind.size old)) ⊎ ((one e ≡ 0) × (kind.size old ≤ kind.size new))
      go true e = inl (refl, ltb-true (kind.size new) (kind.size old) e)
      go false e = inr (refl, ltb-false (kind.size new) (kind.size old) e)

module _ {S : Type 0} (kind : Kind S) (book : Meaning S) (law : Lawful kind book) where
  place_counted : (v : Visit) → Counted book v → v.place < book.places
  place_counted v q = (law.each v.rule q.0).counted v.place q.1

  -- a settled board inside another has its span within the answer on the other
  settled_into : (v : Visit) (b s : List S) → Counted book v → Full kind book.places b → Settled kind book s → Inside kind book.places s b
      → Within kind (span_at kind s v.place) ((book.rule v.rule).answer v.place b)
  settled_into v b s q f z h =
      let p = place_counted v q in
      rw (z.calm v.rule v.place q.0 p) at ((law.each v.rule q.0).monotone v.place s b p z.full f h)

  -- one visit whose answer is not empty
  pub one_visit : (v : Visit) (b : List S) (i : ℕ) → Counted book v → Full kind book.places b → 0 < kind.size ((book.rule v.rule).answer v.place b)
      → let a = (book.rule v.rule).answer v.place b in Walked kind book (v ∷ []) b i (set b v.place a) (i + strike kind a (span_at kind b v.place))
  one_visit v b i q f s = record {
    narrowed = record {
      full = full_set kind book.places b p a there f s;
      inside = inside_set kind book.places b p a here less;
      settled = λ z st h. into_set kind book.places z b p a here h (settled_into v b z q f st h);
      holdings = λ h z o. on_set kind book.places h b p a here o (sound.keeps p b h there f o (z r q.0));
      up = omega arith;
      falls = elim cases [ inl e ↦ omega (arith, sums) | inr e ↦ omega (arith, sums, size_within kind a (span_at kind b p) less) ];
      still = λ e. ap (λ (z : S). set b p z) (kept e) ∙ set-get_or b p kind.none;
    };
    calm = λ e w m. elim m [ inl u ↦ rw u (kept e) | inr u ↦ absurd u ];
  }
    where
      r : ℕ
      r = v.rule

      p : ℕ
      p = v.place

      a : S
      a = (book.rule r).answer p b

      sound : Sound kind book.places (book.rule r)
      sound = law.each r q.0

      there : p < book.places
      there = place_counted v q

      here : p < length b
      here = rw f.long there

      less : Within kind a (span_at kind b p)
      less = sound.narrows p b there f

      sums : total kind (set b p a) + kind.size (span_at kind b p) ≡ total kind b + kind.size a
      sums = total_set kind b p a here

      cases : ((strike kind a (span_at kind b p) ≡ 1) × (kind.size a < kind.size (span_at kind b p))) ⊎ ((strike kind a (span_at kind b p) ≡ 0) × (kind.size (span_at kind b p) ≤ kind.size a))
      cases = strike_cases kind book a (span_at kind b p)

      kept : i + strike kind a (span_at kind b p) ≡ i → a ≡ span_at kind b p
      kept e = elim cases [ inl c ↦ absurd (omega (arith, e, c.0)) | inr c ↦ as_many kind a (span_at kind b p) less c.1 ]

  -- an empty answer
  pub one_empty : (v : Visit) (b : List S) → Counted book v → Full kind book.places b → kind.size ((book.rule v.rule).answer v.place b) ≡ 0 → Hopeless kind book b
  one_empty v b q f e = record {
    no_settled = λ s.
        let x = kind.least (span_at kind s.0 v.place) in
        let t = some_least kind (span_at kind s.0 v.place) (s.1.full.some v.place (place_counted v q)) in
        zero_none kind ((book.rule v.rule).answer v.place b) x e (settled_into v b s.0 q f s.1 s.2 x t);
    no_holding = λ h z o.
        zero_none kind ((book.rule v.rule).answer v.place b) (number_at h v.place) e ((law.each v.rule q.0).keeps v.place b h (place_counted v q) f o (z v.rule q.0));
  }

  -- visits, and then more of them
  join : {b c : List S} {i j : ℕ} (vs ws : List Visit) (o : Outcome S) → Walked kind book vs b i c j → GoodWalk kind book ws c j o → GoodWalk kind book (vs ++ ws) b i o
  join vs ws (emptied p r) f g = hopeless_back kind book f.narrowed g
  join {b} {c} {i} {j} vs ws (left d l) f g = record {
    narrowed = narrowed_trans kind book f.narrowed g.narrowed;
    calm = λ e v m.
        let first : j ≡ i = omega (arith, f.narrowed.up, g.narrowed.up, e) in
        let second : l ≡ j = omega (arith, f.narrowed.up, g.narrowed.up, e) in
        elim (among_split v vs ws m) [ inl u ↦ f.calm first v u | inr u ↦ subst (λ (z : List S). Calm kind book z v) (f.narrowed.still first) (g.calm second v u) ];
  }

  pub walk_good : (vs : List Visit) → ((v : Visit) → Among v vs → Counted book v) → (b : List S) (i : ℕ) → Full kind book.places b → GoodWalk kind book vs b i (walk kind book vs b i)
  unfolding walk
  walk_good [] q b i f = record {
    narrowed = record {
      full = f;
      inside = λ p h x t. t;
      settled = λ s z h. h;
      holdings = λ h z o. o;
      up = omega arith;
      falls = omega arith;
      still = λ e. refl;
    };
    calm = λ e v m. absurd m;
  }
  walk_good (v ∷ vs) q b i f = go (eqb (kind.size a) 0) refl (λ g. walk_good vs (λ w m. q w (inr m)) b' i' g)
    where
      a : S
      a = (book.rule v.rule).answer v.place b

      b' : List S
      b' = set b v.place a

      i' : ℕ
      i' = i + strike kind a (span_at kind b v.place)

      go : (e : Bool) → eqb (kind.size a) 0 ≡ e → (Full kind book.places b' → GoodWalk kind book vs b' i' (walk kind book vs b' i'))
          → GoodWalk kind book (v ∷ vs) b i (cond e (emptied v.place v.rule) (walk kind book vs b' i'))
      go true e ih = one_empty v b (q v (inl refl)) f (empty_size kind a e)
      go false e ih =
          let w = one_visit v b i (q v (inl refl)) f (some_size kind a e) in
          join (v ∷ []) vs (walk kind book vs b' i') w (ih w.narrowed.full)

  -- a sweep visits every rule's places, and no other
  pub sweep_good : (b : List S) (i : ℕ) → Full kind book.places b → GoodWalk kind book (visits book book.rules) b i (sweep kind book b i)
  unfolding sweep
  sweep_good b i f = walk_good (visits book book.rules) (visits_counted book book.rules) b i f

  -- a sweep without a strike leaves a settled board: elsewhere than at a rule's places its answers are the board's spans anyway
  pub still_settled : {b c : List S} {i j : ℕ} → Walked kind book (visits book book.rules) b i c j → j ≡ i → Settled kind book c
  still_settled {b} {c} w e = record { full = w.narrowed.full; calm = λ r p h l. go r p h l (cases_Bool (has p (book.rule r).scope)) }
    where
      go : (r p : ℕ) → r < book.rules → p < book.places → (has p (book.rule r).scope ≡ true) ⊎ (has p (book.rule r).scope ≡ false) → (book.rule r).answer p c ≡ span_at kind c p
      go r p h l (inl t) =
          subst (λ (z : List S). (book.rule r).answer p z ≡ span_at kind z p) (sym (w.narrowed.still e))
          (w.calm e (visit_of r p) (visits_all book book.rules (visit_of r p) h (has_among p (book.rule r).scope (T_of t))))
      go r p h l (inr t) = (law.each r h).elsewhere p c l (λ m. not_T_of t (among_has p (book.rule r).scope m)) w.narrowed.full

  after : {b c : List S} {i j : ℕ} (o : Outcome S) → Narrowed kind book b i c j → GoodEnd kind book c j o → GoodEnd kind book b i o
  after (emptied p r) f g = hopeless_back kind book f g
  after (left d l) f g = record { is_settled = g.is_settled; narrowed = narrowed_trans kind book f g.narrowed }

  -- more sweeps than numbers never run out: each but the last has a strike, and a strike takes a number away
  pub sweeps_good : (n : ℕ) (b : List S) (i : ℕ) → Full kind book.places b → total kind b < n → GoodEnd kind book b i (sweeps kind book n b i)
  unfolding sweeps
  sweeps_good zero b i full h = absurd (not-suc-le-zero h)
  sweeps_good (suc n) b i full h = go (sweep kind book b i) (sweep_good b i full) (λ c j g l. sweeps_good n c j g l)
    where
      test : (e : Bool) (c : List S) (j : ℕ) → eqb j i ≡ e → Walked kind book (visits book book.rules) b i c j → (total kind c < n → GoodEnd kind book c j (sweeps kind book n c j))
          → GoodEnd kind book b i (cond e (left c j) (sweeps kind book n c j))
      test true c j e w ih = record { is_settled = still_settled w (eqb-true j i e); narrowed = w.narrowed }
      test false c j e w ih =
          let d : j ≡ i → ⊥ = eqb-false j i e in
          after (sweeps kind book n c j) w.narrowed (ih (omega (arith, d, w.narrowed.up, w.narrowed.falls, h)))

      go : (o : Outcome S) → GoodWalk kind book (visits book book.rules) b i o → ((c : List S) (j : ℕ) → Full kind book.places c → total kind c < n → GoodEnd kind book c j (sweeps kind book n c j))
          → GoodEnd kind book b i (then o (λ c j. cond (eqb j i) (left c j) (sweeps kind book n c j)))
      go (emptied p r) w ih = w
      go (left c j) w ih = test (eqb j i) c j refl w (ih c j w.narrowed.full)

  -- however many there are
  pub sweeps_same : (m n : ℕ) (b : List S) (i : ℕ) → Full kind book.places b → total kind b < m → total kind b < n → sweeps kind book m b i ≡ sweeps kind book n b i
  unfolding sweeps
  sweeps_same zero n b i full h l = absurd (not-suc-le-zero h)
  sweeps_same (suc m) zero b i full h l = absurd (not-suc-le-zero l)
  sweeps_same (suc m) (suc n) b i full h l = go (sweep kind book b i) (sweep_good b i full) (λ c j g u v. sweeps_same m n c j g u v)
    where
      test : (e : Bool) (c : List S) (j : ℕ) → eqb j i ≡ e → Walked kind book (visits book book.rules) b i c j → (total kind c < m → total kind c < n → sweeps kind book m c j ≡ sweeps kind book n c j)
          → cond e (left c j) (sweeps kind book m c j) ≡ cond e (left c j) (sweeps kind book n c j)
      test true c j e w ih = refl
      test false c j e w ih =
          let d : j ≡ i → ⊥ = eqb-false j i e in
          ih (omega (arith, d, w.narrowed.up, w.narrowed.falls, h)) (omega (arith, d, w.narrowed.up, w.narrowed.falls, l))

      go : (o : Outcome S) → GoodWalk kind book (visits book book.rules) b i o
          → ((c : List S) (j : ℕ) → Full kind book.places c → total kind c < m → total kind c < n → sweeps kind book m c j ≡ sweeps kind book n c j)
          → then o (λ c j. cond (eqb j i) (left c j) (sweeps kind book m c j)) ≡ then o (λ c j. cond (eqb j i) (left c j) (sweeps kind book n c j))
      go (emptied p r) w ih = refl
      go (left c j) w ih = test (eqb j i) c j refl w (ih c j w.narrowed.full)

  -- settling a board with no empty span
  pub settle_good : (b : List S) → Full kind book.places b → GoodEnd kind book b 0 (settle kind book b)
  unfolding settle
  settle_good b f = sweeps_good (suc (total kind b)) b 0 f (omega arith)

  pub ended_widest : {b c : List S} {i j : ℕ} → Ended kind book b i c j → Widest kind book c b
  ended_widest e = record { settled = e.is_settled; inside = e.narrowed.inside; others = e.narrowed.settled }

  ends : (b : List S) (o : Outcome S) → GoodEnd kind book b 0 o → Ends kind book b o
  ends b (emptied p r) g = g
  ends b (left c j) g = record { widest = ended_widest g; holdings = g.narrowed.holdings; falls = omega (arith, g.narrowed.falls) }

  pub sweeps_law_lem : SweepsLaw kind book
  unfolding settle
  sweeps_law_lem = record {
    ends = λ b f. ends b (settle kind book b) (settle_good b f);
    enough = λ b n f h. sweeps_same n (suc (total kind b)) b 0 f h (omega arith);
  }
