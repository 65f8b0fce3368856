-- Passing over a rule that does not wait changes nothing, and at the end no rule waits. Assumes nothing.
use Rattle.std.proofs.Common.{◌≡◌, ℕ, zero, suc, ◌+◌, ◌<◌, ◌≤◌, Bool, true, false, cond, eqb, ltb, ◌⊎◌, List, [], ◌∷◌, ◌++◌, map, length, get_or, set, sym, refl, ap, ◌∙◌, subst, inl, inr, append_assoc, append-nil, not-suc-le-zero, add-zero, add-suc, suc-add, zero-add, add-one, arith, length-set}
use Rattle.std.proofs.lemmas.List.{set-get_or, get_or-set_same, get_or-set_other}
use Rattle.std.proofs.lemmas.Bool.{ltb-false, le-ltb, eqb-true, eqb-false, cases_eq}
use Rattle.spans.specs.Kind.{Kind}
use Rattle.books.specs.Boards.{Among, span_at, Full}
use Rattle.books.specs.Meaning.{Meaning, Sound, Lawful}
use Rattle.books.specs.Sweeps.{Visit, visits, Outcome, emptied, left, then, strike, total, walk, sweep, sweeps, settle}
use Rattle.books.specs.Waking.{woken}
use Rattle.books.proofs.Places.{among_has}
use Rattle.books.proofs.Wakes.{length_woken, woken_rest}
use Rattle.engine.specs.Waiting.{all_wait, none_wait}
use Rattle.engine.specs.Skims.{Skim, halted, onward, on_then, bare, tend, tend_rule, skim_from, skim, skims, skimmed, Rests, PassingLaw}
use Rattle.engine.proofs.Boards.{not_T_of, some_size, not_empty, as_many, full_set}
use Rattle.engine.proofs.Among.{visit_of}
use Rattle.engine.proofs.Sweeping.{Walked, GoodWalk, sweep_good}
use Rattle.engine.proofs.Waits.{length_filled, filled_rule, filled_rest, filled_by, asleep}

module _ {S : Type 0} (kind : Kind S) (book : Meaning S) where
  -- visits, and then more of them
  walk_append : (vs ws : List Visit) (b : List S) (i : ℕ) → walk kind book (vs ++ ws) b i ≡ then (walk kind book vs b i) (walk kind book ws)
  unfolding walk
  walk_append [] ws b i = refl
  walk_append (v ∷ vs) ws b i = go (eqb (kind.size ((book.rule v.rule).answer v.place b)) 0) _ _ (walk_append vs ws _ _)
    where
      go : (e : Bool) (x y : Outcome S) → y ≡ then x (walk kind book ws) → cond e (emptied v.place v.rule) y ≡ then (cond e (emptied v.place v.rule) x) (walk kind book ws)
      go true x y h = refl
      go false x y h = h

  -- the visits of so many rules from the rule r on
  visits_from : ℕ → ℕ → List Visit
  visits_from zero r = []
  visits_from (suc n) r = map (visit_of r) (book.rule r).scope ++ visits_from n (suc r)

  visits_from_lem : (n r : ℕ) → visits book (r + n) ≡ visits book r ++ visits_from n r
  unfolding visits visits_from
  visits_from_lem zero r = ap (visits book) (add-zero r) ∙ sym (append-nil (visits book r))
  visits_from_lem (suc n) r =
      ap (visits book) (add-suc r n ∙ sym (suc-add r n)) ∙ visits_from_lem n (suc r) ∙ append_assoc (visits book r) (map (visit_of r) (book.rule r).scope) (visits_from n (suc r))

  visits_all_from : visits book book.rules ≡ visits_from book.rules 0
  unfolding visits
  visits_all_from = ap (visits book) (sym (zero-add book.rules)) ∙ visits_from_lem book.rules 0

  -- every answer of the rule at its places is the board's span
  abbrev RuleCalm : ℕ → List S → Type 0
  RuleCalm r b = (p : ℕ) → Among p (book.rule r).scope → (book.rule r).answer p b ≡ span_at kind b p

  -- a rule that does not wait is calm
  abbrev Idle : List S → List ℕ → Type 0
  Idle b w = (r : ℕ) → r < book.rules → get_or w r 0 ≡ 0 → RuleCalm r b

  -- a waiting list with as many entries and the same entries past the rules
  record KeptList (w v : List ℕ) : Type 0 where
    long : length v ≡ length w
    rest : (k : ℕ) → book.rules ≤ k → get_or v k 0 ≡ get_or w k 0

  same_list : (w : List ℕ) → KeptList w w
  same_list w = record { long = refl; rest = λ k h. refl }

  list_trans : {u v w : List ℕ} → KeptList u v → KeptList v w → KeptList u w
  list_trans f g = record { long = g.long ∙ f.long; rest = λ k h. g.rest k h ∙ f.rest k h }

  woken_list : (p : ℕ) (w : List ℕ) → KeptList w (woken book p w)
  woken_list p w = record { long = length_woken book p w; rest = λ k h. woken_rest book p w k h }

  set_list : (r : ℕ) (w : List ℕ) → r < book.rules → KeptList w (set w r 0)
  set_list r w h = record { long = length-set w r 0; rest = λ k l. get_or-set_other w r k 0 0 (λ e. omega arith) }

  -- while the rule r is visited, with the places ps still to come
  record Amid (r : ℕ) (ps : List ℕ) (b : List S) (w : List ℕ) : Type 0 where
    full : Full kind book.places b
    long : book.rules ≤ length w
    others : (q : ℕ) → q < book.rules → (q ≡ r → ⊥) → get_or w q 0 ≡ 0 → RuleCalm q b
    own : get_or w r 0 ≡ 0 → (p : ℕ) → Among p (book.rule r).scope → Among p ps ⊎ ((book.rule r).answer p b ≡ span_at kind b p)

  -- after its visits
  record Tended (r : ℕ) (w : List ℕ) (i : ℕ) (c : List S) (v : List ℕ) (j : ℕ) : Type 0 where
    amid : Amid r [] c v
    list : KeptList w v
    up : i ≤ j
    still : j ≡ i → v ≡ w

  abbrev GoodTend : ℕ → List ℕ → ℕ → Skim S → Type 0
  GoodTend r w i (halted p q) = Unit {0}
  GoodTend r w i (onward c v j) = Tended r w i c v j

  -- between two rules
  record Between (w : List ℕ) (i : ℕ) (c : List S) (v : List ℕ) (j : ℕ) : Type 0 where
    full : Full kind book.places c
    long : book.rules ≤ length v
    idle : Idle c v
    list : KeptList w v
    up : i ≤ j

  -- after a rule: without a strike, that rule alone waits no more
  abbrev GoodRule : ℕ → List ℕ → ℕ → Skim S → Type 0
  GoodRule r w i (halted p q) = Unit {0}
  GoodRule r w i (onward c v j) = Between w i c v j × (j ≡ i → v ≡ set w r 0)

  -- after so many rules from the rule r on: without a strike, they wait no more, and the earlier ones' entries stay
  record Rested (n r : ℕ) (w v : List ℕ) : Type 0 where
    zeros : (k : ℕ) → r ≤ k → k < r + n → get_or v k 0 ≡ 0
    before : (k : ℕ) → k < r → get_or v k 0 ≡ get_or w k 0

  abbrev GoodSkim : ℕ → ℕ → List ℕ → ℕ → Skim S → Type 0
  GoodSkim n r w i (halted p q) = Unit {0}
  GoodSkim n r w i (onward c v j) = Between w i c v j × (j ≡ i → Rested n r w v)

  -- at the end of all sweeps
  abbrev GoodSkims : List ℕ → Skim S → Type 0
  GoodSkims w (halted p q) = Unit {0}
  GoodSkims w (onward c v j) = KeptList w v × ((r : ℕ) → r < book.rules → get_or v r 0 ≡ 0)

  strike_one : (a c : S) → ltb (kind.size a) (kind.size c) ≡ true → strike kind a c ≡ 1
  unfolding strike
  strike_one a c e = rw e

  strike_none : (a c : S) → ltb (kind.size a) (kind.size c) ≡ false → strike kind a c ≡ 0
  unfolding strike
  strike_none a c e = rw e

  module _ (law : Lawful kind book) where
    tend_is : (r : ℕ) → r < book.rules → (ps : List ℕ) → ((p : ℕ) → Among p ps → Among p (book.rule r).scope) → (b : List S) (w : List ℕ) (i : ℕ) → Amid r ps b w
        → (bare (tend kind book r ps b w i) ≡ walk kind book (map (visit_of r) ps) b i) × GoodTend r w i (tend kind book r ps b w i)
    unfolding tend walk
    tend_is r h [] q b w i m = (refl, record { amid = m; list = same_list w; up = omega arith; still = λ e. refl })
    tend_is r h (p ∷ ps) q b w i m =
        go (eqb (kind.size a) 0) refl (ltb (kind.size a) (kind.size old)) refl
        (λ u. tend_is r h ps (λ x z. q x (inr z)) b' w' (suc i) u) (λ u. tend_is r h ps (λ x z. q x (inr z)) b w i u)
      where
        a : S
        a = (book.rule r).answer p b

        old : S
        old = span_at kind b p

        b' : List S
        b' = set b p a

        w' : List ℕ
        w' = woken book p w

        vs : List Visit
        vs = map (visit_of r) ps

        sound : Sound kind book.places (book.rule r)
        sound = law.each r h

        mine : Among p (book.rule r).scope
        mine = q p (inl refl)

        here : p < book.places
        here = sound.counted p mine

        -- a calm rule without the place stays calm
        away : (x : ℕ) → x < book.rules → (¬ Among p (book.rule x).scope) → Full kind book.places b' → RuleCalm x b → RuleCalm x b'
        away x l d f c y z =
            let same : (u : ℕ) → Among u (book.rule x).scope → span_at kind b' u ≡ span_at kind b u = λ u v. get_or-set_other b p u a kind.none (λ e. d (subst (λ (t : ℕ). Among t (book.rule x).scope) e v)) in
            (law.each x l).own y b' b z f m.full same ∙ c y z ∙ sym (same y z)

        struck : 0 < kind.size a → Amid r ps b' w'
        struck s =
            let f = full_set kind book.places b p a here m.full s in
            let out : (x : ℕ) → x < book.rules → get_or w' x 0 ≡ 0 → (¬ Among p (book.rule x).scope) × (get_or w x 0 ≡ 0) =
            λ x l u. let v = asleep book p w x l m.long u in (λ z. not_T_of v.0 (among_has p (book.rule x).scope z), v.1) in
            record {
              full = f;
              long = rw (length_woken book p w) m.long;
              others = λ x l d u. away x l (out x l u).0 f (m.others x l d (out x l u).1);
              own = λ u. absurd ((out r h u).0 mine);
            }

        kept : ltb (kind.size a) (kind.size old) ≡ false → a ≡ old
        kept e = as_many kind a old (sound.narrows p b here m.full) (ltb-false (kind.size a) (kind.size old) e)

        same : a ≡ old → Amid r ps b w
        same e = record {
          full = m.full;
          long = m.long;
          others = m.others;
          own = λ u x z. elim (m.own u x z) [ inl y ↦ elim y [ inl t ↦ inr (rw t e) | inr t ↦ inl t ] | inr y ↦ inr y ];
        }

        -- a strike was one
        more : (o : Skim S) → GoodTend r w' (suc i) o → GoodTend r w i o
        more (halted x y) g = tt
        more (onward c v j) g = record { amid = g.amid; list = list_trans (woken_list p w) g.list; up = omega (arith, g.up); still = λ e. absurd (omega (arith, g.up)) }

        go : (e : Bool) → eqb (kind.size a) 0 ≡ e → (d : Bool) → ltb (kind.size a) (kind.size old) ≡ d
            → (Amid r ps b' w' → (bare (tend kind book r ps b' w' (suc i)) ≡ walk kind book vs b' (suc i)) × GoodTend r w' (suc i) (tend kind book r ps b' w' (suc i)))
            → (Amid r ps b w → (bare (tend kind book r ps b w i) ≡ walk kind book vs b i) × GoodTend r w i (tend kind book r ps b w i))
            → let o = cond e (halted p r) (cond d (tend kind book r ps b' w' (suc i)) (tend kind book r ps b w i)) in
            (bare o ≡ cond e (emptied p r) (walk kind book vs b' (i + strike kind a old))) × GoodTend r w i o
        go true e d x ih jh = (refl, tt)
        go false e true x ih jh =
            let t = ih (struck (some_size kind a e)) in
            let one : suc i ≡ i + strike kind a old = sym (ap (λ (n : ℕ). i + n) (strike_one a old x) ∙ add-one i) in
            (t.0 ∙ ap (walk kind book vs b') one, more (tend kind book r ps b' w' (suc i)) t.1)
        go false e false x ih jh =
            let t = jh (same (kept x)) in
            let none : i ≡ i + strike kind a old = sym (ap (λ (n : ℕ). i + n) (strike_none a old x) ∙ add-zero i) in
            let still : b ≡ b' = sym (ap (λ (z : S). set b p z) (kept x) ∙ set-get_or b p kind.none) in
            (t.0 ∙ ap (λ (z : List S). walk kind book vs z i) still ∙ ap (walk kind book vs b') none, t.1)

    -- a calm rule visited: nothing changes
    calm_walk : (r : ℕ) → r < book.rules → (ps : List ℕ) → ((p : ℕ) → Among p ps → Among p (book.rule r).scope) → (b : List S) (i : ℕ) → Full kind book.places b → RuleCalm r b
        → walk kind book (map (visit_of r) ps) b i ≡ left b i
    unfolding walk
    calm_walk r h [] q b i f c = refl
    calm_walk r h (p ∷ ps) q b i f c =
        let mine = q p (inl refl) in
        let old = span_at kind b p in
        rw (c p mine, not_empty kind old (f.some p ((law.each r h).counted p mine)), strike_none old old (le-ltb (kind.size old) (kind.size old) (omega arith)), set-get_or b p kind.none, add-zero)
        (calm_walk r h ps (λ x z. q x (inr z)) b i f c)

    rule_is : (r : ℕ) → r < book.rules → (b : List S) (w : List ℕ) (i : ℕ) → Full kind book.places b → book.rules ≤ length w → Idle b w
        → (bare (tend_rule kind book r b w i) ≡ walk kind book (map (visit_of r) (book.rule r).scope) b i) × GoodRule r w i (tend_rule kind book r b w i)
    unfolding tend_rule
    rule_is r h b w i f long d = go (eqb (get_or w r 0) 0) refl
      where
        scope : List ℕ
        scope = (book.rule r).scope

        visited : Skim S
        visited = tend kind book r scope b (set w r 0) i

        begin : Amid r scope b (set w r 0)
        begin = record {
          full = f;
          long = rw (length-set w r 0) long;
          others = λ x l u e. d x l (sym (get_or-set_other w r x 0 0 u) ∙ e);
          own = λ _ x z. inl z;
        }

        finished : (o : Skim S) → GoodTend r (set w r 0) i o → GoodRule r w i o
        finished (halted p q) t = tt
        finished (onward c v j) t = (
          record {
            full = t.amid.full;
            long = t.amid.long;
            idle = λ x l e. pick x l e (cases_eq x r);
            list = list_trans (set_list r w h) t.list;
            up = t.up;
          },
          t.still,
        )
          where
            pick : (x : ℕ) → x < book.rules → get_or v x 0 ≡ 0 → (x ≡ r) ⊎ (x ≡ r → ⊥) → RuleCalm x c
            pick x l e (inl u) p z =
                let e' : get_or v r 0 ≡ 0 = rw u at e in
                let z' : Among p (book.rule r).scope = rw u at z in
                rw u (elim (t.amid.own e' p z') [ inl y ↦ absurd y | inr y ↦ y ])
            pick x l e (inr u) p z = t.amid.others x l u e p z

        go : (e : Bool) → eqb (get_or w r 0) 0 ≡ e → (bare (cond e (onward b w i) visited) ≡ walk kind book (map (visit_of r) scope) b i) × GoodRule r w i (cond e (onward b w i) visited)
        go true e =
            let zero-entry : get_or w r 0 ≡ 0 = eqb-true (get_or w r 0) 0 e in
            let same : w ≡ set w r 0 = sym (ap (λ (z : ℕ). set w r z) (sym zero-entry) ∙ set-get_or w r 0) in
            (sym (calm_walk r h scope (λ _ z. z) b i f (d r h zero-entry)), (record { full = f; long = long; idle = d; list = same_list w; up = omega arith }, λ _. same))
        go false e =
            let t = tend_is r h scope (λ _ z. z) b (set w r 0) i begin in
            (t.0, finished visited t.1)

    skim_is : (n r : ℕ) → r + n ≡ book.rules → (b : List S) (w : List ℕ) (i : ℕ) → Full kind book.places b → book.rules ≤ length w → Idle b w
        → (bare (skim_from kind book n r b w i) ≡ walk kind book (visits_from n r) b i) × GoodSkim n r w i (skim_from kind book n r b w i)
    unfolding skim_from visits_from walk
    skim_is zero r h b w i f long d = (
      refl,
      (record { full = f; long = long; idle = d; list = same_list w; up = omega arith }, λ _. record { zeros = λ k l u. absurd (omega arith); before = λ k l. refl }),
    )
    skim_is (suc n) r h b w i f long d =
        let here : r < book.rules = omega arith in
        let one = rule_is r here b w i f long d in
        let all = go (tend_rule kind book r b w i) one.1 (λ c v j f' long' d'. skim_is n (suc r) (omega arith) c v j f' long' d') in
        (all.0 ∙ ap (λ (z : Outcome S). then z (walk kind book (visits_from n (suc r)))) one.0 ∙ sym (walk_append (map (visit_of r) (book.rule r).scope) (visits_from n (suc r)) b i), all.1)
      where
        -- a rule, and then the rules after it
        both : (c : List S) (v : List ℕ) (j : ℕ) → GoodRule r w i (onward c v j) → (o : Skim S) → GoodSkim n (suc r) v j o → GoodSkim (suc n) r w i o
        both c v j t (halted p q) u = tt
        both c v j t (onward c' v' j') u = (
          record {
            full = u.0.full;
            long = u.0.long;
            idle = u.0.idle;
            list = list_trans t.0.list u.0.list;
            up = omega (arith, t.0.up, u.0.up);
          },
          λ e.
              let first : v ≡ set w r 0 = t.1 (omega (arith, t.0.up, u.0.up, e)) in
              let second = u.1 (omega (arith, t.0.up, u.0.up, e)) in
              record {
                zeros = λ k l m. at k l m first second (cases_eq k r);
                before = λ k l. second.before k (omega arith) ∙ ap (λ (z : List ℕ). get_or z k 0) first ∙ get_or-set_other w r k 0 0 (λ z. omega arith);
              },
        )
          where
            at : (k : ℕ) → r ≤ k → k < r + suc n → v ≡ set w r 0 → Rested n (suc r) v v' → (k ≡ r) ⊎ (k ≡ r → ⊥) → get_or v' k 0 ≡ 0
            at k l m first second (inl z) =
                second.before k (omega arith) ∙ ap (λ (y : List ℕ). get_or y k 0) first ∙ ap (λ (y : ℕ). get_or (set w r 0) y 0) z ∙ get_or-set_same w r 0 0 (omega arith)
            at k l m first second (inr z) = second.zeros k (omega arith) (omega arith)

        go : (o : Skim S) → GoodRule r w i o
            → ((c : List S) (v : List ℕ) (j : ℕ) → Full kind book.places c → book.rules ≤ length v → Idle c v
            → (bare (skim_from kind book n (suc r) c v j) ≡ walk kind book (visits_from n (suc r)) c j) × GoodSkim n (suc r) v j (skim_from kind book n (suc r) c v j))
            → (bare (on_then o (skim_from kind book n (suc r))) ≡ then (bare o) (walk kind book (visits_from n (suc r)))) × GoodSkim (suc n) r w i (on_then o (skim_from kind book n (suc r)))
        go (halted p q) t ih = (refl, tt)
        go (onward c v j) t ih =
            let u = ih c v j t.0.full t.0.long t.0.idle in
            (u.0, both c v j t (skim_from kind book n (suc r) c v j) u.1)

    -- one sweep over the rules that wait is a plain sweep
    sweep_is : (b : List S) (w : List ℕ) (i : ℕ) → Full kind book.places b → book.rules ≤ length w → Idle b w
        → (bare (skim kind book b w i) ≡ sweep kind book b i) × GoodSkim book.rules 0 w i (skim kind book b w i)
    unfolding skim sweep
    sweep_is b w i f long d =
        let t = skim_is book.rules 0 (zero-add book.rules) b w i f long d in
        (t.0 ∙ ap (λ (vs : List Visit). walk kind book vs b i) (sym visits_all_from), t.1)

    skims_is : (n : ℕ) (b : List S) (w : List ℕ) (i : ℕ) → Full kind book.places b → book.rules ≤ length w → Idle b w → total kind b < n
        → (bare (skims kind book n b w i) ≡ sweeps kind book n b i) × GoodSkims w (skims kind book n b w i)
    unfolding skims sweeps
    skims_is zero b w i f long d h = absurd (not-suc-le-zero h)
    skims_is (suc n) b w i f long d h =
        let one = sweep_is b w i f long d in
        let good = subst (GoodWalk kind book (visits book book.rules) b i) (sym one.0) (sweep_good kind book law b i f) in
        let all = go (skim kind book b w i) good one.1 (λ c v j f' long' d' h'. skims_is n c v j f' long' d' h') in
        (all.0 ∙ ap (λ (z : Outcome S). then z (λ c j. cond (eqb j i) (left c j) (sweeps kind book n c j))) one.0, all.1)
      where
        more : (v : List ℕ) → KeptList w v → (o : Skim S) → GoodSkims v o → GoodSkims w o
        more v l (halted p q) g = tt
        more v l (onward c' v' j') g = (list_trans l g.0, g.1)

        test : (e : Bool) (c : List S) (v : List ℕ) (j : ℕ) → eqb j i ≡ e → Walked kind book (visits book book.rules) b i c j → GoodSkim book.rules 0 w i (onward c v j)
            → (total kind c < n → (bare (skims kind book n c v j) ≡ sweeps kind book n c j) × GoodSkims v (skims kind book n c v j))
            → (bare (cond e (onward c v j) (skims kind book n c v j)) ≡ cond e (left c j) (sweeps kind book n c j)) × GoodSkims w (cond e (onward c v j) (skims kind book n c v j))
        test true c v j e k t ih = (refl, (t.0.list, λ r l. (t.1 (eqb-true j i e)).zeros r (omega arith) (omega arith)))
        test false c v j e k t ih =
            let d : j ≡ i → ⊥ = eqb-false j i e in
            let u = ih (omega (arith, d, k.narrowed.up, k.narrowed.falls, h)) in
            (u.0, more v t.0.list (skims kind book n c v j) u.1)

        go : (o : Skim S) → GoodWalk kind book (visits book book.rules) b i (bare o) → GoodSkim book.rules 0 w i o
            → ((c : List S) (v : List ℕ) (j : ℕ) → Full kind book.places c → book.rules ≤ length v → Idle c v → total kind c < n
            → (bare (skims kind book n c v j) ≡ sweeps kind book n c j) × GoodSkims v (skims kind book n c v j))
            → let next = on_then o (λ c v j. cond (eqb j i) (onward c v j) (skims kind book n c v j)) in
            (bare next ≡ then (bare o) (λ c j. cond (eqb j i) (left c j) (sweeps kind book n c j))) × GoodSkims w next
        go (halted p q) k t ih = (refl, tt)
        go (onward c v j) k t ih = test (eqb j i) c v j refl k t (ih c v j t.0.full t.0.long t.0.idle)

    skimmed_is : (b : List S) (w : List ℕ) → Full kind book.places b → book.rules ≤ length w
        → (bare (skimmed kind book b w) ≡ settle kind book b) × GoodSkims (all_wait book.rules w) (skimmed kind book b w)
    unfolding skimmed settle
    skimmed_is b w f h =
        skims_is (suc (total kind b)) b (all_wait book.rules w) 0 f (rw (length_filled book.rules 1 w h) h)
        (λ r l e. absurd (omega (arith, filled_rule book.rules 1 w h r l))) (omega arith)

    rests_of : (w : List ℕ) → book.rules ≤ length w → (o : Skim S) → GoodSkims (all_wait book.rules w) o → Rests kind book w o
    rests_of w h (halted p q) g = tt
    rests_of w h (onward c v j) g =
        filled_by book.rules 0 w h v (g.0.long ∙ length_filled book.rules 1 w h) g.1 (λ k l. g.0.rest k l ∙ filled_rest book.rules 1 w h k l)

    pub passing_law_lem : PassingLaw kind book
    passing_law_lem = record {
      same = λ b w f h. (skimmed_is b w f h).0;
      rests = λ b w f h. rests_of w h (skimmed kind book b w) (skimmed_is b w f h).1;
    }

    -- what settling comes to, by what the sweeps come to that pass over rules
    pub settled_by : (b : List S) (w : List ℕ) (c : List S) (v : List ℕ) (s : ℕ) → Full kind book.places b → book.rules ≤ length w → skimmed kind book b w ≡ onward c v s
        → (settle kind book b ≡ left c s) × (v ≡ none_wait book.rules w)
    settled_by b w c v s f h e = (sym (passing_law_lem.same b w f h) ∙ ap bare e, subst (Rests kind book w) e (passing_law_lem.rests b w f h))

    pub emptied_by : (b : List S) (w : List ℕ) (p r : ℕ) → Full kind book.places b → book.rules ≤ length w → skimmed kind book b w ≡ halted p r → settle kind book b ≡ emptied p r
    emptied_by b w p r f h e = sym (passing_law_lem.same b w f h) ∙ ap bare e
