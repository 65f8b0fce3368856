-- Which term a place has, and when a term is asked. Assumes nothing.
use Rattle.std.proofs.Common.{◌≡◌, ℕ, zero, suc, ◌+◌, ◌<◌, ◌≤◌, Bool, true, false, cond, not, ◌&&◌, T, eqb, leb, ◌⊎◌, List, [], ◌∷◌, map, length, get_or, drop, ℤ, Some, None, Option, sym, refl, ap, ◌∙◌, subst, ap₂, inl, inr, add-one, arith, ltb→lt, leb→le}
use Rattle.std.proofs.lemmas.List.{at_drop_more, at_drop_all}
use Rattle.std.proofs.lemmas.Bool.{eq-eqb, ne_eqb, cond-true, cond-false, and_left, and_right, and_from, not_from_true, not_from_false}
use Rattle.spans.specs.Bools.{both}
use Rattle.spans.specs.Amounts.{amount_size}
use Rattle.spans.specs.AmountKind.{amounts}
use Rattle.spans.specs.declared.amount.Amount.{Amount}
use Rattle.books.specs.Boards.{Among, Distinct, has, span_at, Full}
use Rattle.books.proofs.Places.{among_has}
use Rattle.books.proofs.Filters.{among_or_not}
use Rattle.rules.specs.SumTerms.{place_of, is_coefficient, term_test, terms_test, bound_test, sum_test}
use Rattle.rules.specs.SumRows.{blank}
use Rattle.rules.specs.Sums.{index_from, all_some, asked_in}
use Rattle.rules.specs.declared.sums.term.Term.{Term}

-- what a sum keeps to
pub record Fair (places : ℕ) (ts : List Term) : Type 0 where
  pub some : 1 ≤ length ts
  pub few : length ts ≤ 16
  pub good : T (terms_test places ts)

pub sum_fair : (places : ℕ) (bound : ℤ) (ts : List Term) → T (sum_test places bound ts) → Fair places ts
sum_fair places bound ts t =
    let s = both (bound_test bound && leb 1 (length ts) && leb (length ts) 16) (terms_test places ts) t in
    let r = both (bound_test bound && leb 1 (length ts)) (leb (length ts) 16) s.0 in
    let q = both (bound_test bound) (leb 1 (length ts)) r.0 in
    record { some = leb→le 1 (length ts) q.1; few = leb→le (length ts) 16 r.1; good = s.1 }

pub places_counted : (places : ℕ) (ts : List Term) → T (terms_test places ts) → (p : ℕ) → Among p (map place_of ts) → p < places
places_counted places [] t p m = absurd m
places_counted places (u ∷ ts) t p (inl e) =
    let here = (both (term_test places u) _ (both (term_test places u && _) (terms_test places ts) t).0).0 in
    subst (λ (n : ℕ). n < places) (sym e) (ltb→lt u.place places (both (is_coefficient u.coefficient) _ here).1)
places_counted places (u ∷ ts) t p (inr m) = places_counted places ts (both (term_test places u && _) (terms_test places ts) t).1 p m

pub places_once : (places : ℕ) (ts : List Term) → T (terms_test places ts) → Distinct (map place_of ts)
places_once places [] t = tt
places_once places (u ∷ ts) t =
    let s = both (term_test places u && not (has u.place (map place_of ts))) (terms_test places ts) t in
    let n = (both (term_test places u) (not (has u.place (map place_of ts))) s.0).1 in
    (λ m. clash (has u.place (map place_of ts)) n (among_has u.place (map place_of ts) m), places_once places ts s.1)
  where
    clash : (b : Bool) → T (not b) → T b → ⊥
    clash true n t = n
    clash false n t = t

-- ---- the term of a place

pub index_not : (n p : ℕ) (ts : List Term) (found : Option ℕ) → (Among p (map place_of ts) → ⊥) → index_from n p ts found ≡ found
index_not n p [] found d = refl
index_not n p (t ∷ ts) found d =
    index_not (suc n) p ts (cond (eqb t.place p) (Some n) found) (λ m. d (inr m))
    ∙ cond-false (eqb t.place p) (Some n) found (ne_eqb t.place p (λ e. d (inl (sym e))))

pub record Index (ts : List Term) (n p : ℕ) (found : Option ℕ) : Type 0 where
  pub at : ℕ
  pub within : at < length ts
  pub place : (get_or ts at blank).place ≡ p
  pub found_there : index_from n p ts found ≡ Some (n + at)

pub index_of : (n p : ℕ) (ts : List Term) (found : Option ℕ) → Among p (map place_of ts) → Index ts n p found
index_of n p [] found m = absurd m
index_of n p (t ∷ ts) found m = go (among_or_not p (map place_of ts)) m (λ later. index_of (suc n) p ts (cond (eqb t.place p) (Some n) found) later)
  where
    next : (n i : ℕ) → suc n + i ≡ n + suc i
    next n i = omega arith

    none : (n : ℕ) → n ≡ n + 0
    none n = omega arith

    go : Among p (map place_of ts) ⊎ (Among p (map place_of ts) → ⊥) → Among p (map place_of (t ∷ ts)) → (Among p (map place_of ts) → Index ts (suc n) p (cond (eqb t.place p) (Some n) found)) → Index (t ∷ ts) n p found
    go (inl later) m rest =
        let r = rest later in
        record { at = suc r.at; within = omega (arith, r.within); place = r.place; found_there = r.found_there ∙ ap Some (next n r.at) }
    go (inr never) (inl e) rest = record {
      at = 0;
      within = omega arith;
      place = sym e;
      found_there = index_not (suc n) p ts (cond (eqb t.place p) (Some n) found) never ∙ cond-true (eqb t.place p) (Some n) found (eq-eqb t.place p (sym e)) ∙ ap Some (none n);
    }
    go (inr never) (inr later) rest = absurd (never later)

-- a place stands once, so its term is the one that is found
index_at : (places n p : ℕ) (ts : List Term) (found : Option ℕ) (i : ℕ) → T (terms_test places ts) → i < length ts → (get_or ts i blank).place ≡ p → index_from n p ts found ≡ Some (n + i)
index_at places n p [] found i g h e = absurd (omega arith)
index_at places n p (t ∷ ts) found zero g h e =
    index_not (suc n) p ts (cond (eqb t.place p) (Some n) found) (λ m. (places_once places (t ∷ ts) g).0 (subst (λ (q : ℕ). Among q (map place_of ts)) (sym e) m))
    ∙ cond-true (eqb t.place p) (Some n) found (eq-eqb t.place p e)
    ∙ ap Some (none n)
  where
    none : (n : ℕ) → n ≡ n + 0
    none n = omega arith
index_at places n p (t ∷ ts) found (suc i) g h e =
    index_at places (suc n) p ts (cond (eqb t.place p) (Some n) found) i (both (term_test places t && _) (terms_test places ts) g).1 (omega arith) e
    ∙ ap Some (next n i)
  where
    next : (n i : ℕ) → suc n + i ≡ n + suc i
    next n i = omega arith

-- the index that is found, or one past all terms
abbrev pub index_or : ℕ → Option ℕ → ℕ
index_or n None = n
index_or n (Some i) = i

abbrev pub index_in : List Term → ℕ → ℕ
index_in ts p = index_or (length ts) (index_from 0 p ts None)

pub index_there : (places p : ℕ) (ts : List Term) (i : ℕ) → T (terms_test places ts) → i < length ts → (get_or ts i blank).place ≡ p → i ≡ index_in ts p
index_there places p ts i g h e = sym (ap (index_or (length ts)) (index_at places 0 p ts None i g h e) ∙ plain i)
  where
    plain : (i : ℕ) → 0 + i ≡ i
    plain i = omega arith

pub index_elsewhere : (p : ℕ) (ts : List Term) (i : ℕ) → i < length ts → ((get_or ts i blank).place ≡ p → ⊥) → i ≡ index_in ts p → ⊥
index_elsewhere p ts i h ne e = go (among_or_not p (map place_of ts))
  where
    go : Among p (map place_of ts) ⊎ (Among p (map place_of ts) → ⊥) → ⊥
    go (inl m) =
        let r = index_of 0 p ts None m in
        let z : index_in ts p ≡ 0 + r.at = ap (index_or (length ts)) r.found_there in
        let y : r.at ≡ i = omega (arith, z, e) in
        ne (subst (λ (k : ℕ). (get_or ts k blank).place ≡ p) y r.place)
    go (inr d) =
        let z : index_in ts p ≡ length ts = ap (index_or (length ts)) (index_not 0 p ts None d) in
        omega (arith, z, e, h)

-- ---- empty spans

pub all_some_lem : (places : ℕ) (ts : List Term) (b : List Amount) → ((p : ℕ) → Among p (map place_of ts) → p < places) → Full amounts places b → all_some ts b ≡ true
all_some_lem places [] b q f = refl
all_some_lem places (t ∷ ts) b q f =
    let some = f.some t.place (q t.place (inl refl)) in
    let size = amount_size (span_at amounts b t.place) in
    and_from (not (eqb size 0)) (all_some ts b) (not_from_false (eqb size 0) (ne_eqb size 0 (λ e. omega arith))) (all_some_lem places ts b (λ p m. q p (inr m)) f)

pub some_empty : (ts : List Term) (b : List Amount) (q : ℕ) → Among q (map place_of ts) → amount_size (span_at amounts b q) ≡ 0 → all_some ts b ≡ false
some_empty [] b q m e = absurd m
some_empty (t ∷ ts) b q (inl z) e =
    let size = amount_size (span_at amounts b t.place) in
    and_left (not (eqb size 0)) (all_some ts b) (not_from_true (eqb size 0) (eq-eqb size 0 (subst (λ (p : ℕ). amount_size (span_at amounts b p) ≡ 0) z e)))
some_empty (t ∷ ts) b q (inr m) e = and_right (not (eqb (amount_size (span_at amounts b t.place)) 0)) (all_some ts b) (some_empty ts b q m e)

-- on a board without an empty span the place's term is asked
pub asked_at : (places : ℕ) (ts : List Term) (b : List Amount) (p : ℕ) (r : Index ts 0 p None) → ((q : ℕ) → Among q (map place_of ts) → q < places) → Full amounts places b → asked_in ts p b ≡ Some r.at
asked_at places ts b p r q f = cond-true (all_some ts b) _ None (all_some_lem places ts b q f) ∙ r.found_there ∙ ap Some (plain r.at)
  where
    plain : (i : ℕ) → 0 + i ≡ i
    plain i = omega arith

pub asked_elsewhere : (ts : List Term) (b : List Amount) (p : ℕ) → (Among p (map place_of ts) → ⊥) → asked_in ts p b ≡ None
asked_elsewhere ts b p d = go (all_some ts b)
  where
    go : (e : Bool) → cond e (index_from 0 p ts None) None ≡ None
    go true = index_not 0 p ts None d
    go false = refl

pub asked_empty : (ts : List Term) (b : List Amount) (p q : ℕ) → Among q (map place_of ts) → amount_size (span_at amounts b q) ≡ 0 → asked_in ts p b ≡ None
asked_empty ts b p q m e = cond-false (all_some ts b) _ None (some_empty ts b q m e)

-- an asked term is one of the terms
pub asked_within : (ts : List Term) (b : List Amount) (p i : ℕ) → asked_in ts p b ≡ Some i → i < length ts
asked_within ts b p i e = go (among_or_not p (map place_of ts)) (all_some ts b) refl
  where
    plain : (i : ℕ) → 0 + i ≡ i
    plain i = omega arith

    go : Among p (map place_of ts) ⊎ (Among p (map place_of ts) → ⊥) → (t : Bool) → all_some ts b ≡ t → i < length ts
    go (inr d) t q = never (sym (asked_elsewhere ts b p d) ∙ e)
      where
        never : None ≡ Some i → i < length ts
        never z = let y : ◌≡◌ {A = ℕ} 0 1 = cc in absurd (omega arith)
    go (inl m) false q = never (sym (cond-false (all_some ts b) _ None q) ∙ e)
      where
        never : None ≡ Some i → i < length ts
        never z = let y : ◌≡◌ {A = ℕ} 0 1 = cc in absurd (omega arith)
    go (inl m) true q =
        let r = index_of 0 p ts None m in
        let z : Some i ≡ Some (0 + r.at) = sym e ∙ cond-true (all_some ts b) _ None q ∙ r.found_there in
        let y : i ≡ 0 + r.at = cc in
        omega (arith, r.within, y)

-- ---- the loop that looks for it

module _ (ts : List Term) (b : List Amount) (p i : ℕ) (h : i < length ts) where
  pub empty_here : amount_size (span_at amounts b (get_or ts i blank).place) ≡ 0 → all_some (drop i ts) b ≡ false
  empty_here e =
      let size = amount_size (span_at amounts b (get_or ts i blank).place) in
      at_drop_more (λ (l : List Term). all_some l b) ts i blank h ∙ and_left (not (eqb size 0)) _ (not_from_true (eqb size 0) (eq-eqb size 0 e))

  pub some_here : eqb (amount_size (span_at amounts b (get_or ts i blank).place)) 0 ≡ false → all_some (drop i ts) b ≡ all_some (drop (i + 1) ts) b
  some_here e = at_drop_more (λ (l : List Term). all_some l b) ts i blank h ∙ ap (λ (t : Bool). not t && all_some (drop (i + 1) ts) b) e

  pub index_here : (found new : Option ℕ) → new ≡ cond (eqb (get_or ts i blank).place p) (Some i) found → index_from i p (drop i ts) found ≡ index_from (i + 1) p (drop (i + 1) ts) new
  index_here found new e =
      at_drop_more (λ (l : List Term). index_from i p l found) ts i blank h
      ∙ ap₂ (λ (k : ℕ) (o : Option ℕ). index_from k p (drop (i + 1) ts) o) (sym (add-one i)) (sym e)

-- after all terms, what was found is the asked term
pub index_left : (ts : List Term) (b : List Amount) (p i : ℕ) (found : Option ℕ) → length ts ≤ i
    → all_some (drop i ts) b ≡ all_some ts b → index_from i p (drop i ts) found ≡ index_from 0 p ts None
    → (index_from 0 p ts None ≡ found) × (asked_in ts p b ≡ found)
index_left ts b p i found h some index =
    let all = sym some ∙ at_drop_all (λ (l : List Term). all_some l b) ts i h in
    let same = sym index ∙ at_drop_all (λ (l : List Term). index_from i p l found) ts i h in
    (same, cond-true (all_some ts b) (index_from 0 p ts None) None all ∙ same)
