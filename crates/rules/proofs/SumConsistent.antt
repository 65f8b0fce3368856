-- The answers of sums, bounds consistency and arc consistency: the proofs. Assumes nothing.
use Rattle.std.proofs.Common.{◌≡◌, ℕ, zero, suc, ◌+◌, ◌<◌, Bool, true, false, cond, ◌&&◌, T, eqb, ◌⊎◌, List, [], ◌∷◌, map, length, get_or, ℤ, pos, ◌+ℤ◌, ◌*ℤ◌, None, sym, refl, ap, ◌∙◌, subst, ap₂, inl, inr, arith}
use lib.Signed.{le_z, lt_z}
use Rattle.std.proofs.lemmas.Bool.{cond-true, cond-false, cond_both, eq-eqb, ne_eqb, eqb-true, cases_eq}
use Rattle.spans.specs.Bools.{both, join, alike}
use Rattle.spans.specs.Amounts.{amount_admits, amount_size}
use Rattle.spans.specs.AmountKind.{amounts}
use Rattle.spans.specs.declared.amount.Amount.{Amount}
use Rattle.books.specs.Boards.{Among, Distinct, span_at, number_at, Full, On}
use Rattle.books.specs.Settled.{Settled}
use Rattle.books.specs.Meaning.{Rule}
use Rattle.books.proofs.Filters.{among_or_not}
use Rattle.rules.specs.SumTerms.{place_of}
use Rattle.rules.specs.SumRows.{blank, boards_of, terms_of}
use Rattle.rules.specs.Sums.{total, product_in, sum_of, stands, others, least_on, greatest_on, least_product_of, greatest_product_of, low, high, coefficient_at, may_stay}
use Rattle.rules.specs.BookCounts.{place_count, rule_count}
use Rattle.rules.specs.SumBooks.{rule_of, sum_book_of}
use Rattle.rules.specs.RowBooks.{Calm}
use Rattle.rules.specs.SumIntervals.{projected}
use Rattle.rules.specs.SumConsistency.{place_of_term, FullFor, ExactLaw, BoundsConsistent, BoundsLaw, Inequality, ArcLaw, AllConsistent, SettledLaw}
use Rattle.rules.specs.declared.sums.term.Relation.{Relation}
use Rattle.rules.specs.declared.sums.term.Relation.TheVariants.{AtMost, AtLeast, Equal}
use Rattle.rules.specs.declared.sums.term.Term.{Term}
use Rattle.rules.specs.declared.sums.row.SumRow.{SumRow}
use Rattle.rules.proofs.SumTotals.{total_same, total_split, other_among, at_among, place_among, ends_admitted, least_under, least_reached, greatest_over, greatest_reached}
use Rattle.rules.proofs.SumIndexes.{Fair, sum_fair, places_counted, places_once, index_of}
use Rattle.rules.proofs.SumAnswers.{row_sum}
use Rattle.rules.proofs.SumLaws.{index, coefficient_good, answer_exact, sum_sound}
use Rattle.rules.proofs.RowLaws.{rule_at, own_rule, no_rule_lem}
use Rattle.rules.proofs.SumProjections.{may_projected, rounding}

-- a place has one term
pub one_term : (ts : List Term) → Distinct (map place_of ts) → (i j : ℕ) → i < length ts → j < length ts → (get_or ts i blank).place ≡ (get_or ts j blank).place → i ≡ j
one_term [] d i j h k e = absurd (omega arith)
one_term (t ∷ ts) d zero zero h k e = refl
one_term (t ∷ ts) d zero (suc j) h k e = absurd (d.0 (subst (λ (p : ℕ). Among p (map place_of ts)) (sym e) (place_among ts (get_or ts j blank) (at_among j ts (omega arith)))))
one_term (t ∷ ts) d (suc i) zero h k e = absurd (d.0 (subst (λ (p : ℕ). Among p (map place_of ts)) e (place_among ts (get_or ts i blank) (at_among i ts (omega arith)))))
one_term (t ∷ ts) d (suc i) (suc j) h k e = ap suc (one_term ts d.1 i j (omega arith) (omega arith) e)

module _ (row : SumRow) where
  ts : List Term
  ts = terms_of row

  fair : Fair row.places (terms_of row)
  fair = sum_fair row.places row.bound (terms_of row) (row_sum row)

  once : Distinct (map place_of (terms_of row))
  once = places_once row.places (terms_of row) fair.good

  pub kept_exactly : (i : ℕ) (b : List Amount) (x : ℤ) → i < length (terms_of row) → FullFor row b
      → amount_admits ((rule_of row).answer (place_of_term row i) b) x ≡ (amount_admits (span_at amounts b (place_of_term row i)) x && may_stay row.relation row.bound (terms_of row) i b x)
  kept_exactly i b x h f =
      let m = place_among (terms_of row) (get_or (terms_of row) i blank) (at_among i (terms_of row) h) in
      let r = index row.places row.relation row.bound (terms_of row) fair (place_of_term row i) m in
      answer_exact row.places row.relation row.bound (terms_of row) fair (place_of_term row i) m b x f
      ∙ ap (λ (k : ℕ). amount_admits (span_at amounts b (place_of_term row i)) x && may_stay row.relation row.bound (terms_of row) k b x) (one_term (terms_of row) once r.at i r.within h r.place)

  pub exact_law : ExactLaw row
  exact_law = record {
    kept = kept_exactly;
    least = λ a s h. (least_under a s, least_reached a s h);
    greatest = λ a s h. (greatest_over a s, greatest_reached a s h);
  }

  cut_to_lem : (i : ℕ) (b : List Amount) (x : ℤ) → i < length (terms_of row) → FullFor row b
      → amount_admits ((rule_of row).answer (place_of_term row i) b) x ≡ (amount_admits (span_at amounts b (place_of_term row i)) x && projected row.relation row.bound (terms_of row) i b x)
  cut_to_lem i b x h f =
      kept_exactly i b x h f
      ∙ ap (λ (t : Bool). amount_admits (span_at amounts b (place_of_term row i)) x && t) (may_projected row.relation row.bound (terms_of row) i b x (coefficient_good row.places row.relation row.bound (terms_of row) fair i h))

  calm_consistent : (b : List Amount) → FullFor row b → Calm amounts row.places (rule_of row) b → BoundsConsistent row b
  calm_consistent b f c i h x t =
      let p = place_of_term row i in
      let l = places_counted row.places (terms_of row) fair.good p (place_among (terms_of row) (get_or (terms_of row) i blank) (at_among i (terms_of row) h)) in
      let s = subst (λ (a : Amount). T (amount_admits a x)) (sym (c p l)) t in
      (both (amount_admits (span_at amounts b p) x) _ (subst T (cut_to_lem i b x h f) s)).1

  consistent_calm : (b : List Amount) → FullFor row b → BoundsConsistent row b → Calm amounts row.places (rule_of row) b
  consistent_calm b f c p l = go (among_or_not p (map place_of (terms_of row)))
    where
      same : (i : ℕ) → i < length (terms_of row) → (rule_of row).answer (place_of_term row i) b ≡ span_at amounts b (place_of_term row i)
      same i h = amounts.same _ _ (λ x. cut_to_lem i b x h f ∙ alike _ _ (λ t. (both (amount_admits (span_at amounts b (place_of_term row i)) x) _ t).0) (λ t. join (amount_admits (span_at amounts b (place_of_term row i)) x) _ t (c i h x t)))

      go : Among p (map place_of (terms_of row)) ⊎ (Among p (map place_of (terms_of row)) → ⊥) → (rule_of row).answer p b ≡ span_at amounts b p
      go (inl m) = let r = index_of 0 p (terms_of row) None m in subst (λ (q : ℕ). (rule_of row).answer q b ≡ span_at amounts b q) r.place (same r.at r.within)
      go (inr d) = (sum_sound row.places row.relation row.bound (terms_of row) fair).elsewhere p b l d f

  pub bounds_law : BoundsLaw row
  bounds_law = record { settled = λ b f. (calm_consistent b f, consistent_calm b f); cut = cut_to_lem; rounding = rounding }

-- ---- arc consistency

-- a number for each place of a board
placed : (ℕ → Amount → ℤ) → ℕ → List Amount → List ℤ
placed f n [] = []
placed f n (s ∷ b) = f n s ∷ placed f (suc n) b

length_placed : (f : ℕ → Amount → ℤ) (n : ℕ) (b : List Amount) → length (placed f n b) ≡ length b
unfolding placed
length_placed f n [] = refl
length_placed f n (s ∷ b) = ap suc (length_placed f (suc n) b)

at_placed : (f : ℕ → Amount → ℤ) (n : ℕ) (b : List Amount) (q : ℕ) → q < length b → number_at (placed f n b) q ≡ f (n + q) (span_at amounts b q)
unfolding placed
at_placed f n [] q h = absurd (omega arith)
at_placed f n (s ∷ b) zero h = ap (λ (k : ℕ). f k s) (none n)
  where
    none : (n : ℕ) → n ≡ n + 0
    none n = omega arith
at_placed f n (s ∷ b) (suc q) h = at_placed f (suc n) b q (omega arith) ∙ ap (λ (k : ℕ). f k (span_at amounts b q)) (next n q)
  where
    next : (n q : ℕ) → suc n + q ≡ n + suc q
    next n q = omega arith

-- the coefficient of a place
coefficient_of : List Term → ℕ → ℤ
coefficient_of [] q = pos 0
coefficient_of (t ∷ ts) q = cond (eqb t.place q) t.coefficient (coefficient_of ts q)

coefficient_is : (ts : List Term) → Distinct (map place_of ts) → (t : Term) → Among t ts → coefficient_of ts t.place ≡ t.coefficient
unfolding coefficient_of
coefficient_is [] d t m = absurd m
coefficient_is (u ∷ ts) d t (inl e) = cond-true (eqb u.place t.place) _ _ (eq-eqb u.place t.place (sym (ap place_of e))) ∙ sym (ap (λ (v : Term). v.coefficient) e)
coefficient_is (u ∷ ts) d t (inr m) =
    cond-false (eqb u.place t.place) _ _ (ne_eqb u.place t.place (λ e. d.0 (subst (λ (p : ℕ). Among p (map place_of ts)) (sym e) (place_among ts t m))))
    ∙ coefficient_is ts d.1 t m

-- the other terms have other places
other_places : (i : ℕ) (ts : List Term) → Distinct (map place_of ts) → i < length ts → (t : Term) → Among t (others i ts) → t.place ≡ (get_or ts i blank).place → ⊥
other_places i [] d h t m e = absurd (omega arith)
other_places zero (u ∷ ts) d h t m e = d.0 (subst (λ (p : ℕ). Among p (map place_of ts)) e (place_among ts t m))
other_places (suc i) (u ∷ ts) d h t (inl z) e =
    d.0 (subst (λ (p : ℕ). Among p (map place_of ts)) (sym e ∙ ap place_of z) (place_among ts (get_or ts i blank) (at_among i ts (omega arith))))
other_places (suc i) (u ∷ ts) d h t (inr m) e = other_places i ts d.1 (omega arith) t m e

-- the end of a span that has the least, or the greatest, product
least_end : ℤ → Amount → ℤ
least_end a s = cond (lt_z (pos 0) a) s.floor s.ceiling

greatest_end : ℤ → Amount → ℤ
greatest_end a s = cond (lt_z (pos 0) a) s.ceiling s.floor

least_end_lem : (a : ℤ) (s : Amount) → a *ℤ least_end a s ≡ least_product_of a s
unfolding least_end least_product_of
least_end_lem a s = go (lt_z (pos 0) a)
  where
    go : (t : Bool) → a *ℤ cond t s.floor s.ceiling ≡ cond t (a *ℤ s.floor) (a *ℤ s.ceiling)
    go true = refl
    go false = refl

greatest_end_lem : (a : ℤ) (s : Amount) → a *ℤ greatest_end a s ≡ greatest_product_of a s
unfolding greatest_end greatest_product_of
greatest_end_lem a s = go (lt_z (pos 0) a)
  where
    go : (t : Bool) → a *ℤ cond t s.ceiling s.floor ≡ cond t (a *ℤ s.ceiling) (a *ℤ s.floor)
    go true = refl
    go false = refl

Admitted : (ℤ → Amount → ℤ) → Type 0
Admitted end = (a : ℤ) (s : Amount) → 0 < amount_size s → T (amount_admits s (end a s))

least_end_admitted : Admitted least_end
unfolding Admitted least_end
least_end_admitted a s h = let e = ends_admitted s h in cond_both (lt_z (pos 0) a) s.floor s.ceiling (λ z. T (amount_admits s z)) (λ _. e.0) (λ _. e.1)

greatest_end_admitted : Admitted greatest_end
unfolding Admitted greatest_end
greatest_end_admitted a s h = let e = ends_admitted s h in cond_both (lt_z (pos 0) a) s.ceiling s.floor (λ z. T (amount_admits s z)) (λ _. e.1) (λ _. e.0)

-- a number at a place, and elsewhere the ends
module _ (places : ℕ) (ts : List Term) (once : Distinct (map place_of ts)) (counted : (p : ℕ) → Among p (map place_of ts) → p < places)
    (i : ℕ) (within : i < length ts) (b : List Amount) (full : Full amounts places b) (x : ℤ) (admitted : T (amount_admits (span_at amounts b (get_or ts i blank).place) x))
    (end : ℤ → Amount → ℤ) (good : Admitted end) where
  p : ℕ
  p = (get_or ts i blank).place

  choose : ℕ → Amount → ℤ
  choose q s = cond (eqb q p) x (end (coefficient_of ts q) s)

  support : List ℤ
  support = placed choose 0 b

  chosen : (q : ℕ) → q < places → number_at support q ≡ choose q (span_at amounts b q)
  unfolding support
  chosen q h = at_placed choose 0 b q (omega (arith, full.long)) ∙ ap (λ (k : ℕ). choose k (span_at amounts b q)) (plain q)
    where
      plain : (q : ℕ) → 0 + q ≡ q
      plain q = omega arith

  support_here : number_at support p ≡ x
  unfolding p choose
  support_here = chosen p (counted p (place_among ts (get_or ts i blank) (at_among i ts within))) ∙ cond-true (eqb p p) x _ (eq-eqb p p refl)

  support_on : On amounts places support b
  unfolding p choose Admitted support
  support_on = record {
    long = length_placed choose 0 b ∙ full.long;
    admitted = λ q h. subst (λ (z : ℤ). T (amount_admits (span_at amounts b q) z)) (sym (chosen q h)) (cond_both (eqb q p) x (end (coefficient_of ts q) (span_at amounts b q)) (λ z. T (amount_admits (span_at amounts b q) z))
        (λ e. subst (λ (k : ℕ). T (amount_admits (span_at amounts b k) x)) (sym (eqb-true q p e)) admitted)
        (λ e. good (coefficient_of ts q) (span_at amounts b q) (full.some q h)));
  }

  support_sum : sum_of ts support ≡ coefficient_at ts i *ℤ x +ℤ total (λ t. t.coefficient *ℤ end t.coefficient (span_at amounts b t.place)) (others i ts)
  unfolding p choose
  support_sum =
      total_split (product_in support) i ts within
      ∙ ap₂ ◌+ℤ◌ (ap (λ (z : ℤ). coefficient_at ts i *ℤ z) support_here)
      (total_same (product_in support) (λ t. t.coefficient *ℤ end t.coefficient (span_at amounts b t.place)) (others i ts) (λ t m.
      let n = other_among i ts t m in
      ap (λ (z : ℤ). t.coefficient *ℤ z)
      (chosen t.place (counted t.place (place_among ts t n))
      ∙ cond-false (eqb t.place p) x _ (ne_eqb t.place p (other_places i ts once within t m))
      ∙ ap (λ (z : ℤ). end z (span_at amounts b t.place)) (coefficient_is ts once t n))))

module _ (row : SumRow) (b : List Amount) (full : FullFor row b) (i : ℕ) (within : i < length (terms_of row)) (x : ℤ) (admitted : T (amount_admits (span_at amounts b (place_of_term row i)) x)) where
  supports : (relation : Relation) → Inequality relation → T (may_stay relation row.bound (terms_of row) i b x)
      → (h : List ℤ) × On amounts row.places h b × (number_at h (place_of_term row i) ≡ x) × T (stands relation (sum_of (terms_of row) h) row.bound)
  unfolding low high p
  supports AtMost q t =
      let ts = terms_of row in
      let n = row.places in
      let c = places_counted n ts (fair row).good in
      let d = once row in
      let sum = support_sum n ts d c i within b full x admitted least_end least_end_admitted
      ∙ ap (λ (z : ℤ). coefficient_at ts i *ℤ x +ℤ z) (total_same _ (least_on b) (others i ts) (λ u m. least_end_lem u.coefficient (span_at amounts b u.place))) in (
        support n ts d c i within b full x admitted least_end least_end_admitted,
        support_on n ts d c i within b full x admitted least_end least_end_admitted,
        support_here n ts d c i within b full x admitted least_end least_end_admitted,
        subst (λ (z : ℤ). T (le_z z row.bound)) (sym sum) t,
      )
  supports AtLeast q t =
      let ts = terms_of row in
      let n = row.places in
      let c = places_counted n ts (fair row).good in
      let d = once row in
      let sum = support_sum n ts d c i within b full x admitted greatest_end greatest_end_admitted
      ∙ ap (λ (z : ℤ). coefficient_at ts i *ℤ x +ℤ z) (total_same _ (greatest_on b) (others i ts) (λ u m. greatest_end_lem u.coefficient (span_at amounts b u.place))) in (
        support n ts d c i within b full x admitted greatest_end greatest_end_admitted,
        support_on n ts d c i within b full x admitted greatest_end greatest_end_admitted,
        support_here n ts d c i within b full x admitted greatest_end greatest_end_admitted,
        subst (λ (z : ℤ). T (le_z row.bound z)) (sym sum) t,
      )
  supports Equal q t = absurd q

pub arc_law : (row : SumRow) → ArcLaw row
arc_law row q b f c p m x t =
    let r = index_of 0 p (terms_of row) None m in
    let i = r.at in
    let a = subst (λ (k : ℕ). T (amount_admits (span_at amounts b k) x)) (sym r.place) t in
    let stay = subst T (sym (may_projected row.relation row.bound (terms_of row) i b x (coefficient_good row.places row.relation row.bound (terms_of row) (fair row) i r.within))) (c i r.within x a) in
    let s = supports row b f i r.within x a row.relation q stay in
    (s.0, s.1, subst (λ (k : ℕ). number_at s.0 k ≡ x) r.place s.2, s.3)

-- ---- whole books

first_row : (rows : List SumRow) (r : ℕ) → r < length rows → SumRow
first_row [] r h = absurd (omega arith)
first_row (row ∷ rows) r h = row

pub settled_law : (places : ℕ) (rows : List SumRow) → SettledLaw places rows
settled_law places rows b = (consistent, settled)
  where
    n : ℕ
    n = place_count places

    consistent : Settled amounts (sum_book_of places rows) b → Full amounts (place_count places) b × AllConsistent (place_count places) (rule_count (length rows)) rows b
    consistent s = (
      s.full,
      λ r d h e.
          let row = get_or rows r d in
          let same = own_rule amounts boards_of rule_of (place_count places) rows r d (omega arith) e in
          calm_consistent row b (subst (λ (k : ℕ). Full amounts k b) (sym e) s.full) (λ p l. ap (λ (rule : Rule Amount). rule.answer p b) (sym same) ∙ s.calm r p h (subst (λ (k : ℕ). p < k) e l)),
    )

    settled : Full amounts (place_count places) b × AllConsistent (place_count places) (rule_count (length rows)) rows b → Settled amounts (sum_book_of places rows) b
    settled z = record { full = z.0; calm = λ r p h l. each r p h l (first_row rows r (omega arith)) }
      where
        each : (r p : ℕ) → r < rule_count (length rows) → p < place_count places → SumRow → (rule_at amounts boards_of rule_of (place_count places) rows r).answer p b ≡ span_at amounts b p
        each r p h l d = go (cases_eq (get_or rows r d).places (place_count places))
          where
            go : ((get_or rows r d).places ≡ place_count places) ⊎ ((get_or rows r d).places ≡ place_count places → ⊥) → (rule_at amounts boards_of rule_of (place_count places) rows r).answer p b ≡ span_at amounts b p
            go (inl e) =
                ap (λ (rule : Rule Amount). rule.answer p b) (own_rule amounts boards_of rule_of (place_count places) rows r d (omega arith) e)
                ∙ consistent_calm (get_or rows r d) b (subst (λ (k : ℕ). Full amounts k b) (sym e) z.0) (z.1 r d h e) p (subst (λ (k : ℕ). p < k) (sym e) l)
            go (inr e) = ap (λ (rule : Rule Amount). rule.answer p b) (no_rule_lem amounts boards_of rule_of (place_count places) rows r d (omega arith) e)
