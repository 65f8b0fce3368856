-- How the answer of a sum is computed. Assumes nothing.
use Rattle.std.proofs.Common.{◌≡◌, ℕ, zero, suc, ◌*◌, ◌<◌, ◌≤◌, ◌&&◌, T, leb, List, [], ◌∷◌, length, get_or, ℤ, pos, ◌-ℤ◌, neg_ℤ, ◌≤ℤ◌, Some, None, Option, sym, refl, ap, ◌∙◌, subst, ap₂, inl, inr, arith, w32, w64, SFits, to_z, of_z}
use lib.Signed.{le_z, le_z_yes}
use Rattle.std.proofs.lemmas.List.{get_or_default}
use Rattle.std.proofs.lemmas.Int.{ints}
use Rattle.spans.specs.Bools.{both}
use Rattle.spans.specs.AmountKind.{amounts}
use Rattle.spans.specs.declared.amount.Amount.{Amount}
use Rattle.books.specs.Boards.{Among, span_at}
use Rattle.rules.specs.SumTerms.{is_coefficient, term_test, terms_test, bound_test, sum_test}
use Rattle.rules.specs.SumRows.{blank, terms_of}
use Rattle.rules.specs.Sums.{total, others, least_on, greatest_on, low, high, asked_in, answered, coefficient_at, cut, keep_at_least, keep_at_most}
use Rattle.rules.specs.SumPasses.{passed}
use Rattle.rules.specs.declared.sums.adding.Others.{Others}
use Rattle.rules.specs.declared.sums.term.Relation.{Relation}
use Rattle.rules.specs.declared.sums.term.Relation.TheVariants.{AtMost, AtLeast}
use Rattle.rules.specs.declared.sums.term.Term.{Term}
use Rattle.rules.specs.declared.sums.row.SumRow.{SumRow}
use Rattle.rules.proofs.SumProducts.{Near}
use Rattle.rules.proofs.SumAdding.{least_near, greatest_near, place_at, coefficient_at_lem, fits_back, requires_back}
use Rattle.rules.proofs.SumTotals.{other_among}
use Rattle.rules.proofs.SumIndexes.{sum_fair, asked_within}

-- what a row holds
pub row_sum : (row : SumRow) → T (sum_test row.places row.bound (terms_of row))
row_sum row = row.ok

pub sum_bound : (places : ℕ) (bound : ℤ) (ts : List Term) → T (sum_test places bound ts) → T (bound_test bound)
sum_bound places bound ts t =
    let s = both (bound_test bound && leb 1 (length ts) && leb (length ts) 16) (terms_test places ts) t in
    let r = both (bound_test bound && leb 1 (length ts)) (leb (length ts) 16) s.0 in
    (both (bound_test bound) (leb 1 (length ts)) r.0).0

pub bound_near : (bound : ℤ) → T (bound_test bound) → Near 1_000_000_000_000 bound
bound_near bound t = let s = both (le_z (neg_ℤ (pos 1_000_000_000_000)) bound) (le_z bound (pos 1_000_000_000_000)) t in record { low = le_z_yes s.0; high = le_z_yes s.1 }

pub coefficient_among : (places : ℕ) (ts : List Term) → T (terms_test places ts) → (t : Term) → Among t ts → T (is_coefficient t.coefficient)
coefficient_among places [] g t m = absurd m
coefficient_among places (u ∷ ts) g t (inl e) =
    subst (λ (x : Term). T (is_coefficient x.coefficient)) (sym e) (both (is_coefficient u.coefficient) _ (both (term_test places u) _ (both (term_test places u && _) (terms_test places ts) g).0).0).0
coefficient_among places (u ∷ ts) g t (inr m) = coefficient_among places ts (both (term_test places u && _) (terms_test places ts) g).1 t m

-- how far totals lie from 0
total_near : (f : Term → ℤ) (ts : List Term) → ((t : Term) → Among t ts → Near 10_000_000_000 (f t)) → Near (10_000_000_000 * length ts) (total f ts)
unfolding total
total_near f [] n = record { low = omega (arith, ints); high = omega (arith, ints) }
total_near f (t ∷ ts) n =
    let here = n t (inl refl) in
    let rest = total_near f ts (λ u m. n u (inr m)) in
    record { low = omega (arith, ints, here.low, rest.low); high = omega (arith, ints, here.high, rest.high) }

others_fewer : (i : ℕ) (ts : List Term) → length (others i ts) ≤ length ts
others_fewer i [] = omega arith
others_fewer zero (t ∷ ts) = omega arith
others_fewer (suc i) (t ∷ ts) = omega (arith, others_fewer i ts)

module _ (places : ℕ) (ts : List Term) (g : T (terms_test places ts)) (few : length ts ≤ 16) (i : ℕ) (b : List Amount) where
  near : (f : Term → ℤ) → ((t : Term) → T (is_coefficient t.coefficient) → Near 10_000_000_000 (f t)) → Near 160_000_000_000 (total f (others i ts))
  near f n =
      let k = total_near f (others i ts) (λ t m. n t (coefficient_among places ts g t (other_among i ts t m))) in
      let l = others_fewer i ts in
      record { low = omega (arith, ints, k.low); high = omega (arith, ints, k.high) }

  pub low_near : Near 160_000_000_000 (low ts i b)
  unfolding low
  low_near = near (least_on b) (λ t k. least_near t.coefficient _ k)

  pub high_near : Near 160_000_000_000 (high ts i b)
  unfolding high
  high_near = near (greatest_on b) (λ t k. greatest_near t.coefficient _ k)

-- what one pass found, if it found a term
pub passed_some : (ts : List Term) (b : List Amount) (o : Option ℕ) (w : Others) → passed ts b o ≡ Some w
    → (o ≡ Some w.asked) × (w.low ≡ low ts w.asked b) × (w.high ≡ high ts w.asked b)
passed_some ts b None w e = let y : ◌≡◌ {A = ℕ} 0 1 = cc in absurd (omega arith)
passed_some ts b (Some i) w e =
    let v : Others = record { asked = i; low = low ts i b; high = high ts i b } in
    let same : v ≡ w = some_same v w e in
    let at = ap (λ (u : Others). u.asked) same in (
      ap Some at,
      sym (ap (λ (u : Others). u.low) same) ∙ ap (λ (k : ℕ). low ts k b) at,
      sym (ap (λ (u : Others). u.high) same) ∙ ap (λ (k : ℕ). high ts k b) at,
    )
  where
    some_same : (v w : Others) → Some v ≡ Some w → v ≡ w
    some_same v w e = cc

-- the bound less a total, as it is computed
abbrev pub rest : ℤ → ℤ → ℤ
rest bound x = to_z w64 (of_z w64 (to_z w64 (of_z w64 bound) -ℤ to_z w64 (of_z w64 x)))

pub record Rest (bound x : ℤ) : Type 0 where
  pub fits : SFits w64 (to_z w64 (of_z w64 bound) -ℤ to_z w64 (of_z w64 x))
  pub over : neg_ℤ (pos 2_000_000_000_000) ≤ℤ rest bound x
  pub under : rest bound x ≤ℤ pos 2_000_000_000_000
  pub is : rest bound x ≡ bound -ℤ x

rest_of : (bound x : ℤ) → Near 1_000_000_000_000 bound → Near 160_000_000_000 x → Rest bound x
rest_of bound x n k = record {
  fits = omega (arith, ints, n.low, n.high, k.low, k.high);
  over = omega (arith, ints, n.low, n.high, k.low, k.high);
  under = omega (arith, ints, n.low, n.high, k.low, k.high);
  is = omega (arith, ints, n.low, n.high, k.low, k.high);
}

-- what a row gives to the pass over its terms
module _ (row : SumRow) (b : List Amount) (ts : List Term) (e : ts ≡ terms_of row) (whole : row.places ≡ length b) where
  pub row_terms : T (terms_test (length b) ts) × (length ts ≤ 16)
  row_terms =
      let fair = sum_fair row.places row.bound (terms_of row) (row_sum row) in (
        subst (λ (l : List Term). T (terms_test (length b) l)) (sym e) (subst (λ (n : ℕ). T (terms_test n (terms_of row))) whole fair.good),
        subst (λ (l : List Term). length l ≤ 16) (sym e) fair.few,
      )

  -- what the steps after the pass ask for
  pub record Ready (bound : ℤ) (p : ℕ) (w : Others) : Type 0 where
    pub asked : asked_in (terms_of row) p b ≡ Some w.asked
    pub within : w.asked < length ts
    pub coefficient : T (is_coefficient (to_z w32 (of_z w32 (get_or ts w.asked blank).coefficient)))
    pub below : Rest bound w.low
    pub above : Rest bound w.high
    pub under : (s : Amount) → keep_at_most (to_z w32 (of_z w32 (get_or ts w.asked blank).coefficient)) (rest bound w.low) s ≡ cut AtMost row.bound (terms_of row) w.asked b s
    pub over : (s : Amount) → keep_at_least (to_z w32 (of_z w32 (get_or ts w.asked blank).coefficient)) (rest bound w.high) s ≡ cut AtLeast row.bound (terms_of row) w.asked b s

  pub ready : (bound : ℤ) (p : ℕ) (w : Others) (found : Option Others) → bound ≡ row.bound → found ≡ passed ts b (asked_in ts p b) → found ≡ Some w → Ready bound p w
  ready bound p w found f g h =
      let r = passed_some ts b (asked_in ts p b) w (sym g ∙ h) in
      let i = w.asked in
      let t = get_or ts i blank in
      let inside = asked_within ts b p i r.0 in
      let k = coefficient_at_lem (length b) ts i inside row_terms.0 in
      let near = subst (Near 1_000_000_000_000) (sym f) (bound_near row.bound (sum_bound row.places row.bound (terms_of row) (row_sum row))) in
      let l = rest_of bound w.low near (subst (Near 160_000_000_000) (sym r.1) (low_near (length b) ts row_terms.0 row_terms.1 i b)) in
      let m = rest_of bound w.high near (subst (Near 160_000_000_000) (sym r.2) (high_near (length b) ts row_terms.0 row_terms.1 i b)) in
      let place = place_at (length b) ts i inside row_terms.0 in
      let a-is = fits_back b t k place ∙ ap (λ (x : List Term). coefficient_at x i) e in
      record {
        asked = ap (λ (x : List Term). asked_in x p b) (sym e) ∙ r.0;
        within = inside;
        coefficient = requires_back b t k place;
        below = l;
        above = m;
        under = λ s. ap₂ (λ (a x : ℤ). keep_at_most a x s) a-is (l.is ∙ ap₂ ◌-ℤ◌ f (r.1 ∙ ap (λ (x : List Term). low x i b) e));
        over = λ s. ap₂ (λ (a x : ℤ). keep_at_least a x s) a-is (m.is ∙ ap₂ ◌-ℤ◌ f (r.2 ∙ ap (λ (x : List Term). high x i b) e));
      }

-- the answer is the cut at the term that was found
pub answer_is : (row : SumRow) (b : List Amount) (p i : ℕ) (relation : Relation) (s r : Amount) → asked_in (terms_of row) p b ≡ Some i → row.relation ≡ relation
    → s ≡ get_or b p s → p < length b → r ≡ cut relation row.bound (terms_of row) i b s
    → r ≡ answered row.relation row.bound (terms_of row) b (span_at amounts b p) (asked_in (terms_of row) p b)
answer_is row b p i relation s r asked same e h q =
    q
    ∙ ap₂ (λ (x : Relation) (y : Amount). cut x row.bound (terms_of row) i b y) (sym same) (e ∙ get_or_default b p s amounts.none h)
    ∙ ap (answered row.relation row.bound (terms_of row) b (span_at amounts b p)) (sym asked)
