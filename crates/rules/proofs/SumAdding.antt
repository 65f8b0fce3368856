-- Adding what terms come to: totals, and the turns of the loops that add. Assumes nothing.
use Rattle.std.proofs.Common.{◌≡◌, ℕ, zero, suc, ◌+◌, ◌*◌, ◌<◌, ◌≤◌, Bool, true, false, cond, ◌&&◌, T, eqb, List, [], ◌∷◌, length, get_or, drop, ℤ, pos, ◌+ℤ◌, ◌*ℤ◌, sym, refl, ap, ◌∙◌, subst, ap₂, add-one, arith, ltb→lt, w32, w64, SFits, to_z, of_z}
use lib.IntN.{+ℤ_idl, +ℤ_idr, +ℤ_assoc}
use lib.Signed.{lt_z}
use Rattle.std.proofs.lemmas.List.{at_drop_more, at_drop_all, get_or_default}
use Rattle.std.proofs.lemmas.Int.{ints, to_z-of_z}
use Rattle.std.proofs.lemmas.Bool.{cond-true, cond-false, eq-eqb, ne_eqb}
use Rattle.spans.specs.Bools.{both}
use Rattle.spans.specs.Numbers.{million}
use Rattle.spans.specs.AmountKind.{amounts}
use Rattle.spans.specs.declared.amount.Amount.{Amount}
use Rattle.spans.proofs.Amounting.{reach}
use Rattle.books.specs.Boards.{span_at}
use Rattle.rules.specs.SumTerms.{is_coefficient, term_test, terms_test}
use Rattle.rules.specs.SumRows.{blank}
use Rattle.rules.specs.Sums.{total, others, least_product_of, greatest_product_of}
use Rattle.rules.specs.declared.sums.term.Term.{Term}
use Rattle.rules.proofs.SumProducts.{coefficient_is, Near, product_near}

-- what each of the terms keeps to
pub term_at : (places : ℕ) (ts : List Term) (i : ℕ) → i < length ts → T (terms_test places ts) → T (term_test places (get_or ts i blank))
term_at places [] i h t = absurd (omega arith)
term_at places (u ∷ ts) zero h t = (both (term_test places u) _ (both (term_test places u && _) (terms_test places ts) t).0).0
term_at places (u ∷ ts) (suc i) h t = term_at places ts i (omega arith) (both (term_test places u && _) (terms_test places ts) t).1

pub place_at : (places : ℕ) (ts : List Term) (i : ℕ) → i < length ts → T (terms_test places ts) → (get_or ts i blank).place < places
place_at places ts i h t = ltb→lt _ places (both (is_coefficient (get_or ts i blank).coefficient) _ (term_at places ts i h t)).1

pub coefficient_at_lem : (places : ℕ) (ts : List Term) (i : ℕ) → i < length ts → T (terms_test places ts) → T (is_coefficient (get_or ts i blank).coefficient)
coefficient_at_lem places ts i h t = (both (is_coefficient (get_or ts i blank).coefficient) _ (term_at places ts i h t)).0

module _ (of : Term → ℤ) where
  -- the total of terms that are counted from n on, without the asked one
  unfoldable pub total_from : ℕ → ℕ → List Term → ℤ
  total_from asked n [] = pos 0
  total_from asked n (t ∷ ts) = cond (eqb n asked) (pos 0) (of t) +ℤ total_from asked (suc n) ts

  past : (asked n : ℕ) (ts : List Term) → asked < n → total_from asked n ts ≡ total of ts
  unfolding total_from total
  past asked n [] h = refl
  past asked n (t ∷ ts) h = ap₂ ◌+ℤ◌ (cond-false (eqb n asked) (pos 0) (of t) (ne_eqb n asked (λ e. omega arith))) (past asked (suc n) ts (omega arith))

  ahead : (i n : ℕ) (ts : List Term) → total_from (n + i) n ts ≡ total of (others i ts)
  unfolding total_from total
  ahead i n [] = refl
  ahead zero n (t ∷ ts) = ap₂ ◌+ℤ◌ (cond-true (eqb n (n + zero)) (pos 0) (of t) (eq-eqb n (n + zero) (omega arith))) (past (n + zero) (suc n) ts (omega arith)) ∙ +ℤ_idl (total of ts)
  ahead (suc i) n (t ∷ ts) =
      ap₂ ◌+ℤ◌ (cond-false (eqb n (n + suc i)) (pos 0) (of t) (ne_eqb n (n + suc i) (λ e. omega arith)))
      (ap (λ (k : ℕ). total_from k (suc n) ts) (next n i) ∙ ahead i (suc n) ts)
    where
      next : (n i : ℕ) → n + suc i ≡ suc n + i
      next n i = omega arith

  -- the terms before the index i are added
  pub record Adding (asked : ℕ) (ts : List Term) (i : ℕ) (sum : ℤ) : Type 0 where
    pub left : sum +ℤ total_from asked i (drop i ts) ≡ total of (others asked ts)
    pub near : Near (10_000_000_000 * i) sum

  pub adding_none : (asked : ℕ) (ts : List Term) → Adding asked ts 0 (pos 0)
  adding_none asked ts = record {
    left = +ℤ_idl (total_from asked 0 ts) ∙ ap (λ (k : ℕ). total_from k 0 ts) (from_none asked) ∙ ahead asked 0 ts;
    near = record { low = omega (arith, ints); high = omega (arith, ints) };
  }
    where
      from_none : (asked : ℕ) → asked ≡ 0 + asked
      from_none asked = omega arith

  module _ (asked : ℕ) (ts : List Term) (i : ℕ) (sum : ℤ) (before : Adding asked ts i sum) (h : i < length ts) where
    step : (z : ℤ) → cond (eqb i asked) (pos 0) (of (get_or ts i blank)) ≡ z → (sum +ℤ z) +ℤ total_from asked (i + 1) (drop (i + 1) ts) ≡ total of (others asked ts)
    unfolding total_from
    step z e =
        let rest = total_from asked (i + 1) (drop (i + 1) ts) in
        let one : total_from asked i (drop i ts) ≡ z +ℤ rest = at_drop_more (total_from asked i) ts i blank h ∙ ap₂ ◌+ℤ◌ e (ap (λ (k : ℕ). total_from asked k (drop (i + 1) ts)) (sym (add-one i))) in
        +ℤ_assoc sum z rest ∙ ap (λ (y : ℤ). sum +ℤ y) (sym one) ∙ before.left

    pub adding_pass : i ≡ asked → Adding asked ts (i + 1) sum
    adding_pass e = record {
      left = ap (λ (y : ℤ). y +ℤ total_from asked (i + 1) (drop (i + 1) ts)) (sym (+ℤ_idr sum)) ∙ step (pos 0) (cond-true (eqb i asked) _ _ (eq-eqb i asked e));
      near = record { low = omega (arith, ints, before.near.low); high = omega (arith, ints, before.near.high) };
    }

    pub adding_more : (i ≡ asked → ⊥) → (z new : ℤ) → z ≡ of (get_or ts i blank) → Near 10_000_000_000 z → new ≡ sum +ℤ z → Adding asked ts (i + 1) new
    adding_more ne z new e n p = record {
      left = ap (λ (y : ℤ). y +ℤ total_from asked (i + 1) (drop (i + 1) ts)) p ∙ step z (cond-false (eqb i asked) _ _ (ne_eqb i asked ne) ∙ sym e);
      near = record { low = omega (arith, ints, before.near.low, n.low, p); high = omega (arith, ints, before.near.high, n.high, p) };
    }

  pub adding_all : (asked : ℕ) (ts : List Term) (i : ℕ) (sum : ℤ) → Adding asked ts i sum → length ts ≤ i → sum ≡ total of (others asked ts)
  unfolding total_from
  adding_all asked ts i sum a h = sym (+ℤ_idr sum) ∙ ap (λ (y : ℤ). sum +ℤ y) (sym (at_drop_all (total_from asked i) ts i h)) ∙ a.left

-- a product of a coefficient and a bound of a span
near_ends : (a : ℤ) (s : Amount) → T (is_coefficient a) → Near 10_000_000_000 (a *ℤ s.floor) × Near 10_000_000_000 (a *ℤ s.ceiling)
near_ends a s t =
    let k = coefficient_is a t in
    let r = reach s in
    let n : Near 10_000 a = record { low = k.low; high = k.high } in
    (product_near 10_000 million a s.floor n (record { low = r.low; high = r.floor_high }), product_near 10_000 million a s.ceiling n (record { low = r.ceiling_low; high = r.high }))

one_of : (e : Bool) (x y : ℤ) → Near 10_000_000_000 x → Near 10_000_000_000 y → Near 10_000_000_000 (cond e x y)
one_of true x y p q = p
one_of false x y p q = q

pub least_near : (a : ℤ) (s : Amount) → T (is_coefficient a) → Near 10_000_000_000 (least_product_of a s)
unfolding least_product_of
least_near a s t = let n = near_ends a s t in one_of (lt_z (pos 0) a) _ _ n.0 n.1

pub greatest_near : (a : ℤ) (s : Amount) → T (is_coefficient a) → Near 10_000_000_000 (greatest_product_of a s)
unfolding greatest_product_of
greatest_near a s t = let n = near_ends a s t in one_of (lt_z (pos 0) a) _ _ n.1 n.0

-- ---- how products are computed

far_fits : (z : ℤ) → Near 4_611_686_018_427_387_904 z → SFits w64 z
far_fits z n = omega (arith, ints, n.low, n.high)

pub product_back : (a f : ℤ) → SFits w32 a → SFits w32 f → to_z w64 (of_z w64 (to_z w64 (of_z w64 (to_z w32 (of_z w32 a))) *ℤ to_z w64 (of_z w64 (to_z w32 (of_z w32 f))))) ≡ a *ℤ f
product_back a f p q =
    let a-is : to_z w64 (of_z w64 (to_z w32 (of_z w32 a))) ≡ a = omega (arith, ints) in
    let f-is : to_z w64 (of_z w64 (to_z w32 (of_z w32 f))) ≡ f = omega (arith, ints) in
    let n : Near 2_147_483_648 a = record { low = omega (arith, ints); high = omega (arith, ints) } in
    let m : Near 2_147_483_648 f = record { low = omega (arith, ints); high = omega (arith, ints) } in
    let k = product_near 2_147_483_648 2_147_483_648 a f n m in
    let fits : SFits w64 (a *ℤ f) = far_fits (a *ℤ f) k in
    ap (λ (z : ℤ). to_z w64 (of_z w64 z)) (ap₂ ◌*ℤ◌ a-is f-is) ∙ to_z-of_z w64 (a *ℤ f) fits

pub by_sign : (a : ℤ) (e : Bool) → SFits w32 a → lt_z (pos 0) (to_z w32 (of_z w32 a)) ≡ e → lt_z (pos 0) a ≡ e
by_sign a e p t = let a-is : a ≡ to_z w32 (of_z w32 a) = omega (arith, ints) in ap (lt_z (pos 0)) a-is ∙ t

-- the product of a term, as it is computed on a board
module _ (b : List Amount) (t : Term) (k : T (is_coefficient t.coefficient)) (h : t.place < length b) where
  pub fits_back : to_z w32 (of_z w32 t.coefficient) ≡ t.coefficient
  fits_back = let c = coefficient_is t.coefficient k in omega (arith, ints, c.low, c.high)

  pub requires_back : T (is_coefficient (to_z w32 (of_z w32 t.coefficient)))
  requires_back = subst (λ (z : ℤ). T (is_coefficient z)) (sym fits_back) k

  pub product_on : (f : ℤ → Amount → ℤ) (s : Amount) (z : ℤ) → s ≡ get_or b t.place s → z ≡ f (to_z w32 (of_z w32 t.coefficient)) s → z ≡ f t.coefficient (span_at amounts b t.place)
  product_on f s z e p = p ∙ ap₂ f fits_back (e ∙ get_or_default b t.place s amounts.none h)
