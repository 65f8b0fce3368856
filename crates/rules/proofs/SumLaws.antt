-- Sums keep the laws of rules. Assumes nothing.
use Rattle.std.proofs.Common.{◌≡◌, ℕ, ◌+◌, ◌<◌, ◌≤◌, Bool, true, false, ◌&&◌, T, List, [], ◌∷◌, map, length, get_or, ℤ, ◌+ℤ◌, ◌-ℤ◌, ◌*ℤ◌, ◌≤ℤ◌, Some, None, Option, sym, refl, ap, ◌∙◌, subst, ap₂, inl, arith}
use lib.Signed.{le_z, le_z_yes}
use Rattle.std.proofs.lemmas.List.{length-map}
use Rattle.std.proofs.lemmas.Int.{ints}
use Rattle.spans.specs.Bools.{both, join, alike}
use Rattle.spans.specs.Amounts.{amount_admits}
use Rattle.spans.specs.AmountKind.{amounts}
use Rattle.spans.specs.declared.amount.Amount.{Amount}
use Rattle.books.specs.Boards.{Among, span_at, number_at, Full, Inside, On}
use Rattle.books.specs.Meaning.{Sound}
use Rattle.books.proofs.Filters.{Filter, filter_sound, one_number}
use Rattle.rules.specs.SumTerms.{place_of}
use Rattle.rules.specs.SumRows.{blank, terms_of}
use Rattle.rules.specs.Sums.{total, product_in, sum_of, stands, others, least_on, greatest_on, least_product_of, greatest_product_of, low, high, coefficient_at, keep_at_most, cut, may_stay, index_from, answered, sum_rule}
use Rattle.rules.specs.SumBooks.{rule_of}
use Rattle.rules.specs.declared.sums.term.Relation.{Relation}
use Rattle.rules.specs.declared.sums.term.Relation.TheVariants.{AtMost, AtLeast, Equal}
use Rattle.rules.specs.declared.sums.term.Term.{Term}
use Rattle.rules.specs.declared.sums.row.SumRow.{SumRow}
use Rattle.rules.proofs.SumProducts.{Coefficient, coefficient_is}
use Rattle.rules.proofs.SumCutting.{at_most_exact, at_least_exact}
use Rattle.rules.proofs.SumTotals.{total_mono, total_same, total_split, other_among, at_among, place_among, least_under, least_reached, least_wider, greatest_over, greatest_reached, greatest_wider}
use Rattle.rules.proofs.SumIndexes.{Fair, sum_fair, places_counted, places_once, Index, index_of, asked_at, asked_elsewhere, asked_empty}
use Rattle.rules.proofs.SumAnswers.{coefficient_among, row_sum}

-- ---- what is cut from a span

shift_under : (p l b : ℤ) → le_z p (b -ℤ l) ≡ le_z (p +ℤ l) b
shift_under p l b = alike _ _ (λ t. (over (le_z_yes t)).le) (λ t. (under (le_z_yes t)).le)
  where
    over : p ≤ℤ (b -ℤ l) → (p +ℤ l) ≤ℤ b
    over h = omega (arith, ints)

    under : (p +ℤ l) ≤ℤ b → p ≤ℤ (b -ℤ l)
    under h = omega (arith, ints)

shift_over : (p l b : ℤ) → le_z (b -ℤ l) p ≡ le_z b (p +ℤ l)
shift_over p l b = alike _ _ (λ t. (over (le_z_yes t)).le) (λ t. (under (le_z_yes t)).le)
  where
    over : (b -ℤ l) ≤ℤ p → b ≤ℤ (p +ℤ l)
    over h = omega (arith, ints)

    under : b ≤ℤ (p +ℤ l) → (b -ℤ l) ≤ℤ p
    under h = omega (arith, ints)

and_assoc : (s a b : Bool) → ((s && a) && b) ≡ (s && (a && b))
and_assoc true a b = refl
and_assoc false a b = refl

-- the numbers left of a span are those that may stay
pub cut_exact : (relation : Relation) (bound : ℤ) (ts : List Term) (i : ℕ) (b : List Amount) (s : Amount) (x : ℤ) → Coefficient (coefficient_at ts i)
    → amount_admits (cut relation bound ts i b s) x ≡ (amount_admits s x && may_stay relation bound ts i b x)
cut_exact AtMost bound ts i b s x c =
    at_most_exact (coefficient_at ts i) (bound -ℤ low ts i b) s x c ∙ ap (λ (t : Bool). amount_admits s x && t) (shift_under (coefficient_at ts i *ℤ x) (low ts i b) bound)
cut_exact AtLeast bound ts i b s x c =
    at_least_exact (coefficient_at ts i) (bound -ℤ high ts i b) s x c ∙ ap (λ (t : Bool). amount_admits s x && t) (shift_over (coefficient_at ts i *ℤ x) (high ts i b) bound)
cut_exact Equal bound ts i b s x c =
    at_least_exact (coefficient_at ts i) (bound -ℤ high ts i b) (keep_at_most (coefficient_at ts i) (bound -ℤ low ts i b) s) x c
    ∙ ap₂ ◌&&◌ (at_most_exact (coefficient_at ts i) (bound -ℤ low ts i b) s x c ∙ ap (λ (t : Bool). amount_admits s x && t) (shift_under (coefficient_at ts i *ℤ x) (low ts i b) bound)) (shift_over (coefficient_at ts i *ℤ x) (high ts i b) bound)
    ∙ and_assoc (amount_admits s x) (le_z (coefficient_at ts i *ℤ x +ℤ low ts i b) bound) (le_z bound (coefficient_at ts i *ℤ x +ℤ high ts i b))

-- ---- low and high

module _ (places : ℕ) (ts : List Term) (counted : (p : ℕ) → Among p (map place_of ts) → p < places) (i : ℕ) where
  here : (t : Term) → Among t (others i ts) → t.place < places
  here t m = counted t.place (place_among ts t (other_among i ts t m))

  low_wider : (a b : List Amount) → Full amounts places a → Inside amounts places a b → low ts i b ≤ℤ low ts i a
  unfolding low
  low_wider a b f w = total_mono (least_on b) (least_on a) (others i ts) (λ t m. least_wider t.coefficient _ _ (f.some t.place (here t m)) (w t.place (here t m)))

  high_wider : (a b : List Amount) → Full amounts places a → Inside amounts places a b → high ts i a ≤ℤ high ts i b
  unfolding high
  high_wider a b f w = total_mono (greatest_on a) (greatest_on b) (others i ts) (λ t m. greatest_wider t.coefficient _ _ (f.some t.place (here t m)) (w t.place (here t m)))

  low_own : (a b : List Amount) → ((q : ℕ) → Among q (map place_of ts) → span_at amounts a q ≡ span_at amounts b q) → low ts i a ≡ low ts i b
  unfolding low
  low_own a b e = total_same (least_on a) (least_on b) (others i ts) (λ t m. ap (least_product_of t.coefficient) (e t.place (place_among ts t (other_among i ts t m))))

  high_own : (a b : List Amount) → ((q : ℕ) → Among q (map place_of ts) → span_at amounts a q ≡ span_at amounts b q) → high ts i a ≡ high ts i b
  unfolding high
  high_own a b e = total_same (greatest_on a) (greatest_on b) (others i ts) (λ t m. ap (greatest_product_of t.coefficient) (e t.place (place_among ts t (other_among i ts t m))))

  module _ (within : i < length ts) (b : List Amount) (h : List ℤ) (on : On amounts places h b) where
    own : ℤ
    own = coefficient_at ts i *ℤ number_at h (get_or ts i blank).place

    -- the sum of a holding lies between these
    sum_over_low : (own +ℤ low ts i b) ≤ℤ sum_of ts h
    unfolding own low
    sum_over_low =
        let s = total_split (product_in h) i ts within in
        let m = total_mono (least_on b) (product_in h) (others i ts) (λ t m. least_under t.coefficient _ _ (on.admitted t.place (here t m))) in
        add own (total (least_on b) (others i ts)) (total (product_in h) (others i ts)) (sum_of ts h) m s
      where
        add : (o l r s : ℤ) → l ≤ℤ r → s ≡ o +ℤ r → (o +ℤ l) ≤ℤ s
        add o l r s p q = omega (arith, ints)

    sum_under_high : sum_of ts h ≤ℤ (own +ℤ high ts i b)
    unfolding own high
    sum_under_high =
        let s = total_split (product_in h) i ts within in
        let m = total_mono (product_in h) (greatest_on b) (others i ts) (λ t m. greatest_over t.coefficient _ _ (on.admitted t.place (here t m))) in
        add own (total (greatest_on b) (others i ts)) (total (product_in h) (others i ts)) (sum_of ts h) m s
      where
        add : (o l r s : ℤ) → r ≤ℤ l → s ≡ o +ℤ r → s ≤ℤ (o +ℤ l)
        add o l r s p q = omega (arith, ints)

    module _ (one : (p : ℕ) → p < places → amounts.size (span_at amounts b p) ≡ 1) where
      -- and is each of them where every span has one number
      sum_is_low : own +ℤ low ts i b ≡ sum_of ts h
      unfolding own low
      sum_is_low =
          ap (λ (z : ℤ). own +ℤ z) (total_same (least_on b) (product_in h) (others i ts) (λ t m.
          let q = here t m in
          let s = span_at amounts b t.place in
          let r = least_reached t.coefficient s (omega (arith, one t.place q)) in
          r.2 ∙ ap (λ (z : ℤ). t.coefficient *ℤ z) (one_number amounts s r.0 (number_at h t.place) (one t.place q) r.1 (on.admitted t.place q))))
          ∙ sym (total_split (product_in h) i ts within)

      sum_is_high : own +ℤ high ts i b ≡ sum_of ts h
      unfolding own high
      sum_is_high =
          ap (λ (z : ℤ). own +ℤ z) (total_same (greatest_on b) (product_in h) (others i ts) (λ t m.
          let q = here t m in
          let s = span_at amounts b t.place in
          let r = greatest_reached t.coefficient s (omega (arith, one t.place q)) in
          r.2 ∙ ap (λ (z : ℤ). t.coefficient *ℤ z) (one_number amounts s r.0 (number_at h t.place) (one t.place q) r.1 (on.admitted t.place q))))
          ∙ sym (total_split (product_in h) i ts within)

-- ---- the laws

-- the test that a rule keeps numbers by
may : Relation → ℤ → List Term → List Amount → ℤ → Option ℕ → Bool
may relation bound ts b x None = true
may relation bound ts b x (Some i) = may_stay relation bound ts i b x

less : (x y z : ℤ) → x ≤ℤ y → T (le_z y z) → T (le_z x z)
less x y z h t = (go (le_z_yes t)).le
  where
    go : y ≤ℤ z → x ≤ℤ z
    go k = omega (arith, ints)

more : (x y z : ℤ) → y ≤ℤ z → T (le_z x y) → T (le_z x z)
more x y z h t = (go (le_z_yes t)).le
  where
    go : x ≤ℤ y → x ≤ℤ z
    go k = omega (arith, ints)

add_left : (c l r : ℤ) → l ≤ℤ r → (c +ℤ l) ≤ℤ (c +ℤ r)
add_left c l r h = omega (arith, ints)

module _ (places : ℕ) (bound : ℤ) (ts : List Term) (counted : (p : ℕ) → Among p (map place_of ts) → p < places) (i : ℕ) where
  stay_wider : (relation : Relation) (a b : List Amount) (x : ℤ) → Full amounts places a → Inside amounts places a b → T (may_stay relation bound ts i a x) → T (may_stay relation bound ts i b x)
  stay_wider AtMost a b x f w t = less _ _ bound (add_left (coefficient_at ts i *ℤ x) _ _ (low_wider places ts counted i a b f w)) t
  stay_wider AtLeast a b x f w t = more bound _ _ (add_left (coefficient_at ts i *ℤ x) _ _ (high_wider places ts counted i a b f w)) t
  stay_wider Equal a b x f w t =
      let u = both (le_z (coefficient_at ts i *ℤ x +ℤ low ts i a) bound) _ t in
      join (le_z (coefficient_at ts i *ℤ x +ℤ low ts i b) bound) _
      (less _ _ bound (add_left (coefficient_at ts i *ℤ x) _ _ (low_wider places ts counted i a b f w)) u.0)
      (more bound _ _ (add_left (coefficient_at ts i *ℤ x) _ _ (high_wider places ts counted i a b f w)) u.1)

  stay_own : (relation : Relation) (a b : List Amount) (x : ℤ) → ((q : ℕ) → Among q (map place_of ts) → span_at amounts a q ≡ span_at amounts b q) → may_stay relation bound ts i a x ≡ may_stay relation bound ts i b x
  stay_own AtMost a b x e = ap (λ (z : ℤ). le_z (coefficient_at ts i *ℤ x +ℤ z) bound) (low_own places ts counted i a b e)
  stay_own AtLeast a b x e = ap (λ (z : ℤ). le_z bound (coefficient_at ts i *ℤ x +ℤ z)) (high_own places ts counted i a b e)
  stay_own Equal a b x e = ap₂ (λ (y z : ℤ). le_z (coefficient_at ts i *ℤ x +ℤ y) bound && le_z bound (coefficient_at ts i *ℤ x +ℤ z)) (low_own places ts counted i a b e) (high_own places ts counted i a b e)

  module _ (within : i < length ts) (b : List Amount) (h : List ℤ) (on : On amounts places h b) where
    stay_fair : (relation : Relation) → T (stands relation (sum_of ts h) bound) → T (may_stay relation bound ts i b (number_at h (get_or ts i blank).place))
    unfolding own
    stay_fair AtMost t = less _ _ bound (sum_over_low places ts counted i within b h on) t
    stay_fair AtLeast t = more bound _ _ (sum_under_high places ts counted i within b h on) t
    stay_fair Equal t =
        let u = both (le_z (sum_of ts h) bound) (le_z bound (sum_of ts h)) t in
        join _ _ (less _ _ bound (sum_over_low places ts counted i within b h on) u.0) (more bound _ _ (sum_under_high places ts counted i within b h on) u.1)

    stay_tight : (relation : Relation) → ((p : ℕ) → p < places → amounts.size (span_at amounts b p) ≡ 1) → T (may_stay relation bound ts i b (number_at h (get_or ts i blank).place)) → T (stands relation (sum_of ts h) bound)
    unfolding own
    stay_tight AtMost one t = subst (λ (z : ℤ). T (le_z z bound)) (sum_is_low places ts counted i within b h on one) t
    stay_tight AtLeast one t = subst (λ (z : ℤ). T (le_z bound z)) (sum_is_high places ts counted i within b h on one) t
    stay_tight Equal one t =
        let u = both (le_z (coefficient_at ts i *ℤ number_at h (get_or ts i blank).place +ℤ low ts i b) bound) _ t in
        join _ _ (subst (λ (z : ℤ). T (le_z z bound)) (sum_is_low places ts counted i within b h on one) u.0) (subst (λ (z : ℤ). T (le_z bound z)) (sum_is_high places ts counted i within b h on one) u.1)

-- the first of the places
first_place_lem : (ts : List Term) → 1 ≤ length ts → Among (get_or ts 0 blank).place (map place_of ts)
first_place_lem [] h = absurd (omega arith)
first_place_lem (t ∷ ts) h = inl refl

module _ (places : ℕ) (relation : Relation) (bound : ℤ) (ts : List Term) (fair : Fair places ts) where
  counted : (p : ℕ) → Among p (map place_of ts) → p < places
  counted = places_counted places ts fair.good

  abbrev pub index : (p : ℕ) → Among p (map place_of ts) → Index ts 0 p None
  index p m = index_of 0 p ts None m

  pub coefficient_good : (i : ℕ) → i < length ts → Coefficient (coefficient_at ts i)
  coefficient_good i h = coefficient_is (coefficient_at ts i) (coefficient_among places ts fair.good (get_or ts i blank) (at_among i ts h))

  -- what may stay is told by the index
  test : ℕ → List Amount → ℤ → Bool
  test p b x = may relation bound ts b x (index_from 0 p ts None)

  test_at : (p : ℕ) (m : Among p (map place_of ts)) (b : List Amount) (x : ℤ) → test p b x ≡ may_stay relation bound ts (index p m).at b x
  unfolding test may
  test_at p m b x = ap (may relation bound ts b x) (index p m).found_there ∙ ap (λ (i : ℕ). may_stay relation bound ts i b x) (plain (index p m).at)
    where
      plain : (i : ℕ) → 0 + i ≡ i
      plain i = omega arith

  -- an answer on a board without an empty span
  pub answer_exact : (p : ℕ) (m : Among p (map place_of ts)) (b : List Amount) (x : ℤ) → Full amounts places b
      → amount_admits ((sum_rule relation bound ts).answer p b) x ≡ (amount_admits (span_at amounts b p) x && may_stay relation bound ts (index p m).at b x)
  answer_exact p m b x f =
      ap (λ (o : Option ℕ). amount_admits (answered relation bound ts b (span_at amounts b p) o) x) (asked_at places ts b p (index p m) counted f)
      ∙ cut_exact relation bound ts (index p m).at b (span_at amounts b p) x (coefficient_good (index p m).at (index p m).within)

  filter : Filter amounts places (sum_rule relation bound ts) test
  filter = record {
    some = subst (λ (n : ℕ). 1 ≤ n) (sym (length-map ts place_of)) fair.some;
    few = subst (λ (n : ℕ). n ≤ 16) (sym (length-map ts place_of)) fair.few;
    counted = counted;
    once = places_once places ts fair.good;
    wider = λ p a b x m f g w t. back p m b x (stay_wider places bound ts counted (index p m).at relation a b x f w (there p m a x t));
    fair = λ p b h m f o t. back p m b (number_at h p) (subst (λ (q : ℕ). T (may_stay relation bound ts (index p m).at b (number_at h q))) (index p m).place (stay_fair places bound ts counted (index p m).at (index p m).within b h o relation t));
    tight = λ b h f one o t.
        let p = (get_or ts 0 blank).place in
        let m = first_place_lem ts fair.some in
        let r = index p m in
        stay_tight places bound ts counted r.at r.within b h o relation one (subst (λ (q : ℕ). T (may_stay relation bound ts r.at b (number_at h q))) (sym r.place) (there p m b (number_at h p) (t p m)));
    own = λ p a b x m e. test_at p m a x ∙ stay_own places bound ts counted (index p m).at relation a b x e ∙ sym (test_at p m b x);
    exact = λ p b x m f. answer_exact p m b x f ∙ ap (λ (t : Bool). amount_admits (span_at amounts b p) x && t) (sym (test_at p m b x));
    elsewhere = λ p b d. ap (answered relation bound ts b (span_at amounts b p)) (asked_elsewhere ts b p d);
    at_empty = λ p q b m e. ap (answered relation bound ts b (span_at amounts b p)) (asked_empty ts b p q m e);
  }
    where
      there : (p : ℕ) (m : Among p (map place_of ts)) (b : List Amount) (x : ℤ) → T (test p b x) → T (may_stay relation bound ts (index p m).at b x)
      there p m b x t = subst T (test_at p m b x) t

      back : (p : ℕ) (m : Among p (map place_of ts)) (b : List Amount) (x : ℤ) → T (may_stay relation bound ts (index p m).at b x) → T (test p b x)
      back p m b x t = subst T (sym (test_at p m b x)) t

  pub sum_sound : Sound amounts places (sum_rule relation bound ts)
  sum_sound = filter_sound amounts places (sum_rule relation bound ts) test filter

-- each row keeps the laws of rules on the boards that it is for
pub row_sound : (row : SumRow) → Sound amounts row.places (rule_of row)
row_sound row = sum_sound row.places row.relation row.bound (terms_of row) (sum_fair row.places row.bound (terms_of row) (row_sum row))
