-- The terms that are read are terms of a sum. Assumes nothing.
use Rattle.std.proofs.Common.{◌≡◌, ℕ, suc, ◌+◌, ◌<◌, ◌≤◌, Bool, true, false, cond, not, ◌&&◌, ◌||◌, eqb, ltb, leb, List, [], ◌∷◌, ◌++◌, map, length, ℤ, pos, negsuc, neg_ℤ, Some, None, Option, Ok, Err, sym, refl, ◌∙◌, subst, ap₂, arith}
use borrow.Author.Differences.{ints}
use lib.Signed.{le_z}
use Rattle.std.proofs.lemmas.Bool.{and_from, and_parts, or_from, or_parts, not_from_false, not-true, eqb-false, ne_eqb, lt-ltb, le-leb, both_ways}
use Rattle.std.specs.Option.{IsSome}
use Rattle.books.specs.Boards.{has}
use Rattle.rules.specs.declared.sums.term.Term.{Term}
use Rattle.rules.specs.SumTerms.{is_coefficient, bound_test, term_test, place_of, terms_test, sum_test}
use Rattle.rules.specs.declared.sums.term.Relation.{Relation}
use Rattle.rules.specs.declared.sums.row.SumRow.{SumRow}
use Rattle.rules.specs.SumRows.{uses, Made}
use Rattle.text.specs.Names.{same_name, name_at}
use Rattle.text.specs.Numbers.{number_of, number_in}
use Rattle.text.specs.declared.fault.At.{At}
use Rattle.text.specs.declared.fault.FieldFault.TheVariants.{OutOfRange}
use Rattle.records.specs.Places.{Place}
use Rattle.records.specs.Names.{position_after, known, known_place}
use Rattle.records.specs.Steps.{at}
use Rattle.records.specs.Sums.{is_zero, relation_at, coefficient_at, term_of, terms_from}
use Rattle.records.proofs.Going.{then_ok, raised_ok, passed_false, known_ok}
use Rattle.records.proofs.Taking.{twos_keep, twos_some}
use Rattle.records.proofs.Ranging.{Between, within_range}

-- a place that is found is one of those looked at
pub position_below : (n : ℕ) (ps : List Place) (name : List ℕ) (p : ℕ) → position_after n ps name ≡ Some p → p < n + length ps
position_below n [] name p e = let z : ◌≡◌ {A = ℕ} 0 1 = cc in absurd (omega arith)
position_below n (q ∷ ps) name p e = go (same_name q.name name) (position_below (n + 1) ps name p) e
  where
    go : (t : Bool) → (position_after (n + 1) ps name ≡ Some p → p < n + 1 + length ps) → cond t (Some n) (position_after (n + 1) ps name) ≡ Some p → p < n + suc (length ps)
    go true f e = let same : n ≡ p = cc in omega arith
    go false f e = let h = f e in omega arith

pub place_below : (ps : List Place) (a : At) (field : List ℕ) (p : ℕ) → known_place ps a field ≡ Ok p → p < length ps
place_below ps a field p e =
    let r = raised_ok (name_at a field) (λ name. known a (position_after 0 ps name)) p e in
    let h = position_below 0 ps r.value p (known_ok a (position_after 0 ps r.value) p r.rest) in
    omega arith

-- a coefficient that is read is one
coefficient_in : (a : ℤ) → Between (negsuc 9_999) (pos 10_000) a → is_zero a ≡ false → is_coefficient a ≡ true
coefficient_in (pos n) b z =
    let h : n ≤ 10_000 = omega (arith, ints, b.below) in
    let some : 0 < n = omega (arith, eqb-false n 0 z) in
    and_from (le_z (neg_ℤ (pos 10_000)) (pos n) && leb n 10_000) (ltb n 0 || ltb 0 n)
    (and_from true (leb n 10_000) refl (le-leb n 10_000 h))
    (or_here (ltb n 0) (ltb 0 n) (lt-ltb 0 n some))
  where
    or_here : (s t : Bool) → t ≡ true → (s || t) ≡ true
    or_here true t e = refl
    or_here false t e = e
coefficient_in (negsuc n) b z =
    let h : n ≤ 9_999 = omega (arith, ints, b.above) in
    and_from (le_z (neg_ℤ (pos 10_000)) (negsuc n) && true) true (and_from (leb n 9_999) true (le-leb n 9_999 h) refl) refl

pub coefficient_ok : (a : At) (field : List ℕ) (c : ℤ) → coefficient_at a field ≡ Ok c → is_coefficient c ≡ true
coefficient_ok a field c e =
    let r = then_ok (number_in (negsuc 9_999) (pos 10_000) a field) (λ z. cond (is_zero z) (Err (OutOfRange a)) (Ok z)) c e in
    let p = passed_false (is_zero r.value) (OutOfRange a) (Ok r.value) c r.rest in
    let same : r.value ≡ c = cc in
    subst (λ z. is_coefficient z ≡ true) same (coefficient_in r.value (within_range _ _ a (number_of field) r.value (sym r.read)) p.0)

-- a term that is read is one, at a place of its own
pub record NewTerm (n : ℕ) (ts : List Term) (t : Term) : Type 0 where
  pub term : term_test n t ≡ true
  pub new : uses ts t.place ≡ false

pub term_ok : (ps : List Place) (line f : ℕ) (ts : List Term) (c name : List ℕ) (t : Term) → term_of ps line f ts c name ≡ Ok t → NewTerm (length ps) ts t
term_ok ps line f ts c name t e =
    let r = raised_ok (coefficient_at (at line f) c) _ t e in
    let q = then_ok (known_place ps (at line (f + 1)) name) _ t r.rest in
    let n = passed_false (uses ts q.value) _ _ t q.rest in
    let made : record { coefficient = r.value; place = q.value } ≡ t = cc in
    subst (NewTerm (length ps) ts) made (record {
      term = and_from _ _ (coefficient_ok (at line f) c r.value r.read) (lt-ltb q.value (length ps) (place_below ps (at line (f + 1)) name q.value q.read));
      new = n.0;
    })

-- a new term behind others
has_push : (p : ℕ) (ts : List Term) (t : Term) → has p (map place_of ts) ≡ false → (p ≡ t.place → ⊥) → has p (map place_of (ts ++ (t ∷ []))) ≡ false
has_push p [] t e ne = or_from (eqb p t.place) false (ne_eqb p t.place ne) refl
has_push p (x ∷ ts) t e ne =
    let s = or_parts (eqb p x.place) (has p (map place_of ts)) e in
    or_from (eqb p x.place) _ s.0 (has_push p ts t s.1 ne)

pub terms_push : (n : ℕ) (ts : List Term) (t : Term) → terms_test n ts ≡ true → NewTerm n ts t → terms_test n (ts ++ (t ∷ [])) ≡ true
terms_push n [] t e new = and_from (term_test n t && true) true (and_from (term_test n t) true new.term refl) refl
terms_push n (x ∷ ts) t e new =
    let s = and_parts (term_test n x && not (has x.place (map place_of ts))) (terms_test n ts) e in
    let q = and_parts (term_test n x) (not (has x.place (map place_of ts))) s.0 in
    let o = or_parts (eqb t.place x.place) (uses ts t.place) new.new in
    let apart : x.place ≡ t.place → ⊥ = λ same. eqb-false t.place x.place o.0 (sym same) in
    and_from _ _
    (and_from (term_test n x) _ q.0 (not_from_false _ (has_push x.place ts t (not-true _ q.1) apart)))
    (terms_push n ts t s.1 (record { term = new.term; new = o.1 }))

-- all terms that are read are terms of a sum
pub terms_ok : (ps : List Place) (line : ℕ) (fs : List (List ℕ)) (all : List Term) → terms_from ps line 3 [] fs ≡ Ok all → terms_test (length ps) all ≡ true
terms_ok ps line fs all e = twos_keep (term_of ps line) (λ ts. terms_test (length ps) ts ≡ true) (λ f ts a b t q p. terms_push (length ps) ts t p (term_ok ps line f ts a b t q)) 3 [] fs all refl e

-- what a sum line has makes a sum
pub sum_ok : (ps : List Place) (line : ℕ) (a : At) (field : List ℕ) (bound : ℤ) (fs : List (List ℕ)) (ts : List Term) → Ok bound ≡ number_in (negsuc 999_999_999_999) (pos 1_000_000_000_000) a field → Ok ts ≡ terms_from ps line 3 [] fs → 1 ≤ length fs → length ts ≤ 16 → sum_test (length ps) bound ts ≡ true
sum_ok ps line a field bound fs ts b e some few =
    and_from _ _ (and_from _ _ (and_from _ _ (bound_ok bound (within_range _ _ a (number_of field) bound b)) (le-leb 1 (length ts) (twos_some (term_of ps line) 3 fs ts (sym e) some))) (le-leb (length ts) 16 few)) (terms_ok ps line fs ts (sym e))
  where
    bound_ok : (z : ℤ) → Between (negsuc 999_999_999_999) (pos 1_000_000_000_000) z → bound_test z ≡ true
    bound_ok (pos n) r = and_from true (leb n 1_000_000_000_000) refl (le-leb n _ (omega (arith, ints, r.below)))
    bound_ok (negsuc n) r = and_from (leb n 999_999_999_999) true (le-leb n _ (omega (arith, ints, r.above))) refl

-- what was read of a sum line makes a row
module _ (ps : List Place) (line n : ℕ) (relation bound : List ℕ) (fs : List (List ℕ)) (r : Relation) (b c : ℤ) (ts : List Term)
    (n-is : n ≡ length ps) (c-is : c ≡ b)
    (r-read : Ok r ≡ relation_at (at line 1) relation)
    (b-read : Ok b ≡ number_in (negsuc 999_999_999_999) (pos 1_000_000_000_000) (at line 2) bound)
    (ts-read : Ok ts ≡ terms_from ps line 3 [] fs) where
  pub sum_made : 1 ≤ length fs → length ts ≤ 16 → (o : Option SumRow) → Made n r c ts o → IsSome o
  sum_made some few (Some row) made = refl
  sum_made some few None e = absurd (both_ways (sum_test n c ts) e (ap₂ (λ m z. sum_test m z ts) n-is c-is ∙ sum_ok ps line (at line 2) bound b fs ts b-read ts-read some few))
