-- What pair lines and apart lines have makes rules between two places. Assumes nothing.
use Rattle.std.proofs.Common.{◌≡◌, ℕ, ◌≤◌, true, ◌&&◌, eqb, ltb, List, [], map, length, ℤ, pos, negsuc, Some, None, Option, Ok, Err, Result, sym, refl, ap, ◌∙◌, subst, arith}
use borrow.Author.Differences.{ints}
use Rattle.std.proofs.lemmas.List.{length-map}
use Rattle.std.proofs.lemmas.Bool.{and_from, not_from_false, lt-ltb, le-leb, both_ways}
use Rattle.std.specs.Option.{IsSome}
use Rattle.rules.specs.declared.choices.token.TokenPair.{TokenPair}
use Rattle.rules.specs.declared.choices.pair.PairRow.{PairRow}
use Rattle.rules.specs.ChoiceTests.{are_tokens, two_places_test, is_pair_row}
use Rattle.rules.specs.declared.choices.apart.ApartRow.{ApartRow}
use Rattle.rules.specs.ChoiceRows.{TokensAsked, PairAsked, ApartAsked}
use Rattle.text.specs.declared.fault.At.{At}
use Rattle.text.specs.declared.fault.FieldFault.{FieldFault}
use Rattle.text.specs.Numbers.{number_of, number_in}
use Rattle.records.specs.declared.two.TwoPlaces.{TwoPlaces}
use Rattle.records.specs.Numbers.{size, sized, count_within}
use Rattle.records.specs.Places.{Place}
use Rattle.records.specs.Names.{known_place}
use Rattle.records.specs.Steps.{at}
use Rattle.records.specs.Between.{two_places, tokens_at, tokens_from, tokens_shown}
use Rattle.records.proofs.Going.{then_ok, passed_false}
use Rattle.records.proofs.Ranging.{Between, within_range}
use Rattle.records.proofs.Summing.{place_below}
use Rattle.records.proofs.Taking.{twos_some}

-- a count that is read lies in its range
pub count_in : (low high : ℕ) (a : At) (field : List ℕ) (n : ℕ) → count_within low high a field ≡ Ok n → (low ≤ n) × (n ≤ high)
count_in low high a field n e = go (number_in (pos low) (pos high) a field) (λ z f. within_range (pos low) (pos high) a (number_of field) z (sym f)) e
  where
    near : (z : ℤ) → Between (pos low) (pos high) z → size z ≡ n → (low ≤ n) × (n ≤ high)
    near (pos m) b s = (omega (arith, ints, b.above), omega (arith, ints, b.below))
    near (negsuc m) b s = absurd (omega (arith, ints, b.above))

    go : (r : Result ℤ FieldFault) → ((z : ℤ) → r ≡ Ok z → Between (pos low) (pos high) z) → sized r ≡ Ok n → (low ≤ n) × (n ≤ high)
    go (Ok z) f e = near z (f z refl) (let s : size z ≡ n = cc in s)
    go (Err fault) f e = let z : ◌≡◌ {A = ℕ} 0 1 = cc in absurd (omega arith)

pub are_tokens_lem : (a b : At) (one two : List ℕ) (t u : ℕ) → Ok t ≡ count_within 0 63 a one → Ok u ≡ count_within 0 63 b two → are_tokens t u ≡ true
are_tokens_lem a b one two t u e f =
    let p = count_in 0 63 a one t (sym e) in
    let q = count_in 0 63 b two u (sym f) in
    and_from (ltb t 64) (ltb u 64) (lt-ltb t 64 (omega (arith, p.1))) (lt-ltb u 64 (omega (arith, q.1)))

-- two tokens that are read make a pair
pub tokens_made : (a b : At) (one two : List ℕ) (t u : ℕ) → Ok t ≡ count_within 0 63 a one → Ok u ≡ count_within 0 63 b two → (o : Option TokenPair) → TokensAsked t u o → IsSome o
tokens_made a b one two t u e f (Some both) made = refl
tokens_made a b one two t u e f None made = absurd (both_ways (are_tokens t u) made (are_tokens_lem a b one two t u e f))

-- two places that are read are two places of a board
pub are_two : (ps : List Place) (line : ℕ) (first second : List ℕ) (two : TwoPlaces) → Ok two ≡ two_places ps line first second → two_places_test (length ps) two.first two.second ≡ true
are_two ps line first second two e =
    let r = then_ok (known_place ps (at line 1) first) _ two (sym e) in
    let q = then_ok (known_place ps (at line 2) second) _ two r.rest in
    let d = passed_false (eqb r.value q.value) _ _ two q.rest in
    let made : record { first = r.value; second = q.value } ≡ two = cc in
    subst (λ (t : TwoPlaces). two_places_test (length ps) t.first t.second ≡ true) made
    (and_from (ltb r.value (length ps) && ltb q.value (length ps)) _
    (and_from _ _ (lt-ltb r.value (length ps) (place_below ps (at line 1) first r.value r.read)) (lt-ltb q.value (length ps) (place_below ps (at line 2) second q.value q.read)))
    (not_from_false _ d.0))

-- what was read of a pair line makes a row
module _ (ps : List Place) (line n : ℕ) (first second : List ℕ) (fs : List (List ℕ)) (two : TwoPlaces) (tokens : List TokenPair)
    (n-is : n ≡ length ps)
    (two-read : Ok two ≡ two_places ps line first second)
    (tokens-read : Ok (map tokens_shown tokens) ≡ tokens_from line 3 [] fs) where
  pub pair_made : 1 ≤ length fs → length tokens ≤ 100 → (o : Option PairRow) → PairAsked n two.first two.second tokens o → IsSome o
  pair_made some few (Some row) made = refl
  pair_made some few None e =
      let l = length-map tokens tokens_shown in
      let k = twos_some (λ g us. tokens_at line g) 3 fs (map tokens_shown tokens) (sym tokens-read) some in
      let two_ok = ap (λ m. two_places_test m two.first two.second) n-is ∙ are_two ps line first second two two-read in
      absurd (both_ways (is_pair_row n two.first two.second (length tokens)) e
      (and_from _ _ (and_from (two_places_test n two.first two.second) (ltb 0 (length tokens)) two_ok (lt-ltb 0 (length tokens) (omega arith))) (le-leb (length tokens) 100 few)))

-- two places that are read make an apart rule
pub apart_made : (ps : List Place) (line n : ℕ) (first second : List ℕ) (two : TwoPlaces) → n ≡ length ps → Ok two ≡ two_places ps line first second → (o : Option ApartRow) → ApartAsked n two.first two.second o → IsSome o
apart_made ps line n first second two n-is e (Some row) made = refl
apart_made ps line n first second two n-is e None made = absurd (both_ways _ made (ap (λ m. two_places_test m two.first two.second) n-is ∙ are_two ps line first second two e))
