-- Digits, their value, and how a number is spelled.
use Rattle.std.proofs.Common.{◌≡◌, ℕ, zero, suc, ◌+◌, ◌-◌, ◌*◌, ◌^◌, ◌<◌, ◌≤◌, Bool, true, false, cond, ◌&&◌, eqb, List, [], ◌∷◌, length, get_or, drop, ℤ, pos, negsuc, Some, None, decimal, Option, sym, refl, ap, ◌∙◌, mul_assoc, mul_comm, add-mul, pow-suc, add-one, arith, rules}
use native.Mathlib.Nat.{pow-le-pow_right}
use Rattle.std.proofs.lemmas.List.{at_drop_more}
use Rattle.std.proofs.lemmas.Bool.{cond-true, eqb-true}
use Rattle.std.proofs.lemmas.Bool.Decides.{nat_tests}
use Rattle.std.proofs.lemmas.Str.Parse.{IsNumeralModel, numerals_by_weight, digits_value_short}
use Rattle.std.proofs.lemmas.Fmt.{decimal_digit, decimal-digits_value, digits_decimal, digits_value-decimal, decimal_nonempty, first_decimal, length-decimal-le}
use Rattle.std.specs.Fmt.{signed_decimal}
use Rattle.text.specs.Numbers.{is_digit, digit_of, all_digits, decimal_value, plain_size, unsigned_of, negated, unnegated, negative_of, positive_of, number_of, Short, NumberLaw}

-- the value of digits that follow digits of value n
abbrev pub value_after : ℕ → List ℕ → Option ℕ
value_after n ds = cond (all_digits ds) (Some (n * 10 ^ length ds + decimal_value ds)) None

more_value : (n d v k : ℕ) → (n * 10 + d) * 10 ^ k + v ≡ n * 10 ^ suc k + (d * 10 ^ k + v)
more_value n d v k = grind (arith, pow-suc 10 k, add-mul (n * 10) d (10 ^ k), mul_assoc n 10 (10 ^ k), mul_comm (10 ^ k) 10)

own : IsNumeralModel (λ ds. all_digits ds ≡ true) decimal_value
own = numerals_by_weight (λ ds. all_digits ds ≡ true) (search rules) decimal_value (search rules)

-- what a digit's value tells of its byte
pub digit_some : (b n : ℕ) → digit_of b ≡ Some n → (is_digit b ≡ true) × (n ≡ b - 48) × (n < 10)
digit_some b n e = grind (arith, nat_tests)

module _ (xs : List ℕ) (i : ℕ) (h : i < length xs) (n : ℕ) where
  turn : value_after n (drop i xs) ≡ value_after n (get_or xs i 0 ∷ drop (i + 1) xs)
  turn = at_drop_more (value_after n) xs i 0 h

  -- one digit more
  pub value_more : (m : ℕ) → digit_of (get_or xs i 0) ≡ Some m → value_after n (drop i xs) ≡ value_after (n * 10 + m) (drop (i + 1) xs)
  value_more m e =
      let d = get_or xs i 0 in
      let ds = drop (i + 1) xs in
      let p = digit_some d m e in
      turn ∙ ap (λ (t : Bool). cond (t && all_digits ds) (Some (n * 10 ^ suc (length ds) + ((d - 48) * 10 ^ length ds + decimal_value ds))) None) p.0
      ∙ ap (λ (v : ℕ). cond (all_digits ds) (Some v) None) (sym (more_value n (d - 48) (decimal_value ds) (length ds)))
      ∙ ap (λ (m : ℕ). value_after (n * 10 + m) ds) (sym p.1)

-- i digits hold a number below 10 ^ i
pub pow_more : (i : ℕ) → 10 ^ (i + 1) ≡ 10 ^ i * 10
pow_more i = rw add-one (pow-suc 10 i)

pub pow_below : (i k : ℕ) → i ≤ k → 10 ^ i ≤ 10 ^ k
pow_below i k h = pow-le-pow_right (omega arith) h

-- the digits of an unsigned number are those that printing it writes
abbrev pub Prints : List ℕ → ℕ → Type 0
Prints ds n = (ds ≡ decimal n) × (n < 10 ^ 13)

plain_parts : (ds : List ℕ) → plain_size ds ≡ true → (0 < length ds) × (length ds ≤ 13) × (get_or ds 0 0 ≡ 48 → length ds ≡ 1)
plain_parts [] e = cc
plain_parts (d ∷ ds) e = grind (arith, nat_tests)

plain_from : (ds : List ℕ) → 0 < length ds → length ds ≤ 13 → (get_or ds 0 0 ≡ 48 → length ds ≡ 1) → plain_size ds ≡ true
plain_from [] some short first = absurd (omega arith)
plain_from (d ∷ ds) some short first = grind (arith, nat_tests)

unsigned_prints : (ds : List ℕ) (n : ℕ) → unsigned_of ds ≡ Some n → Prints ds n
unsigned_prints ds n e = go (plain_size ds) refl (all_digits ds) refl e
  where
    go : (t : Bool) → plain_size ds ≡ t → (u : Bool) → all_digits ds ≡ u → cond t (cond u (Some (decimal_value ds)) None) None ≡ Some n → Prints ds n
    go false p u a e = cc
    go true p false a e = cc
    go true p true a e =
        let parts = plain_parts ds p in
        let same : decimal_value ds ≡ n = cc in
        let short = digits_value_short own ds 13 a parts.1 in
        let prints = decimal-digits_value own ds a parts.0 parts.2 (omega arith) in
        (sym prints ∙ ap decimal same, omega arith)

decimal_first : (n : ℕ) → n < 2 ^ 64 → get_or (decimal n) 0 0 ≡ 48 → length (decimal n) ≡ 1
decimal_first zero h e = ap length (decimal_digit 0 (omega arith))
decimal_first (suc n) h e = absurd (omega (arith, first_decimal (suc n) (omega arith) h))

prints_unsigned : (ds : List ℕ) (n : ℕ) → Prints ds n → unsigned_of ds ≡ Some n
prints_unsigned ds n h =
    let small : n < 2 ^ 64 = omega (arith, h.1) in
    let plain : plain_size (decimal n) ≡ true = plain_from (decimal n) (decimal_nonempty n small) (length-decimal-le 13 n (omega arith) h.1 small) (decimal_first n small) in
    ap unsigned_of h.0 ∙ cond-true _ _ _ plain ∙ cond-true _ _ _ (digits_decimal own n small) ∙ ap Some (digits_value-decimal own n small)

-- digits have no minus sign in front
digits_number : (ds : List ℕ) (n : ℕ) → unsigned_of ds ≡ Some n → number_of ds ≡ Some (pos n)
digits_number [] n e = cc
digits_number (d ∷ ds) n e = grind (arith, nat_tests)

pub number_law : (field : List ℕ) → NumberLaw field
number_law field z = (to field, from z)
  where
    negative : (bs : List ℕ) (r : Option ℕ) → unsigned_of bs ≡ r → negated r ≡ Some z → (45 ∷ bs ≡ signed_decimal z) × Short z
    negative bs None u e = cc
    negative bs (Some zero) u e = cc
    negative bs (Some (suc n)) u e = let p = unsigned_prints bs (suc n) u in let same : negsuc n ≡ z = cc in rw (← same) (ap (λ (ds : List ℕ). 45 ∷ ds) p.0, p.1)

    positive : (bs : List ℕ) (r : Option ℕ) → unsigned_of bs ≡ r → unnegated r ≡ Some z → (bs ≡ signed_decimal z) × Short z
    positive bs None u e = cc
    positive bs (Some n) u e = let same : pos n ≡ z = cc in rw (← same) (unsigned_prints bs n u)

    to : (bs : List ℕ) → number_of bs ≡ Some z → (bs ≡ signed_decimal z) × Short z
    to [] e = cc
    to (b ∷ bs) e = go (eqb b 45) refl e
      where
        go : (t : Bool) → eqb b 45 ≡ t → cond t (negative_of bs) (positive_of (b ∷ bs)) ≡ Some z → (b ∷ bs ≡ signed_decimal z) × Short z
        go true m e = let p = negative bs (unsigned_of bs) refl e in (ap (λ (c : ℕ). c ∷ bs) (eqb-true b 45 m) ∙ p.0, p.1)
        go false m e = positive (b ∷ bs) (unsigned_of (b ∷ bs)) refl e

    from : (y : ℤ) → (field ≡ signed_decimal y) × Short y → number_of field ≡ Some y
    from (pos n) h = digits_number field n (prints_unsigned field n h)
    from (negsuc n) h = ap number_of h.0 ∙ ap negated (prints_unsigned (decimal (suc n)) (suc n) (refl, h.1))
