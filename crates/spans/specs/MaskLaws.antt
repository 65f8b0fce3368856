-- What the bits of a mask tell: proofs, which stand in specs/ since the choices that are defined there hold them. Assumes nothing.
use Rattle.std.specs.Prelude.{◌≡◌, ℕ, zero, suc, ◌+◌, ◌/◌, ◌%◌, ◌^◌, ◌<◌, ◌≤◌, min, false, cond, ◌&&◌, T, ◌⊎◌, ◌==◌, nat_eq, refl}
use Rattle.std.proofs.Common.{sym, ◌∙◌, ap, subst, inl, inr, not-suc-le-zero, le_of_suc-le-suc, lt_of_lt_of_le, mod-lt, one-add, arith, lt→ltb, ltb→lt, lit<, pow_mono}
use Rattle.std.proofs.Math.Nat.{div-eq_of_lt}
use Rattle.std.specs.Int.Bits.{bit_and, and_lt, and_step}
use Rattle.std.specs.Int.Count.{ones, ones_in, count_trailing_zeros, under}
use Rattle.std.proofs.lemmas.Nat.{shr-shr, mod-pow-add, pow_pos, and_shr, ones_cat}
use Rattle.spans.specs.Masks.{tokens, is_mask, bit}

-- a digit is 0 or 1
pub digits : (x : ℕ) → x < 2 → (x ≡ 0) ⊎ (x ≡ 1)
digits zero h = inl refl
digits (suc zero) h = inr refl
digits (suc (suc x)) h = absurd (omega arith)

-- ---- the bit of token 0, and the others as bits of half the mask

pub bit_zero : (m : ℕ) → bit m 0 ≡ (m % 2 == 1)
unfolding bit
bit_zero m = ap (λ (z : ℕ). nat_eq (z % 2) 1) (omega arith)

pub bit_suc : (m i : ℕ) → bit m (suc i) ≡ bit (m / 2) i
unfolding bit
bit_suc m i = ap (λ (z : ℕ). nat_eq (m / 2 ^ z % 2) 1) (sym (one-add i)) ∙ ap (λ (z : ℕ). nat_eq (z % 2) 1) (sym (shr-shr m 1 i))

half_below : (k m : ℕ) → m < 2 ^ suc k → m / 2 < 2 ^ k
half_below k m h = omega arith

-- no bit is set from k on
pub bit_above : (k m i : ℕ) → m < 2 ^ k → k ≤ i → bit m i ≡ false
unfolding bit
bit_above k m i h l = ap (λ (z : ℕ). nat_eq (z % 2) 1) (div-eq_of_lt (lt_of_lt_of_le h (pow_mono l)))

-- ---- the bits make the mask

same_digit : (x y : ℕ) → x < 2 → y < 2 → (x == 1) ≡ (y == 1) → x ≡ y
same_digit x y h l e = go (digits x h) (digits y l)
  where
    go : (x ≡ 0) ⊎ (x ≡ 1) → (y ≡ 0) ⊎ (y ≡ 1) → x ≡ y
    go (inl p) (inl q) = p ∙ sym q
    go (inl p) (inr q) = absurd (subst T (sym (rw (p, q) at e)) tt)
    go (inr p) (inl q) = absurd (subst T (rw (p, q) at e) tt)
    go (inr p) (inr q) = p ∙ sym q

pub same_bits : (k a b : ℕ) → a < 2 ^ k → b < 2 ^ k → ((i : ℕ) → bit a i ≡ bit b i) → a ≡ b
same_bits zero a b h l f = omega arith
same_bits (suc k) a b h l f =
    let rest = same_bits k (a / 2) (b / 2) (half_below k a h) (half_below k b l) (λ i. sym (bit_suc a i) ∙ f (suc i) ∙ bit_suc b i) in
    let low = same_digit (a % 2) (b % 2) (omega arith) (omega arith) (sym (bit_zero a) ∙ f 0 ∙ bit_zero b) in
    omega (arith, rest, low)

-- ---- the common part

pub and_mask : (a b : ℕ) → T (is_mask a) → T (is_mask b) → T (is_mask (bit_and a b))
and_mask a b h l = lt→ltb (bit_and a b) (2 ^ tokens) (and_lt tokens a b (ltb→lt a (2 ^ tokens) h) (ltb→lt b (2 ^ tokens) l))

pub bit_and_lem : (a b i : ℕ) → bit (bit_and a b) i ≡ (bit a i && bit b i)
unfolding bit
bit_and_lem a b i =
    let x = a / 2 ^ i in
    let y = b / 2 ^ i in
    let low : bit_and x y % 2 ≡ min (x % 2) (y % 2) = omega (arith, and_step x y) in
    ap (λ (z : ℕ). nat_eq (z % 2) 1) (and_shr a b i) ∙ ap (λ (z : ℕ). nat_eq z 1) low ∙ go (x % 2) (y % 2) (digits (x % 2) (omega arith)) (digits (y % 2) (omega arith))
  where
    go : (x y : ℕ) → (x ≡ 0) ⊎ (x ≡ 1) → (y ≡ 0) ⊎ (y ≡ 1) → (min x y == 1) ≡ (x == 1 && y == 1)
    go x y (inl p) (inl q) = rw (p, q)
    go x y (inl p) (inr q) = rw (p, q)
    go x y (inr p) (inl q) = rw (p, q)
    go x y (inr p) (inr q) = rw (p, q)

-- ---- the count

ones_digit : (x : ℕ) → x < 2 → ones x ≡ cond (x == 1) 1 0
unfolding ones ones_in
ones_digit zero h = refl
ones_digit (suc zero) h = refl
ones_digit (suc (suc x)) h = absurd (omega arith)

pub ones_none : ones 0 ≡ 0
ones_none = ones_digit 0 (lit< tt)

-- one bit more
pub ones_next : (m n : ℕ) → ones (m % 2 ^ suc n) ≡ ones (m % 2 ^ n) + cond (bit m n) 1 0
unfolding bit
ones_next m n =
    ap (λ (z : ℕ). ones (m % 2 ^ z)) (sym (one-add n)) ∙ ap ones (mod-pow-add m 1 n) ∙ ones_cat n (m / 2 ^ n % 2) (m % 2 ^ n) (mod-lt m (pow_pos n))
    ∙ omega (arith, ones_digit (m / 2 ^ n % 2) (mod-lt (m / 2 ^ n) (lit< tt)))

-- ---- the lowest bit

pub lowest_bit : (k m i : ℕ) → i < k → T (bit m i) → T (bit m (count_trailing_zeros k m)) × (count_trailing_zeros k m ≤ i)
unfolding count_trailing_zeros
lowest_bit zero m i h t = absurd (not-suc-le-zero h)
lowest_bit (suc k) m i h t = go (digits (m % 2) (omega arith)) i h t (lowest_bit k (m / 2))
  where
    z : ℕ
    z = count_trailing_zeros k (m / 2)

    go : (m % 2 ≡ 0) ⊎ (m % 2 ≡ 1) → (i : ℕ) → i < suc k → T (bit m i) → ((j : ℕ) → j < k → T (bit (m / 2) j) → T (bit (m / 2) z) × (z ≤ j))
        → T (bit m (under (m % 2) z)) × (under (m % 2) z ≤ i)
    go (inr o) i h t rest = rw o (subst T (sym (bit_zero m ∙ ap (λ (y : ℕ). nat_eq y 1) o)) tt, omega arith)
    go (inl o) zero h t rest = absurd (subst T (bit_zero m ∙ ap (λ (y : ℕ). nat_eq y 1) o) t)
    go (inl o) (suc j) h t rest =
        let r = rest j (le_of_suc-le-suc h) (subst T (bit_suc m j) t) in
        rw o (subst T (sym (bit_suc m z)) r.0, omega (arith, r.1))
