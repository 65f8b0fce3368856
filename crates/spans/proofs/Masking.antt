-- The bits of the masks that choices are made of. Assumes nothing.
use Rattle.std.proofs.Common.{◌≡◌, ℕ, zero, suc, ◌-◌, ◌/◌, ◌%◌, ◌^◌, ◌<◌, max, Bool, true, false, not, ◌&&◌, ◌||◌, T, eqb, ltb, ◌⊎◌, ℤ, pos, negsuc, ◌≤ℤ◌, ◌<ℤ◌, sym, refl, ap, ◌∙◌, ap₂, inl, inr, ⊎_elim, arith, lt→ltb}
use borrow.Author.Differences.{ints}
use lib.Bits.{bit_and, bit_or, or_lt, or_shr, or_step, and_lt}
use lib.Count.{ones, ones_step}
use lib.Dec.{eqb-zero-suc, eqb-suc-zero, eqb-suc-suc, leb-suc-suc}
use Rattle.std.proofs.lemmas.Nat.{pow_pos}
use Rattle.std.proofs.lemmas.Bool.{true≢false, lt-ltb, le-ltb, eq-eqb, ne_eqb, and_left, and_right, cases_lt, cases_eq}
use Rattle.spans.specs.Masks.{tokens, is_mask, bit, Marks}
use Rattle.spans.specs.MaskLaws.{digits, bit_zero, bit_suc, bit_above, same_bits, bit_and_lem}
use Rattle.spans.specs.Choices.{choice_admits}
use Rattle.spans.specs.ChoiceLaws.{mask_below}
use Rattle.spans.specs.declared.choice.Choice.{Choice}

pub bit_none : (t : ℕ) → bit 0 t ≡ false
bit_none t = bit_above 0 0 t (omega arith) (omega arith)

-- the bit of token 0 in an odd or an even mask
odd : (m : ℕ) → m % 2 ≡ 1 → bit m 0 ≡ true
odd m e = bit_zero m ∙ ap (λ (x : ℕ). eqb x 1) e

even : (m : ℕ) → m % 2 ≡ 0 → bit m 0 ≡ false
even m e = bit_zero m ∙ ap (λ (x : ℕ). eqb x 1) e

-- one bit, moved by k
pub bit_moved : (k t : ℕ) → bit (2 ^ k) t ≡ eqb t k
bit_moved zero zero = odd 1 refl
bit_moved zero (suc t) = bit_suc 1 t ∙ bit_none t ∙ sym (eqb-suc-zero t)
bit_moved (suc k) zero = even (2 ^ suc k) (omega arith) ∙ sym (eqb-zero-suc k)
bit_moved (suc k) (suc t) = let half : 2 ^ suc k / 2 ≡ 2 ^ k = omega arith in bit_suc (2 ^ suc k) t ∙ ap (λ (m : ℕ). bit m t) half ∙ bit_moved k t ∙ sym (eqb-suc-suc t k)

-- the n lowest bits
pub bit_lowest : (n t : ℕ) → bit (2 ^ n - 1) t ≡ ltb t n
bit_lowest zero t = bit_none t ∙ sym (le-ltb t 0 (omega arith))
bit_lowest (suc n) zero = odd (2 ^ suc n - 1) (omega (arith, pow_pos n)) ∙ sym (lt-ltb 0 (suc n) (omega arith))
bit_lowest (suc n) (suc t) =
    let half : (2 ^ suc n - 1) / 2 ≡ 2 ^ n - 1 = omega (arith, pow_pos n) in
    bit_suc (2 ^ suc n - 1) t ∙ ap (λ (m : ℕ). bit m t) half ∙ bit_lowest n t ∙ sym (leb-suc-suc (suc t) n)

pub or_mask : (a b : ℕ) → a < 2 ^ tokens → b < 2 ^ tokens → T (is_mask (bit_or a b))
or_mask a b h l = lt→ltb (bit_or a b) (2 ^ tokens) (or_lt tokens a b h l)

pub bit_or_lem : (a b t : ℕ) → bit (bit_or a b) t ≡ (bit a t || bit b t)
unfolding bit
bit_or_lem a b t =
    let x = a / 2 ^ t in
    let y = b / 2 ^ t in
    let low : bit_or x y % 2 ≡ max (x % 2) (y % 2) = omega (arith, or_step x y) in
    ap (λ (z : ℕ). eqb (z % 2) 1) (or_shr a b t) ∙ ap (λ (z : ℕ). eqb z 1) low ∙ go (x % 2) (y % 2) (digits (x % 2) (omega arith)) (digits (y % 2) (omega arith))
  where
    go : (x y : ℕ) → (x ≡ 0) ⊎ (x ≡ 1) → (y ≡ 0) ⊎ (y ≡ 1) → eqb (max x y) 1 ≡ (eqb x 1 || eqb y 1)
    go x y (inl p) (inl q) = rw (p, q)
    go x y (inl p) (inr q) = rw (p, q)
    go x y (inr p) (inl q) = rw (p, q)
    go x y (inr p) (inr q) = rw (p, q)

-- the other bits, of k
pub bit_not : (k m t : ℕ) → m < 2 ^ k → t < k → bit (2 ^ k - 1 - m) t ≡ not (bit m t)
bit_not zero m t h l = absurd (omega arith)
bit_not (suc k) m zero h l =
    ⊎_elim
    (λ e. odd (2 ^ suc k - 1 - m) (omega arith) ∙ ap not (sym (even m e)))
    (λ e. even (2 ^ suc k - 1 - m) (omega arith) ∙ ap not (sym (odd m e)))
    (digits (m % 2) (omega arith))
bit_not (suc k) m (suc t) h l =
    let half : (2 ^ suc k - 1 - m) / 2 ≡ 2 ^ k - 1 - m / 2 = omega arith in
    bit_suc (2 ^ suc k - 1 - m) t ∙ ap (λ (x : ℕ). bit x t) half ∙ bit_not k (m / 2) t (omega arith) (omega arith) ∙ ap not (sym (bit_suc m t))

-- a mask's bits by a test of the tokens
pub bits_by : (m : ℕ) (test : ℕ → Bool) → m < 2 ^ tokens → ((t : ℕ) → t < tokens → bit m t ≡ test t) → Marks m test
bits_by m test h f t =
    ⊎_elim
    (λ l. f t l ∙ ap (λ (b : Bool). b && test t) (sym (lt-ltb t tokens l)))
    (λ l. bit_above tokens m t h l ∙ ap (λ (b : Bool). b && test t) (sym (le-ltb t tokens l)))
    (cases_lt t tokens)

-- the mask r of the token k alone
module _ (r k : ℕ) (below : r < 2 ^ tokens) (alone : Marks r (λ t. eqb t k)) where
  pub at_token : (t : ℕ) → t < tokens → bit r t ≡ eqb t k
  at_token t h = alone t ∙ ap (λ (b : Bool). b && eqb t k) (lt-ltb t tokens h)

  -- a test by that mask
  pub bit_test : (m : ℕ) → m < 2 ^ tokens → k < tokens → not (eqb (bit_and m r) 0) ≡ bit m k
  bit_test m h l = go (bit m k) refl
    where
      go : (b : Bool) → bit m k ≡ b → not (eqb (bit_and m r) 0) ≡ b
      go true e =
          let set = bit_and_lem m r k ∙ ap₂ (λ (x y : Bool). x && y) e (at_token k l ∙ eq-eqb k k refl) in
          ap not (ne_eqb (bit_and m r) 0 (λ z. true≢false (sym set ∙ ap (λ (x : ℕ). bit x k) z ∙ bit_none k)))
      go false e = ap not (eq-eqb (bit_and m r) 0 (same_bits tokens (bit_and m r) 0 (and_lt tokens m r h below) (omega arith) (λ t. clear t ∙ sym (bit_none t))))
        where
          clear : (t : ℕ) → bit (bit_and m r) t ≡ false
          clear t =
              bit_and_lem m r t ∙ ⊎_elim
              (λ s. and_left (bit m t) (bit r t) (ap (bit m) s ∙ e))
              (λ s. and_right (bit m t) (bit r t) (alone t ∙ and_right (ltb t tokens) (eqb t k) (ne_eqb t k s)))
              (cases_eq t k)

-- a mask with no bit is 0
pub no_ones : (k m : ℕ) → m < 2 ^ k → ones m ≡ 0 → m ≡ 0
no_ones zero m h e = omega arith
no_ones (suc k) m h e =
    let half : ones (m / 2) ≡ 0 = omega (arith, ones_step m) in
    omega (arith, ones_step m, no_ones k (m / 2) (omega arith) half)

-- no number below 0 or from 64 on is a token
pub admits_below : (c : Choice) (x : ℤ) → x <ℤ pos 0 → choice_admits c x ≡ false
admits_below c (pos t) h = absurd (omega (arith, ints))
admits_below c (negsuc n) h = refl

pub admits_above : (c : Choice) (x : ℤ) → pos tokens ≤ℤ x → choice_admits c x ≡ false
admits_above c (pos t) h = bit_above tokens c.mask t (mask_below c) (omega (arith, ints))
admits_above c (negsuc n) h = absurd (omega (arith, ints))
