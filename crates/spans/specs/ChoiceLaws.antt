-- Choices keep the laws of spans: the proofs, which stand in specs/ since a kind holds them. Assumes nothing.
use Rattle.std.specs.Prelude.{◌≡◌, ℕ, zero, suc, ◌+◌, ◌-◌, ◌%◌, ◌^◌, ◌<◌, ◌≤◌, Bool, false, cond, ◌&&◌, T, ℤ, pos, negsuc, ◌≤ℤ◌, count_ones, refl}
use Rattle.std.proofs.Common.{sym, ◌∙◌, ap, ap₂, subst, ⊎_elim, add-zero, add-suc, mod-eq_of_lt, arith, ltb→lt}
use mathlib.Core.HLevel.{is_prop→PathP}
use Rattle.std.proofs.lemmas.Int.{ints}
use Rattle.std.proofs.Math.Dec.{T_prop}
use Rattle.std.proofs.lemmas.Bool.{cases_lt}
use Rattle.spans.specs.Numbers.{Number, million, number, numbers, counted}
use Rattle.spans.specs.Counts.{counted_none, counted_next, counted_gap}
use Rattle.spans.specs.Masks.{tokens, is_mask}
use Rattle.spans.specs.MaskLaws.{bit_above, same_bits, bit_and_lem, ones_none, ones_next, lowest_bit}
use Rattle.spans.specs.Choices.{choice_admits, choice_size, choice_least, no_choice, choice_meet}
use Rattle.spans.specs.declared.choice.Choice.{Choice}

-- choices of the same mask are the same
pub same_mask : (a b : Choice) → a.mask ≡ b.mask → a ≡ b
same_mask a b p = λ i. record { mask = p i; ok = is_prop→PathP (λ j. T (is_mask (p j))) (λ j. T_prop (is_mask (p j))) a.ok b.ok i }

pub mask_below : (c : Choice) → c.mask < 2 ^ tokens
mask_below c = ltb→lt c.mask (2 ^ tokens) c.ok

-- a token is one of 0 to 63
pub token : (c : Choice) (t : ℕ) → T (choice_admits c (pos t)) → t < tokens
token c t h = ⊎_elim (λ l. l) (λ l. absurd (subst T (bit_above tokens c.mask t (mask_below c) l) h)) (cases_lt t tokens)

pub choice_in_range : (c : Choice) (x : ℤ) → T (choice_admits c x) → Number x
choice_in_range c (pos t) h = record { low = omega (arith, ints); high = omega (arith, ints, token c t h) }
choice_in_range c (negsuc n) h = absurd h

pub choice_same : (a b : Choice) → ((x : ℤ) → choice_admits a x ≡ choice_admits b x) → a ≡ b
choice_same a b f = same_mask a b (same_bits tokens a.mask b.mask (mask_below a) (mask_below b) (λ t. f (pos t)))

pub choice_meet_admits : (a b : Choice) (x : ℤ) → choice_admits (choice_meet a b) x ≡ (choice_admits a x && choice_admits b x)
choice_meet_admits a b (pos t) = bit_and_lem a.mask b.mask t
choice_meet_admits a b (negsuc n) = refl

pub no_choice_admits : (x : ℤ) → choice_admits no_choice x ≡ false
no_choice_admits (pos t) = bit_above 0 0 t (omega arith) (omega arith)
no_choice_admits (negsuc n) = refl

-- ---- the size

-- the numbers at the first places are below 0, and the next are the tokens
below : (i : ℕ) → i < million → number i ≡ negsuc (million - suc i)
below i h = omega (arith, ints)

from_zero : (t : ℕ) → number (million + t) ≡ pos t
from_zero t = omega (arith, ints)

module _ (c : Choice) where
  tokens_counted : (n : ℕ) → counted (choice_admits c) (million + n) ≡ count_ones (c.mask % 2 ^ n)
  tokens_counted zero =
      ap (counted (choice_admits c)) (add-zero million) ∙ counted_gap (choice_admits c) 0 million (λ i h l. ap (choice_admits c) (below i l)) ∙ counted_none (choice_admits c)
      ∙ sym ones_none ∙ ap count_ones (omega arith)
  tokens_counted (suc n) =
      ap (counted (choice_admits c)) (add-suc million n) ∙ counted_next (choice_admits c) (million + n)
      ∙ ap₂ (λ (m : ℕ) (b : Bool). m + cond b 1 0) (tokens_counted n) (ap (choice_admits c) (from_zero n)) ∙ sym (ones_next c.mask n)

  pub choice_counts : choice_size c ≡ counted (choice_admits c) numbers
  choice_counts =
      let all : numbers ≡ million + tokens + (numbers - (million + tokens)) = omega arith in
      sym (ap (counted (choice_admits c)) all ∙ counted_gap (choice_admits c) (million + tokens) (numbers - (million + tokens)) (λ i h l. above i h)
      ∙ tokens_counted tokens ∙ ap count_ones (mod-eq_of_lt (mask_below c)))
    where
      above : (i : ℕ) → million + tokens ≤ i → choice_admits c (number i) ≡ false
      above i h =
          let e : number i ≡ pos (i - million) = omega (arith, ints) in
          ap (choice_admits c) e ∙ bit_above tokens c.mask (i - million) (mask_below c) (omega arith)

-- ---- the least token

lowest : (c : Choice) (x : ℤ) → T (choice_admits c x) → T (choice_admits c (choice_least c)) × (choice_least c ≤ℤ x)
lowest c (pos t) h = let r = lowest_bit tokens c.mask t (token c t h) h in (r.0, omega (arith, ints, r.1))
lowest c (negsuc n) h = absurd h

pub choice_least_admitted : (c : Choice) (x : ℤ) → T (choice_admits c x) → T (choice_admits c (choice_least c))
choice_least_admitted c x h = (lowest c x h).0

pub choice_least_first : (c : Choice) (x : ℤ) → T (choice_admits c x) → choice_least c ≤ℤ x
choice_least_first c x h = (lowest c x h).1
