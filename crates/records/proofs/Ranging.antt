-- Numbers that are granted lie in their range. Assumes nothing.
use Rattle.std.proofs.Common.{◌≡◌, ℕ, Bool, true, false, cond, ◌&&◌, T, List, ℤ, pos, negsuc, nat_abs, ◌≤ℤ◌, Some, None, Ok, Err, Option, sym, refl, ap, ◌∙◌, subst, arith, w8, w32, w64, Fits, SFits, to_z, of_z}
use borrow.Author.Differences.{ints}
use lib.Signed.{le_z, le_z_yes, non_neg}
use Rattle.std.proofs.lemmas.Bool.{and_parts}
use Rattle.text.specs.declared.fault.At.{At}
use Rattle.text.specs.declared.fault.FieldFault.TheVariants.{OutOfRange}
use Rattle.text.specs.Numbers.{within, number_of, number_in}
use Rattle.std.proofs.lemmas.Int.{to_z-of_z}

-- between two numbers
pub record Between (low high z : ℤ) : Type 0 where
  pub above : low ≤ℤ z
  pub below : z ≤ℤ high

T_from : {t : Bool} → t ≡ true → T t
T_from e = subst T (sym e) tt

pub within_range : (low high : ℤ) (at : At) (o : Option ℤ) (z : ℤ) → Ok z ≡ within low high at o → Between low high z
within_range low high at None z e = let n : ◌≡◌ {A = ℕ} 0 1 = cc in absurd (omega arith)
within_range low high at (Some y) z e = go (le_z low y && le_z y high) refl e
  where
    both : (le_z low y && le_z y high) ≡ true → Between low high y
    both t = let p = and_parts (le_z low y) (le_z y high) t in record { above = le_z_yes (T_from p.0); below = le_z_yes (T_from p.1) }

    go : (t : Bool) → (le_z low y && le_z y high) ≡ t → Ok z ≡ cond t (Ok y) (Err (OutOfRange at)) → Between low high z
    go true h e = let same : y ≡ z = cc in subst (Between low high) same (both h)
    go false h e = let n : ◌≡◌ {A = ℕ} 0 1 = cc in absurd (omega arith)

-- a number of 32 bits as one of 64
widened : (z : ℤ) → SFits w32 z → to_z w64 (of_z w64 (to_z w32 (of_z w32 z))) ≡ z
widened z f =
    let g : SFits w64 z = omega (arith, ints) in
    ap (λ y. to_z w64 (of_z w64 y)) (to_z-of_z w32 z f) ∙ to_z-of_z w64 z g

-- a number between two of 32 bits
module _ (low high n : ℤ) (f : SFits w32 low) (g : SFits w32 high) (at : At) (field : List ℕ)
    (e : Ok n ≡ number_in (to_z w64 (of_z w64 (to_z w32 (of_z w32 low)))) (to_z w64 (of_z w64 (to_z w32 (of_z w32 high)))) at field) where
  pub plain : Ok n ≡ number_in low high at field
  plain = e ∙ ap (λ y. number_in y (to_z w64 (of_z w64 (to_z w32 (of_z w32 high)))) at field) (widened low f) ∙ ap (λ y. number_in low y at field) (widened high g)

  pub narrow : SFits w32 n
  narrow = let r = within_range low high at (number_of field) n plain in omega (arith, ints)

  pub narrowed : to_z w64 (of_z w64 n) ≡ n
  narrowed = let r = narrow in let h : SFits w64 n = omega (arith, ints) in to_z-of_z w64 n h

  pub cast_back : to_z w32 (of_z w32 (to_z w64 (of_z w64 n))) ≡ n
  cast_back = ap (λ y. to_z w32 (of_z w32 y)) narrowed ∙ to_z-of_z w32 n narrow

-- a number of 8 bits as one of 64
unsigned : (m : ℕ) → Fits w8 m → to_z w64 m ≡ pos m
unsigned m f = omega (arith, ints)

pub counted_alike : (low high : ℕ) → Fits w8 low → Fits w8 high → (at : At) (field : List ℕ) → number_in (to_z w64 low) (to_z w64 high) at field ≡ number_in (pos low) (pos high) at field
counted_alike low high f g at field = ap (λ y. number_in y (to_z w64 high) at field) (unsigned low f) ∙ ap (λ y. number_in (pos low) y at field) (unsigned high g)

-- a number between two of 8 bits
module _ (low high : ℕ) (n : ℤ) (f : Fits w8 low) (g : Fits w8 high) (at : At) (field : List ℕ)
    (e : Ok n ≡ number_in (to_z w64 low) (to_z w64 high) at field) where
  pub counted : Ok n ≡ number_in (pos low) (pos high) at field
  counted = e ∙ counted_alike low high f g at field

  range : Between (pos low) (pos high) n
  range = within_range (pos low) (pos high) at (number_of field) n counted

  same : to_z w64 (of_z w64 n) ≡ n
  same = let r = range in let h : SFits w64 n = omega (arith, ints) in to_z-of_z w64 n h

  pub count_fits : T (non_neg (to_z w64 (of_z w64 n))) × Fits w8 (nat_abs (to_z w64 (of_z w64 n)))
  count_fits = subst (λ y. T (non_neg y) × Fits w8 (nat_abs y)) (sym same) (go n range)
    where
      go : (z : ℤ) → Between (pos low) (pos high) z → T (non_neg z) × Fits w8 (nat_abs z)
      go (pos m) r = (tt, omega (arith, ints))
      go (negsuc m) r = absurd (omega (arith, ints))
