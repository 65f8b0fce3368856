-- The sum of even coefficients and an odd bound. Assumes nothing.
use Rattle.std.proofs.Common.{◌≡◌, ℕ, zero, suc, ◌<◌, T, List, ℤ, pos, ◌+ℤ◌, ◌*ℤ◌, ◌≤ℤ◌, refl, arith}
use lib.Signed.{le_z, le_z_yes}
use Rattle.std.proofs.lemmas.Int.{ints}
use Rattle.spans.specs.Bools.{both}
use Rattle.spans.specs.AmountKind.{amounts}
use Rattle.books.specs.Boards.{span_at, number_at}
use Rattle.rules.specs.Sums.{total, least_product_of, greatest_product_of, low, high, keep_at_most}
use Rattle.rules.specs.SumExamples.{even_sum, even_board, EvenLaw}

unchanged : (p : ℕ) → p < 3 → even_sum.answer p even_board ≡ span_at amounts even_board p
unfolding total least_product_of greatest_product_of low high keep_at_most
unchanged zero h = refl
unchanged (suc zero) h = refl
unchanged (suc (suc zero)) h = refl
unchanged (suc (suc (suc p))) h = absurd (omega arith)

odd : (x y z : ℤ) → (pos 2 *ℤ x +ℤ (pos 2 *ℤ y +ℤ (pos 2 *ℤ z +ℤ pos 0))) ≤ℤ pos 3 → pos 3 ≤ℤ (pos 2 *ℤ x +ℤ (pos 2 *ℤ y +ℤ (pos 2 *ℤ z +ℤ pos 0))) → ⊥
odd x y z h k = omega (arith, ints)

unobeyed : (h : List ℤ) → T (even_sum.obeys h) → ⊥
unfolding total
unobeyed h t =
    let s = both (le_z (pos 2 *ℤ number_at h 0 +ℤ (pos 2 *ℤ number_at h 1 +ℤ (pos 2 *ℤ number_at h 2 +ℤ pos 0))) (pos 3)) _ t in
    odd (number_at h 0) (number_at h 1) (number_at h 2) (le_z_yes s.0) (le_z_yes s.1)

pub even_law : EvenLaw
even_law = record { unchanged = unchanged; unobeyed = unobeyed }
