use Rattle.std.proofs.Common.{◌≡◌, true, false, ℤ, pos, ◌-ℤ◌, neg_ℤ, ap, ◌∙◌, ap₂, arith, w32, w64, to_z, of_z}
use Rattle.std.specs.Int.{int_div_euclid, int_max, int_min}
use Rattle.std.proofs.lemmas.Int.{ints, clamps}
use Rattle.spans.specs.Amounts.{amount_from}
use Rattle.rules.proofs.SumProducts.{below_zero, over_zero}
use Rattle.rules.proofs.SumAdding.{by_sign}
use Rattle.rules.proofs.SumCutting.{keep_above, keep_below, quotient_near}
use Rattle.rules.proofs.sums.cutting.at_most.Goals as goal

pub returns-then-a-gt0 : goal.returns-then-a-gt0
returns-then-a-gt0 c =
    let a-is : to_z w64 (of_z w64 (to_z w32 (of_z w32 c.args.a))) ≡ c.args.a = omega (arith, ints) in
    let r-is : to_z w64 (of_z w64 c.args.r) ≡ c.args.r = omega (arith, ints) in
    let q-is : to_z w64 (of_z w64 c.div_euclid.result) ≡ c.div_euclid.result = omega (arith, ints) in
    let s = c.args.span in
    let q = to_z w64 (of_z w64 c.div_euclid.result) in
    let floor : int_max (to_z w64 (of_z w64 (to_z w32 (of_z w32 c.floor.result)))) s.floor ≡ s.floor = omega (arith, ints, clamps) in
    c.cut.ensures ∙ ap (λ (z : ℤ). amount_from z (int_min q s.ceiling)) floor ∙ keep_above c.args.a c.args.r _ c.args.span (by_sign c.args.a true c.ranges.a c.if-a-gt0.true) (q-is ∙ c.div_euclid.ensures ∙ ap₂ int_div_euclid r-is a-is)

pub overflow_sub-div_euclid : goal.overflow_sub-div_euclid
overflow_sub-div_euclid c =
    let a = c.args.a in
    let l = below_zero a c.requires.a (by_sign a false c.ranges.a c.if-a-gt0.false) in
    let a-is : to_z w64 (of_z w64 (pos 0 -ℤ to_z w64 (of_z w64 (to_z w32 (of_z w32 a))))) ≡ neg_ℤ a = omega (arith, ints) in
    let r-is : to_z w64 (of_z w64 c.args.r) ≡ c.args.r = omega (arith, ints) in
    let n = quotient_near 2_000_000_000_000 (neg_ℤ a) c.args.r (over_zero a l) (record { low = c.requires.r.0; high = c.requires.r.1 }) in
    let q-is = c.div_euclid-2.ensures ∙ ap₂ int_div_euclid r-is a-is in
    omega (arith, ints, n.low, n.high, q-is)

pub returns : goal.returns
returns c =
    let a = c.args.a in
    let l = below_zero a c.requires.a (by_sign a false c.ranges.a c.if-a-gt0.false) in
    let a-is : to_z w64 (of_z w64 (pos 0 -ℤ to_z w64 (of_z w64 (to_z w32 (of_z w32 a))))) ≡ neg_ℤ a = omega (arith, ints) in
    let r-is : to_z w64 (of_z w64 c.args.r) ≡ c.args.r = omega (arith, ints) in
    let n = quotient_near 2_000_000_000_000 (neg_ℤ a) c.args.r (over_zero a l) (record { low = c.requires.r.0; high = c.requires.r.1 }) in
    let q-is = c.div_euclid-2.ensures ∙ ap₂ int_div_euclid r-is a-is in
    let back : to_z w64 (of_z w64 (pos 0 -ℤ to_z w64 (of_z w64 c.div_euclid-2.result))) ≡ neg_ℤ (int_div_euclid c.args.r (neg_ℤ a)) = omega (arith, ints, n.low, n.high, q-is) in
    let s = c.args.span in
    let q = to_z w64 (of_z w64 (pos 0 -ℤ to_z w64 (of_z w64 c.div_euclid-2.result))) in
    let ceiling : int_min (to_z w64 (of_z w64 (to_z w32 (of_z w32 c.ceiling.result)))) s.ceiling ≡ s.ceiling = omega (arith, ints, clamps) in
    c.cut-2.ensures ∙ ap (λ (z : ℤ). amount_from (int_max q s.floor) z) ceiling ∙ keep_below a c.args.r _ c.args.span (by_sign a false c.ranges.a c.if-a-gt0.false) back
