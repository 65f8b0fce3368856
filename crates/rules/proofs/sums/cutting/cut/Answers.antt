use Rattle.std.proofs.Common.{◌≡◌, ◌<ℤ◌, ◌∙◌, ap₂, arith, w32, w64, to_z, of_z}
use Rattle.std.specs.Int.{int_max, int_min}
use Rattle.std.proofs.lemmas.Int.{ints, clamps}
use Rattle.spans.specs.Amounts.{amount_from}
use Rattle.spans.proofs.Amounting.{reach}
use Rattle.rules.proofs.SumCutting.{out_of_order}
use Rattle.rules.proofs.sums.cutting.cut.Goals as goal

pub returns-then-floor-ceiling : goal.returns-then-floor-ceiling
returns-then-floor-ceiling c =
    let floor = int_max c.args.low c.args.span.floor in
    let ceiling = int_min c.args.high c.args.span.ceiling in
    let less : ceiling <ℤ floor = omega (arith, ints, clamps) in
    c.empty.ensures ∙ out_of_order floor ceiling less

pub returns : goal.returns
returns c =
    let r = reach c.args.span in
    let floor : to_z w32 (of_z w32 (to_z w64 (of_z w64 c.max-floor.result))) ≡ int_max c.args.low c.args.span.floor = omega (arith, ints, clamps) in
    let ceiling : to_z w32 (of_z w32 (to_z w64 (of_z w64 c.min-ceiling.result))) ≡ int_min c.args.high c.args.span.ceiling = omega (arith, ints, clamps) in
    c.between.ensures.value ∙ ap₂ amount_from floor ceiling
