use Rattle.std.proofs.Common.{◌≡◌, ◌∙◌, ap₂, arith, w32, to_z, of_z}
use Rattle.std.specs.Int.{int_max, int_min}
use Rattle.std.proofs.lemmas.Int.{ints, clamps}
use Rattle.spans.specs.Amounts.{amount_from}
use Rattle.spans.proofs.amount.methods.AmountSpan.common.Goals as goal

pub returns : goal.returns
returns c =
    let floor : to_z w32 (of_z w32 c.max.result) ≡ int_max c.args.self.floor c.args.other.floor = omega (arith, ints, clamps) in
    let ceiling : to_z w32 (of_z w32 c.min.result) ≡ int_min c.args.self.ceiling c.args.other.ceiling = omega (arith, ints, clamps) in
    c.between.ensures.value ∙ ap₂ amount_from floor ceiling
