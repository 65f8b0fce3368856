use Rattle.std.proofs.Common.{◌≡◌, ◌<◌, pos, nat_abs, sym, ap, ◌∙◌, arith, w32, to_z, of_z}
use borrow.Author.Differences.{ints}
use Rattle.spans.specs.Masks.{tokens}
use Rattle.spans.specs.Choices.{choice_admits}
use Rattle.spans.specs.ChoiceLaws.{mask_below}
use Rattle.spans.proofs.Masking.{bit_test, admits_below, admits_above}
use Rattle.spans.proofs.choice.methods.ChoiceSpan.admits.Goals as goal
use Rattle.spans.proofs.choice.methods.ChoiceSpan.admits.Goals.{then-number-lt0-via-then-number-lt0, then-number-lt0-via-else-number-lt0+then-number}

pub returns-then-number-lt0 : goal.returns-then-number-lt0
returns-then-number-lt0 c =
    elim c.then-number-lt0.branch [
      | then-number-lt0-via-then-number-lt0 w ↦ sym (admits_below c.args.self c.args.number (omega (arith, ints)))
      | then-number-lt0-via-else-number-lt0+then-number w ↦ sym (admits_above c.args.self c.args.number (omega (arith, ints)))
    ]

pub returns : goal.returns
returns c =
    let k = nat_abs (to_z w32 (of_z w32 c.args.number)) in
    let is : c.args.number ≡ pos k = omega (arith, ints) in
    let few : k < tokens = omega (arith, ints) in
    bit_test c.mask_of.result k c.mask_of.type_inv c.mask_of.ensures c.args.self.mask (mask_below c.args.self) few ∙ ap (choice_admits c.args.self) (sym is)
