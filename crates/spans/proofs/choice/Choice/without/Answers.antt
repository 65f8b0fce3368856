use Rattle.std.proofs.Common.{◌-◌, ◌^◌, Bool, not, ◌&&◌, eqb, ap, ◌∙◌, arith}
use lib.Bits.{bit_and, and_lt}
use Rattle.spans.specs.Masks.{tokens, bit}
use Rattle.spans.specs.MaskLaws.{bit_and_lem}
use Rattle.spans.specs.ChoiceLaws.{mask_below}
use Rattle.spans.proofs.Masking.{bit_not, bits_by, at_token}
use Rattle.spans.proofs.choice.Choice.without.Goals as goal

pub returns : goal.returns
returns c =
    let m = c.args.self.mask in
    let r = c.mask_of.result in
    let k = c.args.token in
    let others = 2 ^ tokens - 1 - r in
    bits_by (bit_and m others) (λ t. bit m t && not (eqb t k)) (and_lt tokens m others (mask_below c.args.self) (omega arith))
    (λ t h. bit_and_lem m others t ∙ ap (λ (b : Bool). bit m t && b) (bit_not tokens r t c.mask_of.type_inv h ∙ ap not (at_token r k c.mask_of.type_inv c.mask_of.ensures t h)))
