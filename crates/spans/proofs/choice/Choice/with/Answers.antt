use Rattle.std.proofs.Common.{Bool, ◌||◌, eqb, ap, ◌∙◌, rules}
use lib.Bits.{bit_or}
use Rattle.std.proofs.lemmas.Nat.{or_lt}
use Rattle.spans.specs.Masks.{tokens, bit}
use Rattle.spans.specs.ChoiceLaws.{mask_below}
use Rattle.spans.proofs.Masking.{or_mask, bit_or_lem, bits_by, at_token}
use Rattle.spans.proofs.choice.Choice.with.Goals as goal

pub invariant_of-result : goal.invariant_of-result
invariant_of-result c = search (rules, or_mask)

pub returns : goal.returns
returns c =
    let m = c.args.self.mask in
    let r = c.mask_of.result in
    let k = c.args.token in
    bits_by (bit_or m r) (λ t. bit m t || eqb t k) (or_lt tokens m r (mask_below c.args.self) c.mask_of.type_inv)
    (λ t h. bit_or_lem m r t ∙ ap (λ (b : Bool). bit m t || b) (at_token r k c.mask_of.type_inv c.mask_of.ensures t h))
