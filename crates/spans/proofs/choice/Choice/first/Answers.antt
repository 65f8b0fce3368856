use Rattle.std.proofs.Common.{ℕ, ◌-◌, ◌^◌, ltb, sym, ap, ◌∙◌, arith}
use Rattle.std.proofs.lemmas.Nat.{one_shl, pow_below}
use Rattle.std.proofs.lemmas.Bool.{lt-ltb}
use Rattle.spans.specs.Masks.{tokens, bit}
use Rattle.spans.proofs.Masking.{bit_lowest, bits_by}
use Rattle.spans.proofs.choice.Choice.first.Goals as goal

pub returns-then-count-ge-TOKENS : goal.returns-then-count-ge-TOKENS
returns-then-count-ge-TOKENS c =
    bits_by (2 ^ tokens - 1) (λ t. ltb t c.args.count) (omega arith) (λ t h. bit_lowest tokens t ∙ lt-ltb t tokens h ∙ sym (lt-ltb t c.args.count (omega arith)))

pub returns : goal.returns
returns c t =
    let n = c.args.count in
    let below = pow_below n tokens c.if-count-ge-TOKENS.false in
    ap (λ (m : ℕ). bit (m - 1) t) (one_shl n tokens c.if-count-ge-TOKENS.false) ∙ bits_by (2 ^ n - 1) (λ s. ltb s n) (omega arith) (λ s h. bit_lowest n s) t
