use Rattle.std.proofs.Common.{ℕ, ◌^◌, eqb, sym, ap, ◌∙◌, arith}
use Rattle.std.proofs.lemmas.Nat.{one_shl, pow_below}
use Rattle.std.proofs.lemmas.Bool.{ne_eqb}
use Rattle.spans.specs.Masks.{tokens, bit}
use Rattle.spans.proofs.Masking.{bit_none, bit_moved, bits_by}
use Rattle.spans.proofs.choice.methods.mask_of.Goals as goal

pub returns-then-token-lt-TOKENS : goal.returns-then-token-lt-TOKENS
returns-then-token-lt-TOKENS c t =
    let k = c.args.token in
    let h = c.if-token-lt-TOKENS.true in
    ap (λ (m : ℕ). bit m t) (one_shl k tokens h) ∙ bits_by (2 ^ k) (λ s. eqb s k) (pow_below k tokens h) (λ s _. bit_moved k s) t

pub returns-else-token-lt-TOKENS : goal.returns-else-token-lt-TOKENS
returns-else-token-lt-TOKENS c = bits_by 0 (λ t. eqb t c.args.token) (omega arith) (λ t h. bit_none t ∙ sym (ne_eqb t c.args.token (λ e. omega arith)))
