use Rattle.std.proofs.Common.{false, arith}
use Rattle.spans.proofs.Masking.{bit_none, bits_by}
use Rattle.spans.proofs.choice.Choice.empty.Goals as goal

pub returns : goal.returns
returns c = bits_by 0 (λ _. false) (omega arith) (λ t h. bit_none t)
