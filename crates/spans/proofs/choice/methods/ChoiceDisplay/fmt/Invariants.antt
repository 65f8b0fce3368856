use Rattle.std.specs.Fmt.{HasWritten, IsPlainFormatter}
use Rattle.spans.specs.Texts.{tokens_text}
use Rattle.spans.proofs.choice.methods.ChoiceDisplay.fmt.Given as goal

-- the tokens so far are written
abbrev pub invariant-loop-token : goal.invariant-loop-token
invariant-loop-token g l = IsPlainFormatter l.initial.f → HasWritten g.W.Write.write_str_gives l.initial.f (tokens_text l.self.mask l.token-counter) l.f
