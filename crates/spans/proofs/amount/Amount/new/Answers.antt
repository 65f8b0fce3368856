use Rattle.std.proofs.Common.{rules}
use Rattle.spans.proofs.Amounting.{asked_made}
use Rattle.spans.proofs.amount.Amount.new.Goals as goal

pub returns-then-are_bounds : goal.returns-then-are_bounds
returns-then-are_bounds c = record { value = asked_made _ c.args.floor c.args.ceiling (search rules) (search rules) (search rules); ends = search rules }
