use Rattle.std.proofs.Common.{ap, ◌∙◌, rules}
use Rattle.spans.specs.Amounts.{amount_admits}
use Rattle.spans.specs.AmountLaws.{from_admits}
use Rattle.spans.specs.declared.amount.Amount.{Amount}
use Rattle.spans.proofs.Amounting.{from_made, from_empty}
use Rattle.spans.proofs.amount.Amount.between.Goals as goal

pub returns-then-are_bounds : goal.returns-then-are_bounds
returns-then-are_bounds c =
    let e = from_made _ c.args.floor c.args.ceiling (search rules) (search rules) (search rules) in
    record { value = e; admits = λ x. ap (λ (a : Amount). amount_admits a x) e ∙ from_admits c.args.floor c.args.ceiling x }

pub returns : goal.returns
returns c =
    let e = from_empty c.empty.result c.args.floor c.args.ceiling (search rules) c.empty.ensures in
    record { value = e; admits = λ x. ap (λ (a : Amount). amount_admits a x) e ∙ from_admits c.args.floor c.args.ceiling x }
