use Rattle.std.proofs.Common.{sym, ap, ap₂, ◌∙◌, w32, SFits, rules}
use Rattle.std.proofs.lemmas.Int.{to_z-of_z}
use Rattle.sheets.specs.declared.title.SpanKind.TheVariants.{Amounts}
use Rattle.records.specs.declared.places.Opening.TheVariants.{Amount}
use Rattle.records.specs.RuleLines.{opens}
use Rattle.records.proofs.row.SumRowRuleRow.open.Goals as goal

pub returns-in-Amount : goal.returns-in-Amount
returns-in-Amount c =
    let f : SFits w32 c.in-Amount.floor = search rules in
    let g : SFits w32 c.in-Amount.ceiling = search rules in
    λ x. c.between.ensures.admits x ∙ ap₂ (λ a b. opens Amounts (Amount a b) x) (to_z-of_z w32 c.in-Amount.floor f) (to_z-of_z w32 c.in-Amount.ceiling g) ∙ sym (ap (λ o. opens Amounts o x) c.in-Amount.is)
