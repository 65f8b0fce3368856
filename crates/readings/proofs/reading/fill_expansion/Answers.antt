use Rattle.std.proofs.Common.{map, length, Err, refl, ap, ◌∙◌}
use Rattle.std.proofs.lemmas.Result.{err_from_is_err_and}
use Rattle.records.specs.Names.{named}
use Rattle.readings.specs.Tables.{rules_ahead}
use Rattle.readings.proofs.Beginning.{expansion_begun, expansion_not_begun, rules_told}
use Rattle.readings.proofs.reading.fill_expansion.Goals as goal

pub returns-in_err-read_title : goal.returns-in_err-read_title
returns-in_err-read_title g c =
    let p = err_from_is_err_and c.from_residual-in_err-read_title.result c.from_residual-in_err-read_title.ensures.1 in
    let rows = map g.R.RuleRow.holds c.args.rules.now in
    let e = expansion_not_begun g.R.RuleRow.sheets _ (named c.args.names) (length c.args.rules.now) c.args.sheet.now c.new-lines.result c.read_title.new.lines c.kind.ensures c.in_ok-check_sheet.ensures c.new-lines.ensures.read c.new-lines.ensures.left _ c.in_err-read_title.ensures.answer in
    let t = rules_told _ _ (Err _) rows rows e refl refl in
    record { told = p.1 ∙ ap Err p.2 ∙ t.told; rules = t.rules_are }

pub returns : goal.returns
returns g c =
    let rows = map g.R.RuleRow.holds c.args.rules.now in
    let e = expansion_begun g.R.RuleRow.sheets _ (named c.args.names) (length c.args.rules.now) c.args.sheet.now c.new-lines.result c.read_title.new.lines c.kind.ensures c.in_ok-check_sheet.ensures c.new-lines.ensures.read c.new-lines.ensures.left c.in_ok-read_title.ensures.answer c.in_ok-read_title.ensures.left c.in_ok-read_title.ensures.read in
    let t = rules_told _ (rules_ahead g.R.RuleRow.sheets (length c.args.rules.now) (named c.args.names) c.read_title.new.lines) _ rows _ e c.fill_rules.ensures.answer c.fill_rules.ensures.rules in
    record { told = t.told; rules = t.rules_are }
