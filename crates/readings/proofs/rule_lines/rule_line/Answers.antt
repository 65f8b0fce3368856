use Rattle.std.proofs.Common.{List, ℕ, ap, ◌∙◌, refl, rules, arith}
use Rattle.std.specs.Borrow.{Bor}
use Rattle.std.proofs.lemmas.Iterator.Consumers.{YieldsList-at, YieldsList-from_first, YieldsList-from_chain, YieldsList-from_filter, nth_from_yields_List}
use Rattle.readings.specs.RuleLines.{rule_line_test, ended_lines}
use Rattle.readings.specs.declared.rule_lines.EndedLines.{EndedLines}
use Rattle.readings.proofs.Finding.{numbered_as}
use Rattle.readings.proofs.RuleListing.{rule_lines_law}
use Rattle.readings.proofs.rule_lines.rule_line.Goals as goal

pub returns-clause-line : goal.returns-clause-line
returns-clause-line c =
    let all = YieldsList-from_chain
    (YieldsList-at c.chain-lines.ensures.first (YieldsList-from_first (λ (x : Bor (List ℕ)). x.now) (λ (lines : EndedLines). ended_lines lines.rest.now) (ended_lines c.args.game.now) refl))
    (YieldsList-at c.chain-lines.ensures.second (YieldsList-from_first (λ (x : Bor (List ℕ)). x.now) (λ (lines : EndedLines). ended_lines lines.rest.now) (ended_lines c.args.expansion.now) refl))
    c.chain-lines.ensures.first_done c.chain-lines.ensures.second_done in
    ap (λ (x : Bor (List ℕ)). x.now) c.unwrap_or.ensures
    ∙ numbered_as rule_line_test c.nth.result _ (ended_lines c.args.game.now) (ended_lines c.args.expansion.now) _ c.args.rule refl
    (nth_from_yields_List c.nth.result c.nth.new.self _ c.nth.ensures.ran (YieldsList-from_filter _ rule_line_test (YieldsList-at c.filter-rules.ensures.source all) c.filter-rules.ensures.closure (λ x b q k. search rules)))
    (omega arith)

pub returns-clause-law : goal.returns-clause-law
returns-clause-law c = rule_lines_law _ _
