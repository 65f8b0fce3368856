use Rattle.std.proofs.Common.{◌≡◌, ◌+◌, ◌<◌, ◌≤◌, ◌∷◌, map, length, take, drop, Ok, Err, sym, ap, ◌∙◌, ⊎_elim, arith, length-set}
use Rattle.std.proofs.lemmas.List.{map-set, length-map, take_more_set}
use Rattle.std.proofs.lemmas.Result.{err_from_is_err_and, IfOk-from_err}
use Rattle.text.specs.Lines.{shown_option}
use Rattle.sheets.specs.declared.fault.SheetFault.TheVariants.{Full}
use Rattle.records.specs.Names.{named}
use Rattle.readings.specs.Lines.{whole, lines_left}
use Rattle.readings.specs.Readings.{rule_room}
use Rattle.readings.specs.Tables.{rules_ahead}
use Rattle.readings.proofs.Turning.{Held, NextLine, next_whole, next_none, rest_more, rules_end, rules_text, rule_refused, rules_full, rule_added}
use Rattle.readings.proofs.filling.fill_rules.Given.{Over}
use Rattle.readings.proofs.filling.fill_rules.Goals as goal
use Rattle.readings.proofs.filling.fill_rules.Goals.{After-next_line, In-Some}

-- what the loop holds
held : (g : Over) (c : After-next_line g) → Held g.R.RuleRow.sheets (rule_room (length c.args.rules.now)) (named c.args.names) c.loop-line.lines.read c.loop-line.count (map g.R.RuleRow.holds c.loop-line.rules) (map g.R.RuleRow.holds c.args.rules.now) (lines_left c.loop-line.lines) (rules_ahead g.R.RuleRow.sheets (length c.args.rules.now) (named c.args.names) c.args.lines.now)
held g c = record { inv = c.loop-line.invariant.0; rest = c.loop-line.invariant.1; some = simp length-map c.loop-line.invariant.2 }

-- the line of a turn is the first of those that were left
line_at : (g : Over) (c : In-Some g) → NextLine (lines_left c.loop-line.lines) c.loop-line.lines.read c.in-Some.line.now
line_at g c = next_whole _ _ _ (ap (λ o. Ok (shown_option o)) (sym c.in-Some.is) ∙ c.in_ok-line.ensures.answer)

first_at : (g : Over) (c : In-Some g) → lines_left c.loop-line.lines ≡ whole c.in-Some.line.now ∷ lines_left c.next_line.new.lines
first_at g c = (line_at g c).first ∙ ap (λ ls. whole c.in-Some.line.now ∷ ls) (sym c.next_line.ensures.left)

pub returns-in_err-line : goal.returns-in_err-line
returns-in_err-line g c =
    let p = err_from_is_err_and c.from_residual.result c.from_residual.ensures.1 in
    let t = rules_text (held g (goal.at.returns-in_err-line g c).After-next_line) _ c.in_err-line.ensures.answer in
    record {
      answer = p.1 ∙ ap Err p.2 ∙ t.answer_is;
      rules = t.rules_are;
      read = IfOk-from_err _ _ c.from_residual.ensures.0;
    }

pub returns-in_err-rule : goal.returns-in_err-rule
returns-in_err-rule g c =
    let d = (goal.at.returns-in_err-rule g c).In-Some in
    let p = err_from_is_err_and c.from_residual-in_err-rule.result c.from_residual-in_err-rule.ensures.1 in
    let t = rule_refused (held g (goal.at.returns-in_err-rule g c).After-next_line) _ _ _ (first_at g d) (c.read.ensures ∙ c.next_line.ensures.read ∙ (line_at g d).count) _ c.in_err-rule.ensures in
    record {
      answer = p.1 ∙ ap Err p.2 ∙ t.answer_is;
      rules = t.rules_are;
      read = IfOk-from_err _ _ c.from_residual-in_err-rule.ensures.0;
    }

pub returns-then-count-rules : goal.returns-then-count-rules
returns-then-count-rules g c =
    let d = (goal.at.returns-then-count-rules g c).In-Some in
    let full : rule_room (length c.args.rules.now) ≤ c.loop-line.count = ⊎_elim (λ h. omega (arith, c.loop-line.invariant.3)) (λ h. omega (arith, h.1)) c.then-count-rules.either in
    let line_is = c.read.ensures ∙ sym c.read-then-count-rules.ensures in
    let t = rules_full (held g (goal.at.returns-then-count-rules g c).After-next_line) _ _ _ (first_at g d) (c.read.ensures ∙ c.next_line.ensures.read ∙ (line_at g d).count) _ c.in_ok-rule.ensures full in
    record {
      answer = ap (λ n. Err (Full n)) (sym line_is) ∙ t.answer_is;
      rules = t.rules_are;
      read = tt;
    }

pub loop-line-preserved : goal.loop-line-preserved
loop-line-preserved g c =
    let d = (goal.at.loop-line-preserved g c).In-Some in
    let h = held g (goal.at.loop-line-preserved g c).After-next_line in
    let xs = map g.R.RuleRow.holds c.loop-line.rules in
    let room : c.loop-line.count < length xs = simp length-map c.if-count-rules.false in
    let free : c.loop-line.count < rule_room (length c.args.rules.now) = omega (arith, c.if-count-rules.false, c.if-count-ge-MOST_RULES.false, c.loop-line.invariant.3) in
    let written = map-set g.R.RuleRow.holds c.loop-line.rules c.loop-line.count c.in_ok-rule.rule in (
      rule_added h _ _ _ (first_at g d) (c.read.ensures ∙ c.next_line.ensures.read ∙ (line_at g d).count) _ _ _ c.read.ensures c.in_ok-rule.ensures free (ap (take (c.loop-line.count + 1)) written ∙ take_more_set xs c.loop-line.count _ room),
      ap (drop (c.loop-line.count + 1)) written ∙ rest_more xs _ c.loop-line.count h.some h.rest _,
      simp length-set (omega (arith, c.if-count-rules.false)),
      length-set _ _ _ ∙ c.loop-line.invariant.3,
    )

pub returns : goal.returns
returns g c =
    let e = next_none _ c.loop-line.lines.read (ap (λ o. Ok (shown_option o)) (sym c.in_default.is) ∙ c.in_ok-line.ensures.answer) in
    let t = rules_end (held g (goal.at.returns g c).After-next_line) e.0 in
    record {
      answer = t.0.answer_is;
      rules = t.0.rules_are;
      read = c.next_line.ensures.read ∙ e.1 ∙ sym t.1;
    }
