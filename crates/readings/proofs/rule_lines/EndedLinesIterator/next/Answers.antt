use Rattle.std.proofs.Common.{◌≡◌, ◌∷◌, List, ℕ, sym, ap, ◌∙◌, rules}
use Rattle.readings.specs.RuleLines.{ended_lines}
use Rattle.readings.proofs.Finding.{none_ended, first_ended}
use Rattle.readings.proofs.rule_lines.EndedLinesIterator.next.Goals as goal

pub returns-in_err-self-clause-steps : goal.returns-in_err-self-clause-steps
returns-in_err-self-clause-steps c =
    let e = none_ended c.args.self.now.rest.now _ _ c.length_before.ensures.value c.split_at.ensures.back c.get.result c.in_err-self.was c.get.ensures.lookup in
    search (rules, e)

pub returns : goal.returns
returns c =
    let left = ended_lines c.in_ok-self.field-0.now in
    let e : ended_lines c.args.self.now.rest.now ≡ c.split_at.result.0.now ∷ left =
    first_ended c.args.self.now.rest.now _ _ c.length_before.ensures.value c.split_at.ensures.back c.get.result _ c.in_ok-self.was c.get.ensures.lookup ∙ ap (λ (line : List ℕ). line ∷ left) (sym c.split_at.ensures.front) in
    record { steps = e; goes = search rules }
