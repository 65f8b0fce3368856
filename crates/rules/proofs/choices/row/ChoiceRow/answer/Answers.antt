use Rattle.std.proofs.Common.{sym, ◌∙◌}
use Rattle.rules.specs.ChoiceRules.{link_of}
use Rattle.rules.proofs.Answering.{empty_first, empty_second, at_neither, at_first, at_second}
use Rattle.rules.proofs.choices.row.ChoiceRow.answer.Goals as goal
use Rattle.rules.proofs.choices.row.ChoiceRow.answer.Goals.{then-is_empty-via-then-is_empty, then-is_empty-via-else-is_empty+then-is_empty-2}

pub returns-then-is_empty : goal.returns-then-is_empty
returns-then-is_empty c =
    let a = c.args in
    elim c.then-is_empty.branch [
      | then-is_empty-via-then-is_empty w ↦ empty_first (link_of a.self.now) a.place a.span a.one a.two (sym w.if-is_empty.ensures.count)
      | then-is_empty-via-else-is_empty+then-is_empty-2 w ↦ empty_second (link_of a.self.now) a.place a.span a.one a.two (sym w.if-is_empty-2.ensures.count)
    ]

pub returns-then-place-place_on : goal.returns-then-place-place_on
returns-then-place-place_on c =
    let a = c.args in
    at_first (link_of a.self.now) a.place a.span a.one a.two (sym c.if-is_empty.ensures.count) (sym c.if-is_empty-2.ensures.count) c.kept.result c.kept.ensures
    (c.if-place-place_on.true ∙ c.place_on.ensures)

pub returns-then-place-place_on-2 : goal.returns-then-place-place_on-2
returns-then-place-place_on-2 c =
    let a = c.args in
    at_second (link_of a.self.now) a.place a.span a.one a.two (sym c.if-is_empty.ensures.count) (sym c.if-is_empty-2.ensures.count) c.kept-then-place-place_on-2.result c.kept-then-place-place_on-2.ensures
    (λ e. c.if-place-place_on.false (e ∙ sym c.place_on.ensures)) (c.if-place-place_on-2.true ∙ c.place_on-2.ensures)

pub returns : goal.returns
returns c =
    let a = c.args in
    at_neither (link_of a.self.now) a.place a.span a.one a.two (λ e. c.if-place-place_on.false (e ∙ sym c.place_on.ensures)) (λ e. c.if-place-place_on-2.false (e ∙ sym c.place_on-2.ensures))
