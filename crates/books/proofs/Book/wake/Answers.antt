use Rattle.std.proofs.Common.{◌≡◌, ℕ, ◌+◌, sym, ◌∙◌, subst, arith}
use Rattle.books.proofs.Wakes.{Seen, seen_none, seen_pass, seen_wake, seen_all}
use Rattle.books.proofs.Book.wake.Goals as goal
use Rattle.books.proofs.Book.wake.Goals.{then-has_place, else-has_place}

pub loop-rule-init : goal.loop-rule-init
loop-rule-init g c = (seen_none (g.Self.Book.meaning c.args.self.now) c.args.place c.args.waiting.now, c.rules-rule-end.ensures)

pub loop-rule-preserved : goal.loop-rule-preserved
loop-rule-preserved g c =
    let book = g.Self.Book.meaning c.args.self.now in
    let seen = Seen book c.args.place (c.loop-rule.rule + 1) c.args.waiting.now in
    elim c.if-has_place.branch [
      | then-has_place w ↦ (subst seen (sym w.waiting-is) (seen_wake book c.args.place c.loop-rule.rule c.args.waiting.now c.loop-rule.waiting c.loop-rule.invariant.0 (omega arith) (sym c.has_place.ensures ∙ w.if-has_place.true)), c.loop-rule.invariant.1)
      | else-has_place w ↦ (subst seen (sym w.waiting-is) (seen_pass book c.args.place c.loop-rule.rule c.args.waiting.now c.loop-rule.waiting c.loop-rule.invariant.0 (sym c.has_place.ensures ∙ w.if-has_place.false)), c.loop-rule.invariant.1)
    ]

pub returns : goal.returns
returns g c =
    let book = g.Self.Book.meaning c.args.self.now in
    let all : c.loop-rule.rule ≡ book.rules = omega arith in
    seen_all book c.args.place c.args.waiting.now c.loop-rule.waiting (subst (λ (n : ℕ). Seen book c.args.place n c.args.waiting.now c.loop-rule.waiting) all c.loop-rule.invariant.0)
