use Rattle.std.proofs.Common.{replicate, Err, sym, ap, ◌∙◌}
use Rattle.std.proofs.lemmas.Result.{err_from_is_err_and}
use Rattle.std.proofs.lemmas.Bool.{eqb-true, eqb-false}
use Rattle.engine.proofs.Limiting.{limiting_hole, limiting_nothing, limiting_full, limiting_tried}
use Rattle.engine.proofs.position.limits.limit.Goals as goal

pub returns-in_err-prepare : goal.returns-in_err-prepare
returns-in_err-prepare g c keep =
    let p = err_from_is_err_and c.from_residual-in_err-prepare.result c.from_residual-in_err-prepare.ensures.1 in
    limiting_hole g.B.Span.Span.kind _ c.args.position.now (record { place = c.args.place; span = c.args.span }) c.args.board.now c.args.working.now keep c.args.waiting.now c.in_ok-check_limit.ensures c.from_residual-in_err-prepare.result _ _ _ (p.1 ∙ ap Err p.2)
    c.in_err-prepare.ensures.answer c.prepare.ensures.working c.prepare.ensures.waiting

pub returns-then-is_empty : goal.returns-then-is_empty
returns-then-is_empty g c keep =
    let none = eqb-true (g.B.Span.Span.kind.size c.common-cut.result) 0 (sym c.is_empty.ensures.count ∙ c.if-is_empty.true) in
    limiting_nothing g.B.Span.Span.kind _ c.args.position.now (record { place = c.args.place; span = c.args.span }) c.args.board.now c.args.working.now keep c.args.waiting.now c.in_ok-check_limit.ensures c.in_ok-prepare.ensures.answer
    c.common-cut.result c.index-board-place.result c.common-cut.ensures c.index-board-place.is none _ _ c.prepare.ensures.working c.prepare.ensures.waiting

pub attempt-requires-clause-full : goal.attempt-requires-clause-full
attempt-requires-clause-full g c =
    let some = eqb-false (g.B.Span.Span.kind.size c.common-cut.result) 0 (sym c.is_empty.ensures.count ∙ c.if-is_empty.false) in
    limiting_full g.B.Span.Span.kind (g.B.Book.meaning c.args.book.now) c.args.position.now (record { place = c.args.place; span = c.args.span }) c.args.board.now c.args.working.now c.args.board.now c.args.waiting.now c.in_ok-check_limit.ensures c.in_ok-prepare.ensures.answer
    c.common-cut.result c.index-board-place.result c.common-cut.ensures c.index-board-place.is some c.prepare.new.working c.prepare.ensures.working

pub returns : goal.returns
returns g c keep =
    let some = eqb-false (g.B.Span.Span.kind.size c.common-cut.result) 0 (sym c.is_empty.ensures.count ∙ c.if-is_empty.false) in
    let e = c.attempt.ensures in
    limiting_tried g.B.Span.Span.kind (g.B.Book.meaning c.args.book.now) c.args.position.now (record { place = c.args.place; span = c.args.span }) c.args.board.now c.args.working.now keep c.args.waiting.now c.in_ok-check_limit.ensures c.in_ok-prepare.ensures.answer
    c.common-cut.result c.index-board-place.result c.common-cut.ensures c.index-board-place.is some c.prepare.new.working c.prepare.ensures.working _ _ _ _ e.answer e.board e.working (e.waiting ∙ ap (λ n. replicate n 0) c.prepare.auto.waiting)
