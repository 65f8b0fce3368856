use Rattle.std.proofs.Common.{replicate, Err, ap, ◌∙◌}
use Rattle.std.proofs.lemmas.Result.{err_from_is_err_and}
use Rattle.engine.proofs.Openings.{opening_hole, opening_refused, opening_granted}
use Rattle.engine.proofs.position.opening.opening.Goals as goal

pub returns-in_err-prepare-clause-call : goal.returns-in_err-prepare-clause-call
returns-in_err-prepare-clause-call g c keep =
    let p = err_from_is_err_and c.from_residual-in_err-prepare.result c.from_residual-in_err-prepare.ensures.1 in
    opening_hole g.B.Span.Span.kind _ c.args.board.now c.args.working.now keep c.args.waiting.now c.of-counts.result c.of-counts.ensures c.in_ok-check_memory.ensures c.from_residual-in_err-prepare.result _ _ _ (p.1 ∙ ap Err p.2)
    c.in_err-prepare.ensures.answer c.prepare.ensures.working c.prepare.ensures.waiting

pub returns-in_err-strikes-clause-call : goal.returns-in_err-strikes-clause-call
returns-in_err-strikes-clause-call g c keep =
    let p = err_from_is_err_and c.from_residual-in_err-strikes.result c.from_residual-in_err-strikes.ensures.1 in
    let e = c.in_err-strikes.ensures in
    opening_refused g.B.Span.Span.kind _ c.args.board.now c.args.working.now keep c.args.waiting.now c.of-counts.result c.of-counts.ensures c.in_ok-check_memory.ensures c.in_ok-prepare.ensures.answer c.prepare.new.working c.prepare.ensures.working
    c.from_residual-in_err-strikes.result _ _ _ _ (p.1 ∙ ap Err p.2) e.answer e.board e.working (e.waiting ∙ ap (λ n. replicate n 0) c.prepare.auto.waiting)

pub returns-clause-call : goal.returns-clause-call
returns-clause-call g c keep =
    let e = c.in_ok-strikes.ensures in
    opening_granted g.B.Span.Span.kind _ c.args.board.now c.args.working.now keep c.args.waiting.now c.of-counts.result c.of-counts.ensures c.in_ok-check_memory.ensures c.in_ok-prepare.ensures.answer c.prepare.new.working c.prepare.ensures.working
    _ _ _ _ e.answer e.board e.working (e.waiting ∙ ap (λ n. replicate n 0) c.prepare.auto.waiting)
