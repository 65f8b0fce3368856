use Rattle.std.proofs.Common.{Err, ap, ◌∙◌}
use Rattle.std.proofs.lemmas.Result.{err_from_is_err_and}
use Rattle.text.specs.Lines.{left}
use Rattle.readings.specs.Lines.{lines_of, raised, shown_next}
use Rattle.readings.proofs.Walking.{walks}
use Rattle.readings.proofs.walk.next_line.Goals as goal

pub returns-in_err-next : goal.returns-in_err-next
returns-in_err-next c =
    let l = c.args.lines.now in
    let w = walks l.read (left l) in
    let p = err_from_is_err_and c.from_residual.result c.from_residual.ensures.1 in
    record {
      answer = ap shown_next p.1 ∙ ap Err p.2 ∙ ap raised (c.in_err-next.ensures.answer ∙ w.answer);
      left = ap lines_of c.next.ensures.left ∙ w.left;
      read = c.next.ensures.read ∙ w.count;
    }

pub returns : goal.returns
returns c =
    let l = c.args.lines.now in
    let w = walks l.read (left l) in
    record {
      answer = ap raised (c.in_ok-next.ensures.answer ∙ w.answer);
      left = ap lines_of c.next.ensures.left ∙ w.left;
      read = c.next.ensures.read ∙ w.count;
    }
