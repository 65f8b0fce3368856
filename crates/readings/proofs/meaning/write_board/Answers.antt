use Rattle.std.proofs.Common.{◌<◌, map, length, sym, ap, ◌∙◌, arith}
use Rattle.std.proofs.lemmas.List.{length-map, get_or-map}
use Rattle.records.specs.Places.{Place, place_shown}
use Rattle.records.specs.RuleLines.{opens}
use Rattle.readings.proofs.Opening.{opened_more, opened_all}
use Rattle.readings.proofs.meaning.write_board.Goals as goal

pub loop-i-preserved : goal.loop-i-preserved
loop-i-preserved g c =
    let rows = c.args.sheet.now.places.now in
    let l = length-map rows place_shown in
    let h : c.loop-i.i < length rows = omega (arith, c.loop-i-test.true, c.min-i-end.ensures) in
    let k : c.loop-i.i < length c.loop-i.board = omega (arith, c.loop-i-test.true, c.min-i-end.ensures, c.loop-i.auto.board) in (
      opened_more g.R.Span.Span.kind g.R.RuleRow.sheets (map place_shown rows) c.args.board.now c.loop-i.i c.loop-i.board c.open.result (omega arith) k c.loop-i.invariant.0
          (λ d x. c.open.ensures x ∙ ap (λ (p : Place). opens g.R.RuleRow.sheets p.opening x) (sym (get_or-map place_shown rows c.loop-i.i _ d h))),
      c.loop-i.invariant.1,
    )

pub returns : goal.returns
returns g c =
    let rows = c.args.sheet.now.places.now in
    let l = length-map rows place_shown in
    opened_all g.R.Span.Span.kind g.R.RuleRow.sheets (map place_shown rows) c.args.board.now c.loop-i.i c.loop-i.board (omega (arith, c.loop-i-test.false, c.loop-i.auto.i-end, c.min-i-end.ensures)) c.loop-i.invariant.0
