use Rattle.std.proofs.Common.{◌-◌, arith}
use Rattle.std.proofs.lemmas.List.{length-take-le}
use Rattle.engine.specs.Calls.{finish_list}
use Rattle.engine.proofs.Writing.{written_front}
use Rattle.engine.proofs.position.finish.finish.Goals as goal

pub returns : goal.returns
unfolding finish_list
returns g c working waiting keep =
    written_front g.S.Span.kind c.args.board.now c.args.position.counts.places (c.min-reached.result - 0) c.loop-place.place c.args.list.now c.loop-place.number-items (omega arith)
    (omega (arith, length-take-le (c.min-reached.result - 0) c.args.list.now (omega arith), c.loop-place.invariant.long)) c.loop-place.invariant
