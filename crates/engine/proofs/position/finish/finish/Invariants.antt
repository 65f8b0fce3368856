use Rattle.engine.proofs.Writing.{Below}
use Rattle.engine.proofs.position.finish.finish.Given as goal

abbrev pub invariant-loop-place : goal.invariant-loop-place
invariant-loop-place g l = Below g.S.Span.kind l.board l.place l.initial.number-items l.number-items
