use Rattle.std.proofs.Common.{◌≡◌, ℕ, suc, ◌<◌, length}
use Rattle.books.specs.Sweeps.{total}
use Rattle.engine.specs.Skims.{skims}
use Rattle.engine.proofs.Falling.{Kept}
use Rattle.engine.proofs.sweep.settle.Given as goal

-- some number of sweeps is enough from here, and they come to what all come to
abbrev pub invariant-loop-after : goal.invariant-loop-after
invariant-loop-after g l =
    let kind = g.B.Span.Span.kind in
    let book = g.B.Book.meaning l.book in
    (m : ℕ)
    × (total kind l.board < m)
    × Kept kind book (total kind l.initial.board) (length l.initial.waiting) 0 l.board l.waiting l.strikes
    × (skims kind book (suc (total kind l.initial.board)) l.initial.board l.initial.waiting 0 ≡ skims kind book m l.board l.waiting l.strikes)

abbrev pub decreases-loop-after : goal.decreases-loop-after
decreases-loop-after g l = total g.B.Span.Span.kind l.board
