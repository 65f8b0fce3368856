use Rattle.std.proofs.Common.{◌≡◌, ◌+◌, ◌-◌, ◌*◌, ◌≤◌, length, drop}
use Rattle.books.specs.Boards.{Full}
use Rattle.books.specs.Sweeps.{total}
use Rattle.engine.specs.Skims.{tend, skim_from}
use Rattle.engine.proofs.sweep.sweep.Given as goal

-- the places left of the rule, from here, come to what all of them come to from where its visit began
abbrev pub invariant-loop-i : goal.invariant-loop-i
invariant-loop-i g l =
    let kind = g.B.Span.Span.kind in
    let book = g.B.Book.meaning l.book in
    let scope = (book.rule l.rule).scope in
    Full kind book.places l.board
    × (total kind l.board + l.strikes ≤ 2000001 * 254)
    × (l.i-end ≡ length scope)
    × (book.rules ≤ length l.waiting)
    × (tend kind book l.rule scope l.initial.board l.initial.waiting l.initial.strikes ≡ tend kind book l.rule (drop l.i scope) l.board l.waiting l.strikes)

-- the rules left come to what all of them come to
abbrev pub invariant-loop-rule : goal.invariant-loop-rule
invariant-loop-rule g l =
    let kind = g.B.Span.Span.kind in
    let book = g.B.Book.meaning l.book in
    Full kind book.places l.board
    × (total kind l.board + l.strikes ≤ 2000001 * 254)
    × (l.rule-end ≡ book.rules)
    × (book.rules ≤ length l.waiting)
    × (skim_from kind book book.rules 0 l.initial.board l.initial.waiting l.initial.strikes ≡ skim_from kind book (book.rules - l.rule) l.rule l.board l.waiting l.strikes)
