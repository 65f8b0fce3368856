use Rattle.std.proofs.Common.{◌≡◌}
use Rattle.books.proofs.Wakes.{Seen}
use Rattle.books.proofs.Book.wake.Given as goal

abbrev pub invariant-loop-rule : goal.invariant-loop-rule
invariant-loop-rule g l = let book = g.Self.Book.meaning l.self in Seen book l.place l.rule l.initial.waiting l.waiting × (l.rule-end ≡ book.rules)
