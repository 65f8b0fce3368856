use Rattle.rules.proofs.RowLaws.{book_consistent}
use Rattle.rules.proofs.rows.book.RowBook.new.Goals as goal

pub returns-clause-consistent : goal.returns-clause-consistent
returns-clause-consistent g c = book_consistent g.R.Span.Span.kind g.R.Row.boards g.R.Row.rule g.R.Row.consistent c.lawful.ensures.settled c.args.places c.args.rows.now
