use Rattle.rules.proofs.RowLaws.{book_lawful}
use Rattle.rules.proofs.rows.book.RowBookBook.lawful.Goals as goal

pub returns : goal.returns
returns g c = book_lawful g.R.Span.Span.kind g.R.Row.boards g.R.Row.rule c.lawful.ensures.sound c.args.self.now.places c.args.self.now.rows.now
