-- Books of sums. Assumes nothing.
use Rattle.std.specs.Prelude.{ℕ, List}
use Rattle.spans.specs.AmountKind.{amounts}
use Rattle.spans.specs.declared.amount.Amount.{Amount}
use Rattle.books.specs.Meaning.{Meaning, Rule}
use Rattle.rules.specs.RowBooks.{row_book_of}
use Rattle.rules.specs.SumRows.{terms_of, boards_of}
use Rattle.rules.specs.Sums.{sum_rule}
use Rattle.rules.specs.declared.sums.row.SumRow.{SumRow}

-- the rule of a row on the boards that it is for
abbrev pub rule_of : SumRow → Rule Amount
rule_of row = sum_rule row.relation row.bound (terms_of row)

-- the book of rows, by a count of places that may be out of range
abbrev pub sum_book_of : ℕ → List SumRow → Meaning Amount
sum_book_of = row_book_of amounts boards_of rule_of
