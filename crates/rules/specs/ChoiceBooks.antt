-- What a book of rules over choices means. Assumes nothing.
use Rattle.std.specs.Prelude.{ℕ, List}
use Rattle.spans.specs.ChoiceKind.{choices}
use Rattle.spans.specs.declared.choice.Choice.{Choice}
use Rattle.books.specs.Meaning.{Rule, Meaning}
use Rattle.rules.specs.RowBooks.{row_book_of}
use Rattle.rules.specs.declared.choices.row.ChoiceRow.{ChoiceRow}
use Rattle.rules.specs.Between.{between}
use Rattle.rules.specs.ChoiceRows.{places_of}
use Rattle.rules.specs.ChoiceRules.{link_of}

-- the rule of a row on the boards that it is for
abbrev pub rule_of : ChoiceRow → Rule Choice
rule_of row = between (link_of row)

-- the book of these rows
abbrev pub choice_book_of : ℕ → List ChoiceRow → Meaning Choice
choice_book_of = row_book_of choices places_of rule_of
