use Rattle.spans.specs.ChoiceKind.{choices}
use Rattle.rules.specs.ArcConsistency.{ArcConsistentFor}
use Rattle.rules.specs.ChoiceBooks.{rule_of}
use Rattle.rules.specs.ChoiceRows.{places_of}
use Rattle.rules.proofs.ChoiceLaws.{arc_law}
use Rattle.rules.proofs.RowLaws.{book_consistent}
use Rattle.rules.proofs.choices.arc.settled_is_all_arc_consistent.Goals as goal

pub returns : goal.returns
returns c = book_consistent choices places_of rule_of ArcConsistentFor arc_law c.args.book.now.places c.args.book.now.rows.now
