use Rattle.text.proofs.Spelling.{number_law}
use Rattle.text.proofs.numbers.number.Goals as goal

pub returns-in-empty-clause-law : goal.returns-in-empty-clause-law
returns-in-empty-clause-law c = number_law c.args.field.now

pub returns-in-45-clause-law : goal.returns-in-45-clause-law
returns-in-45-clause-law c = number_law c.args.field.now

pub returns-in-len1-up-clause-law : goal.returns-in-len1-up-clause-law
returns-in-len1-up-clause-law c = number_law c.args.field.now
