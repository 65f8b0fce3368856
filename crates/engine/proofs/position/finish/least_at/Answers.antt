use Rattle.std.proofs.Common.{◌∙◌, rules, w32}
use Rattle.std.proofs.lemmas.Int.{to_z-of_z}
use Rattle.engine.proofs.Writing.{least_found}
use Rattle.engine.proofs.position.finish.least_at.Goals as goal

pub returns : goal.returns
returns g c =
    to_z-of_z w32 c.unwrap_or.result (search rules) ∙ c.unwrap_or.ensures
    ∙ least_found g.S.Span.kind c.args.board.now c.args.place c.get.result c.and_then.result (search rules) (search rules)
