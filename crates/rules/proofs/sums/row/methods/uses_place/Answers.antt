use Rattle.std.proofs.Common.{eqb, ◌∙◌, rules}
use Rattle.std.proofs.lemmas.Iterator.{YieldsList-from_slice}
use Rattle.std.proofs.lemmas.Iterator.Search.{any_from_yields_List}
use Rattle.rules.specs.declared.sums.term.Term.{Term}
use Rattle.rules.proofs.SumRowing.{any_uses}
use Rattle.rules.proofs.sums.row.methods.uses_place.Goals as goal

pub returns : goal.returns
returns c =
    any_from_yields_List (λ (t : Term). eqb c.args.place t.place) _ _ _ c.any.ensures.ran (YieldsList-from_slice c.args.terms.now cc) (λ x b q k. search rules)
    ∙ any_uses c.args.place c.args.terms.now
