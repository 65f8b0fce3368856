use Rattle.std.proofs.Common.{◌∙◌, rules}
use Rattle.std.proofs.lemmas.Iterator.{YieldsList-from_slice}
use Rattle.std.proofs.lemmas.Iterator.Search.{any_from_yields_List}
use Rattle.text.specs.Names.{same_name}
use Rattle.records.specs.declared.places.PlaceRow.{PlaceRow}
use Rattle.records.proofs.Naming.{any_shown}
use Rattle.records.proofs.places.is_declared.Goals as goal

pub returns : goal.returns
returns c =
    any_from_yields_List (λ (row : PlaceRow). same_name row.name.now c.args.name.now) _ _ c.any.result c.any.ensures.ran (YieldsList-from_slice c.args.places.now (cc)) (λ x b q k. search rules)
    ∙ any_shown c.args.places.now c.args.name.now
