use Rattle.std.proofs.Common.{◌∙◌, rules}
use Rattle.std.proofs.lemmas.Iterator.{YieldsList-from_slice}
use Rattle.std.proofs.lemmas.Iterator.Search.{position_from_yields_List}
use Rattle.std.proofs.lemmas.Iterator.Adapters.{position_from-zero}
use Rattle.text.specs.Names.{same_name}
use Rattle.records.specs.declared.places.PlaceRow.{PlaceRow}
use Rattle.records.proofs.Naming.{position_shown}
use Rattle.records.proofs.names.Names.position.Goals as goal

pub returns-in_err-i : goal.returns-in_err-i
returns-in_err-i c =
    let test = λ (row : PlaceRow). same_name row.name.now c.args.name.now in
    let e = position_from_yields_List test _ _ c.position.result c.position.ensures.ran (YieldsList-from_slice c.args.self.places.now (cc)) (λ x b q k. search rules) ∙ position_from-zero test c.args.self.places.now ∙ position_shown 0 c.args.self.places.now c.args.name.now in
    search (rules, e)

pub returns : goal.returns
returns c =
    let test = λ (row : PlaceRow). same_name row.name.now c.args.name.now in
    let e = position_from_yields_List test _ _ c.position.result c.position.ensures.ran (YieldsList-from_slice c.args.self.places.now (cc)) (λ x b q k. search rules) ∙ position_from-zero test c.args.self.places.now ∙ position_shown 0 c.args.self.places.now c.args.name.now in
    search (rules, e)
