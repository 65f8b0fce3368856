use Rattle.std.proofs.Common.{◌≡◌, [], length, length-take, Ok, sym, ap, ◌∙◌, ◌≤◌, arith, w64, SFits, rules}
use Rattle.std.proofs.lemmas.Int.{to_z-of_z}
use Rattle.std.proofs.lemmas.List.{map-id}
use Rattle.text.specs.Fields.{fields_left}
use Rattle.records.specs.Names.{named}
use Rattle.records.specs.Sums.{terms_from}
use Rattle.records.proofs.Summing.{sum_made}
use Rattle.records.proofs.sums.read_sum.Goals as goal

pub unwrap-row-requires : goal.unwrap-row-requires
unwrap-row-requires c =
    let fits : SFits w64 c.in_ok-bound.bound = search rules in
    let lent : Ok c.as_slice.result.now ≡ terms_from (named c.args.names) c.args.line 3 [] (fields_left c.args.terms) = ap Ok c.as_slice.ensures ∙ ap Ok (sym (map-id _)) ∙ c.in_ok-terms.ensures in
    let l = length-take c.in_ok-terms.terms.count c.in_ok-terms.terms.held in
    let few : length c.as_slice.result.now ≤ 16 = omega (arith, ap length c.as_slice.ensures) in
    sum_made (named c.args.names) c.args.line _ c.args.relation.now c.args.bound.now (fields_left c.args.terms) _ _ _ _ c.count.ensures (to_z-of_z w64 c.in_ok-bound.bound fits) c.in_ok-relation.ensures c.in_ok-bound.ensures lent c.requires.some few _ c.new.ensures
