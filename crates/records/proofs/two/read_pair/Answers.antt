use Rattle.std.proofs.Common.{◌≡◌, ◌≤◌, [], map, length, length-take, Ok, ap, ◌∙◌, arith}
use Rattle.text.specs.Fields.{fields_left}
use Rattle.records.specs.Names.{named}
use Rattle.records.specs.Between.{tokens_shown, tokens_from}
use Rattle.records.proofs.Pairing.{pair_made}
use Rattle.records.proofs.two.read_pair.Goals as goal

pub unwrap-row-requires : goal.unwrap-row-requires
unwrap-row-requires c =
    let lent : Ok (map tokens_shown c.as_slice.result.now) ≡ tokens_from c.args.line 3 [] (fields_left c.args.pairs) = ap (λ ts. Ok (map tokens_shown ts)) c.as_slice.ensures ∙ c.in_ok-pairs.ensures in
    let l = length-take c.in_ok-pairs.pairs.count c.in_ok-pairs.pairs.held in
    let few : length c.as_slice.result.now ≤ 100 = omega (arith, ap length c.as_slice.ensures) in
    pair_made (named c.args.names) c.args.line _ c.args.first.now c.args.second.now (fields_left c.args.pairs) c.in_ok-two.two _ c.count.ensures c.in_ok-two.ensures lent c.requires.some few _ c.new.ensures
