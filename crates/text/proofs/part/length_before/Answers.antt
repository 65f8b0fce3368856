use Rattle.std.proofs.Common.{rules, tests, ◌≡◌, ◌==◌}
use Rattle.std.proofs.lemmas.Iterator.{YieldsList-from_slice}
use Rattle.std.proofs.lemmas.Iterator.Search.{position_from_yields_List}
use Rattle.std.specs.List.{position}
use Rattle.text.proofs.Cutting.{position_before}
use Rattle.text.proofs.part.length_before.Goals as goal

pub returns-clause-value : goal.returns-clause-value
returns-clause-value c =
    let bs = c.args.bytes.now in
    let e : c.position.result ≡ position (λ b. b == c.args.mark) bs = position_from_yields_List _ _ _ _ c.position.ensures.ran (YieldsList-from_slice bs cc) (λ x b q k. search (rules, tests)) in
    search (rules, e, position_before c.args.mark bs)
