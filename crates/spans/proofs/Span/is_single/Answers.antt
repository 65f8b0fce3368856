use Rattle.std.proofs.Common.{ℕ, eqb, sym, ap, ◌∙◌}
use Rattle.std.proofs.lemmas.Bool.{eqb-true, eq-eqb}
use Rattle.spans.proofs.Sizes.{one_single, single_one}
use Rattle.spans.proofs.Span.is_single.Goals as goal

pub returns : goal.returns
returns g c =
    let kind = g.Self.Span.kind in
    let a = c.args.self in
    let e = c.count.ensures in
    record {
      count = ap (λ (n : ℕ). eqb n 1) e;
      means = (λ t. one_single kind a (sym e ∙ eqb-true _ 1 t), λ f. eq-eqb _ 1 (e ∙ single_one kind a f));
    }
