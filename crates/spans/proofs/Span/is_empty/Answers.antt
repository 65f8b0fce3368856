use Rattle.std.proofs.Common.{ℕ, eqb, sym, ap, ◌∙◌}
use Rattle.std.proofs.lemmas.Bool.{eqb-true, eq-eqb}
use Rattle.spans.proofs.Sizes.{zero_empty, empty_zero}
use Rattle.spans.proofs.Span.is_empty.Goals as goal

pub returns : goal.returns
returns g c =
    let kind = g.Self.Span.kind in
    let a = c.args.self in
    let e = c.count.ensures in
    record {
      count = ap (λ (n : ℕ). eqb n 0) e;
      means = (λ t. zero_empty kind a (sym e ∙ eqb-true _ 0 t), λ f. eq-eqb _ 0 (e ∙ empty_zero kind a f));
    }
