use Rattle.std.proofs.Common.{◌≡◌, Bool, ltb, ◌≢◌, MatchBool, sym, subst, ap₂}
use Rattle.spans.proofs.Sizes.{size_within, told_apart}
use Rattle.spans.proofs.Span.is_narrower.Goals as goal

pub returns : goal.returns
returns g c =
    let kind = g.Self.Span.kind in
    let a = c.args.self in
    let b = c.args.other in
    let e = ap₂ ltb c.count.ensures c.count-2.ensures in
    record { count = e; most = size_within kind a b; means = λ w. subst (λ (t : Bool). MatchBool t (a ≢ b) (a ≡ b)) (sym e) (told_apart kind a b w) }
