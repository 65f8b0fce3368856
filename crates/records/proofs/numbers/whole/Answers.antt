use Rattle.std.proofs.Common.{Ok, sym, ap, ◌∙◌, subst, w32, SFits}
use Rattle.records.proofs.Ranging.{plain, narrow, narrowed, cast_back}
use Rattle.records.proofs.numbers.whole.Goals as goal

pub overflow_cast-result : goal.overflow_cast-result
overflow_cast-result c =
    let f = c.ranges.low in
    let g = c.ranges.high in
    let e = c.in_ok-n.ensures in
    subst (SFits w32) (sym (narrowed _ _ _ f g c.args.at c.args.field.now e)) (narrow _ _ _ f g c.args.at c.args.field.now e)

pub returns : goal.returns
returns c =
    let f = c.ranges.low in
    let g = c.ranges.high in
    let e = c.in_ok-n.ensures in
    ap Ok (cast_back _ _ _ f g c.args.at c.args.field.now e) ∙ plain _ _ _ f g c.args.at c.args.field.now e
