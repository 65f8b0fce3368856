use Rattle.std.proofs.Common.{get_or, sym, ◌∙◌, ◌+◌, arith}
use Rattle.text.proofs.Spelling.{digit_some, value_more, pow_more, pow_below}
use Rattle.text.proofs.numbers.value.Goals as goal

pub overflow_mul-n : goal.overflow_mul-n
overflow_mul-n c = omega (arith, pow_below (c.loop-b.b-index + 1) 12 (omega arith))

pub overflow_add-n : goal.overflow_add-n
overflow_add-n c = omega (arith, pow_below (c.loop-b.b-index + 1) 12 (omega arith), digit_some (get_or c.args.rest.now c.loop-b.b-index 0) c.in_ok-n-2.field-0 (sym c.in_ok-n-2.ensures))

pub loop-b-preserved : goal.loop-b-preserved
loop-b-preserved c =
    let e = sym c.in_ok-n-2.ensures in
    (sym (value_more c.args.rest.now c.loop-b.b-index c.loop-b-test.true c.loop-b.n c.in_ok-n-2.field-0 e) ∙ c.loop-b.invariant.0, omega (arith, pow_more (c.loop-b.b-index + 1), digit_some (get_or c.args.rest.now c.loop-b.b-index 0) c.in_ok-n-2.field-0 e))

pub returns-clause-small : goal.returns-clause-small
returns-clause-small c = omega (arith, pow_below (c.loop-b.b-index + 1) 13 (omega arith))
