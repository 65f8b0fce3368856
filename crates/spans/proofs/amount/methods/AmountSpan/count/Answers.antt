use Rattle.std.proofs.Common.{arith}
use borrow.Author.Differences.{ints}
use Rattle.spans.proofs.Amounting.{reach, extent}
use Rattle.spans.proofs.amount.methods.AmountSpan.count.Goals as goal

pub overflow_cast-result : goal.overflow_cast-result
overflow_cast-result c = let r = reach c.args.self in (omega (arith, ints), omega (arith, ints))

pub returns : goal.returns
returns c =
    let r = reach c.args.self in
    let e = extent c.args.self in
    omega (arith, ints)
