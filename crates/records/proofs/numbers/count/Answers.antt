use Rattle.records.proofs.Ranging.{count_fits}
use Rattle.records.proofs.numbers.count.Goals as goal

pub overflow_cast-result : goal.overflow_cast-result
overflow_cast-result c = count_fits _ _ _ c.ranges.low c.ranges.high c.args.at c.args.field.now c.in_ok-n.ensures
