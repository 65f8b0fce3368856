use Rattle.std.proofs.Common.{true, false, ℤ, ◌*ℤ◌, sym, ap, ◌∙◌}
use Rattle.std.proofs.lemmas.Bool.{cond-true, cond-false}
use Rattle.rules.specs.Sums.{least_product_of, greatest_product_of}
use Rattle.rules.proofs.SumAdding.{product_back, by_sign}
use Rattle.rules.proofs.sums.adding.products_of.Goals as goal

pub returns-then-coefficient-gt0 : goal.returns-then-coefficient-gt0
unfolding least_product_of greatest_product_of
returns-then-coefficient-gt0 c =
    let a = c.args.coefficient in
    let above = by_sign a true c.ranges.coefficient c.if-coefficient-gt0.true in
    let floor = product_back a c.floor.result c.ranges.coefficient (record { sfits = c.floor.type_inv }) ∙ ap (λ (z : ℤ). a *ℤ z) c.floor.ensures in
    let ceiling = product_back a c.ceiling.result c.ranges.coefficient (record { sfits = c.ceiling.type_inv }) ∙ ap (λ (z : ℤ). a *ℤ z) c.ceiling.ensures in
    record { least = floor ∙ sym (cond-true _ _ _ above); greatest = ceiling ∙ sym (cond-true _ _ _ above) }

pub returns-else-coefficient-gt0 : goal.returns-else-coefficient-gt0
unfolding least_product_of greatest_product_of
returns-else-coefficient-gt0 c =
    let a = c.args.coefficient in
    let below = by_sign a false c.ranges.coefficient c.if-coefficient-gt0.false in
    let floor = product_back a c.floor.result c.ranges.coefficient (record { sfits = c.floor.type_inv }) ∙ ap (λ (z : ℤ). a *ℤ z) c.floor.ensures in
    let ceiling = product_back a c.ceiling.result c.ranges.coefficient (record { sfits = c.ceiling.type_inv }) ∙ ap (λ (z : ℤ). a *ℤ z) c.ceiling.ensures in
    record { least = ceiling ∙ sym (cond-false _ _ _ below); greatest = floor ∙ sym (cond-false _ _ _ below) }
