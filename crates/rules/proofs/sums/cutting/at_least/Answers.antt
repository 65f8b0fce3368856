use Rattle.std.proofs.Common.{◌≡◌, T, ℤ, pos, ◌-ℤ◌, neg_ℤ, ◌∙◌, subst, ap₂, arith, w32, w64, to_z, of_z}
use Rattle.std.proofs.lemmas.Int.{ints}
use Rattle.rules.specs.SumTerms.{is_coefficient}
use Rattle.rules.specs.Sums.{keep_at_most}
use Rattle.rules.proofs.SumProducts.{coefficient_is, coefficient_test}
use Rattle.rules.proofs.SumCutting.{negated}
use Rattle.rules.proofs.sums.cutting.at_least.Goals as goal

pub at_most-requires : goal.at_most-requires
at_most-requires c =
    let k = coefficient_is c.args.a c.requires.a in
    let a-is : neg_ℤ c.args.a ≡ to_z w32 (of_z w32 (pos 0 -ℤ to_z w32 (of_z w32 c.args.a))) = omega (arith, ints) in
    record {
      a = subst (λ (z : ℤ). T (is_coefficient z)) a-is (coefficient_test _ (negated c.args.a k));
      r = (omega (arith, ints), omega (arith, ints));
    }

pub returns : goal.returns
returns c =
    let k = coefficient_is c.args.a c.requires.a in
    let a-is : to_z w32 (of_z w32 (pos 0 -ℤ to_z w32 (of_z w32 c.args.a))) ≡ neg_ℤ c.args.a = omega (arith, ints) in
    let r-is : to_z w64 (of_z w64 (pos 0 -ℤ to_z w64 (of_z w64 c.args.r))) ≡ neg_ℤ c.args.r = omega (arith, ints) in
    c.at_most.ensures ∙ ap₂ (λ (a r : ℤ). keep_at_most a r c.args.span) a-is r-is
