use Rattle.std.proofs.Common.{◌≡◌, ◌^◌, ◌<◌, Bool, not, eqb, ◌⊎◌, ℤ, Some, None, sym, ap, ◌∙◌, inl, inr, arith, w32, to_z}
use lib.Count.{ones, count_trailing_zeros, trailing_le}
use Rattle.std.specs.Bool.{then_some}
use Rattle.std.proofs.lemmas.Int.{to_z_pos}
use Rattle.std.proofs.lemmas.Bool.{cases_eq, eq-eqb, ne_eqb, cond-true, cond-false}
use Rattle.spans.specs.Masks.{tokens}
use Rattle.spans.specs.MaskLaws.{ones_none}
use Rattle.spans.specs.Choices.{choice_least}
use Rattle.spans.specs.ChoiceLaws.{mask_below}
use Rattle.spans.specs.Kind.{least_of}
use Rattle.spans.specs.ChoiceKind.{choices}
use Rattle.spans.specs.declared.choice.Choice.{Choice}
use Rattle.spans.proofs.Masking.{no_ones}
use Rattle.spans.proofs.choice.methods.ChoiceSpan.least.Goals as goal

found : (a : Choice) → then_some (not (eqb a.mask 0)) (to_z w32 (count_trailing_zeros tokens a.mask)) ≡ least_of choices a
found a = go (cases_eq a.mask 0)
  where
    go : (a.mask ≡ 0) ⊎ (a.mask ≡ 0 → ⊥) → then_some (not (eqb a.mask 0)) (to_z w32 (count_trailing_zeros tokens a.mask)) ≡ least_of choices a
    go (inl e) = ap (λ (b : Bool). then_some (not b) (to_z w32 (count_trailing_zeros tokens a.mask))) (eq-eqb a.mask 0 e) ∙ sym (cond-true (eqb (ones a.mask) 0) None (Some (choice_least a)) (eq-eqb (ones a.mask) 0 (ap ones e ∙ ones_none)))
    go (inr n) =
        let z = count_trailing_zeros tokens a.mask in
        let few : z < 2 ^ 31 = omega (arith, trailing_le tokens a.mask) in
        ap (λ (b : Bool). then_some (not b) (to_z w32 z)) (ne_eqb a.mask 0 n) ∙ ap (λ (x : ℤ). Some x) (to_z_pos w32 z few)
        ∙ sym (cond-false (eqb (ones a.mask) 0) None (Some (choice_least a)) (ne_eqb (ones a.mask) 0 (λ e. n (no_ones tokens a.mask (mask_below a) e))))

pub returns : goal.returns
returns c = c.then_some.ensures ∙ found c.args.self
