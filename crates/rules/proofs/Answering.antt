-- The answer of a rule between two places, way by way. Assumes nothing.
use Rattle.std.proofs.Common.{◌≡◌, ℕ, Bool, true, false, cond, eqb, sym, refl, ◌∙◌}
use Rattle.std.proofs.lemmas.Bool.{eq-eqb, ne_eqb, or_from, or_left, or_right, cond-true, cond-false}
use Rattle.spans.specs.Choices.{choice_size}
use Rattle.spans.specs.declared.choice.Choice.{Choice}
use Rattle.rules.specs.declared.choices.side.Side.TheVariants.{First, Second}
use Rattle.rules.specs.TokenSets.{keeping}
use Rattle.rules.specs.Between.{Between, answer_from}

either_way : (e : Bool) (one two : Choice) → two ≡ one → cond e one two ≡ one
either_way true one two h = refl
either_way false one two h = h

module _ (link : Between) (p : ℕ) (span one two : Choice) where
  pub empty_first : eqb (choice_size one) 0 ≡ true → span ≡ answer_from link p span one two
  unfolding answer_from
  empty_first e = sym (cond-true _ _ _ (or_left _ _ e))

  pub empty_second : eqb (choice_size two) 0 ≡ true → span ≡ answer_from link p span one two
  unfolding answer_from
  empty_second e = sym (cond-true _ _ _ (or_right _ _ e))

  pub at_neither : (p ≡ link.first → ⊥) → (p ≡ link.second → ⊥) → span ≡ answer_from link p span one two
  unfolding answer_from
  at_neither n m = sym (either_way _ _ _ (cond-false _ _ _ (ne_eqb p link.first n) ∙ cond-false _ _ _ (ne_eqb p link.second m)))

  module _ (some : eqb (choice_size one) 0 ≡ false) (other : eqb (choice_size two) 0 ≡ false) where
    pub at_first : (r : Choice) → r ≡ keeping span (link.stays First two) → p ≡ link.first → r ≡ answer_from link p span one two
    unfolding answer_from
    at_first r is e = is ∙ sym (cond-false _ _ _ (or_from _ _ some other) ∙ cond-true _ _ _ (eq-eqb p link.first e))

    pub at_second : (r : Choice) → r ≡ keeping span (link.stays Second one) → (p ≡ link.first → ⊥) → p ≡ link.second → r ≡ answer_from link p span one two
    unfolding answer_from
    at_second r is n e = is ∙ sym (cond-false _ _ _ (or_from _ _ some other) ∙ cond-false _ _ _ (ne_eqb p link.first n) ∙ cond-true _ _ _ (eq-eqb p link.second e))
