-- Choices by which tokens are kept. Assumes nothing.
use Rattle.std.specs.Prelude.{ℕ, ◌^◌, Bool, ◌&&◌, pos}
use Rattle.std.proofs.Common.{lt→ltb}
use Rattle.spans.specs.Masks.{tokens}
use Rattle.spans.specs.Choices.{choice_admits}
use Rattle.spans.specs.declared.choice.Choice.{Choice}
use Rattle.rules.specs.TokenMasks.{mask_of}
use Rattle.rules.specs.TokenMaskLaws.{mask_below}

-- the choice of the tokens that a choice admits and that pass the test
unfoldable pub keeping : Choice → (ℕ → Bool) → Choice
keeping span test =
    let kept = λ (t : ℕ). choice_admits span (pos t) && test t in
    record { mask = mask_of kept tokens; ok = lt→ltb (mask_of kept tokens) (2 ^ tokens) (mask_below kept tokens) }
