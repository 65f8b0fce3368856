-- Rules between two places. Assumes nothing.
use Rattle.std.specs.Prelude.{ℕ, Bool, cond, ◌||◌, List, [], ◌∷◌, ℤ, ◌==◌}
use Rattle.spans.specs.Choices.{choice_size}
use Rattle.spans.specs.ChoiceKind.{choices}
use Rattle.spans.specs.declared.choice.Choice.{Choice}
use Rattle.books.specs.Boards.{span_at, number_at}
use Rattle.books.specs.Meaning.{Rule}
use Rattle.rules.specs.declared.choices.side.Side.{Side}
use Rattle.rules.specs.declared.choices.side.Side.TheVariants.{First, Second}
use Rattle.rules.specs.Sides.{on}
use Rattle.rules.specs.TokenSets.{keeping}

-- a rule between two places
pub record Between : Type 0 where
  pub first : ℕ
  pub second : ℕ
  -- whether a number at the first place and one at the second obey the rule
  pub agree : ℤ → ℤ → Bool
  -- whether a token may stay at the place on a side, by the span of the place on the other side
  pub stays : Side → Choice → ℕ → Bool

-- its place on a side
abbrev pub place_on_side : Between → Side → ℕ
place_on_side link side = on side link.first link.second

-- its answer for a place, from the span there and the spans of its own two places: at these the tokens that may stay; elsewhere,
-- and where one of its places has an empty span, the span as it is
unfoldable pub answer_from : Between → ℕ → Choice → Choice → Choice → Choice
answer_from link p span one two =
    let at_second_of = cond (p == link.second) (keeping span (link.stays Second one)) span in
    let asked = cond (p == link.first) (keeping span (link.stays First two)) at_second_of in
    cond (choice_size one == 0 || choice_size two == 0) span asked

-- its answer for a place on a board
abbrev pub answer_between : Between → ℕ → List Choice → Choice
answer_between link p board = answer_from link p (span_at choices board p) (span_at choices board link.first) (span_at choices board link.second)

-- what it means
abbrev pub between : Between → Rule Choice
between link = record {
  scope = link.first ∷ link.second ∷ [];
  obeys = λ h. link.agree (number_at h link.first) (number_at h link.second);
  answer = answer_between link;
}
