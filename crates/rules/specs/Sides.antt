-- The two sides of a rule between two places. Assumes nothing.
use Rattle.rules.specs.declared.choices.side.Side.{Side}
use Rattle.rules.specs.declared.choices.side.Side.TheVariants.{First, Second}

-- the other side
abbrev pub across : Side → Side
across First = Second
across Second = First

-- of two, the one on the side
abbrev pub on : {A : Type 0} → Side → A → A → A
on First one two = one
on Second one two = two
