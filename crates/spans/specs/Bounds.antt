-- The floors and ceilings of amounts. Assumes nothing.
use Rattle.std.specs.Prelude.{Bool, ◌&&◌, ◌||◌, ℤ, pos, neg_ℤ, int_le}
use Rattle.spans.specs.Numbers.{million}

-- bounds that an amount may be asked for: a floor not above the ceiling, and neither of them beyond a million
abbrev pub bounded : ℤ → ℤ → Bool
bounded floor ceiling = int_le (neg_ℤ (pos million)) floor && int_le floor ceiling && int_le ceiling (pos million)

-- bounds that an amount may have: such bounds, or floor 1 and ceiling 0, which are those of the empty amount
abbrev pub proper : ℤ → ℤ → Bool
proper floor ceiling = bounded floor ceiling || (int_le (pos 1) floor && int_le floor (pos 1) && int_le (pos 0) ceiling && int_le ceiling (pos 0))
