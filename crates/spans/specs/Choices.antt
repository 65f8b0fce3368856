-- What a choice is. Assumes nothing.
use Rattle.std.specs.Prelude.{◌≡◌, ℕ, Bool, false, ◌&&◌, ℤ, pos, negsuc, bit_and, count_ones, nat_lt}
use Rattle.std.specs.Int.Count.{count_trailing_zeros}
use Rattle.spans.specs.Masks.{tokens, bit}
use Rattle.spans.specs.MaskLaws.{and_mask}
use Rattle.spans.specs.declared.choice.Choice.{Choice}

-- a choice admits the tokens whose bits are set
abbrev pub choice_admits : Choice → ℤ → Bool
choice_admits c (pos t) = bit c.mask t
choice_admits c (negsuc n) = false

-- how many those are
abbrev pub choice_size : Choice → ℕ
choice_size c = count_ones c.mask

-- the lowest of them
abbrev pub choice_least : Choice → ℤ
choice_least c = pos (count_trailing_zeros tokens c.mask)

-- the empty choice
abbrev pub no_choice : Choice
no_choice = record { mask = 0; ok = tt }

-- the common part of two choices: the bits that are set in both
abbrev pub choice_meet : Choice → Choice → Choice
choice_meet a b = record { mask = bit_and a.mask b.mask; ok = and_mask a.mask b.mask a.ok b.ok }

-- the choice admits exactly the tokens that pass the test
abbrev pub Exactly : Choice → (ℕ → Bool) → Type 0
Exactly c test = (t : ℕ) → choice_admits c (pos t) ≡ (nat_lt t tokens && test t)
