-- Sets of tokens as masks of bits. Assumes nothing.
use Rattle.std.specs.Prelude.{◌≡◌, ℕ, ◌/◌, ◌%◌, ◌^◌, Bool, ◌&&◌, ◌==◌, nat_lt}

-- how many tokens there are: they are numbered 0 to 63
abbrev pub tokens : ℕ
tokens = 64

-- a mask has a bit for each token, and no bit above these
abbrev pub is_mask : ℕ → Bool
is_mask mask = nat_lt mask (2 ^ tokens)

-- the token's bit is set
unfoldable pub bit : ℕ → ℕ → Bool
bit mask token = mask / 2 ^ token % 2 == 1

-- the mask has exactly the bits of the tokens that pass the test
abbrev pub Marks : ℕ → (ℕ → Bool) → Type 0
Marks mask test = (t : ℕ) → bit mask t ≡ (nat_lt t tokens && test t)
