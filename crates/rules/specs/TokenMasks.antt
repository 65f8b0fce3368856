-- The mask of the tokens that pass a test. Assumes nothing.
use Rattle.std.specs.Prelude.{ℕ, zero, suc, ◌^◌, Bool, cond, bit_or}

-- the mask of those of the first n tokens that pass the test
unfoldable pub mask_of : (ℕ → Bool) → ℕ → ℕ
mask_of test zero = 0
mask_of test (suc n) = bit_or (mask_of test n) (cond (test n) (2 ^ n) 0)
