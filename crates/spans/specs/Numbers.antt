-- The numbers that a span may admit, and how many of them pass a test. Assumes nothing.
use Rattle.std.specs.Prelude.{ℕ, zero, suc, ◌+◌, Bool, cond, ℤ, pos, ◌-ℤ◌, neg_ℤ, ◌≤ℤ◌}

-- a million: the numbers reach down to -million
abbrev pub million : ℕ
million = 1_000_000

-- the numbers reach up to this
abbrev pub top : ℕ
top = million

-- x is a number: a whole number from -1,000,000 to 1,000,000
pub record Number (x : ℤ) : Type 0 where
  pub low : neg_ℤ (pos million) ≤ℤ x
  pub high : x ≤ℤ pos top

-- the numbers by rising size, counted from 0
abbrev pub number : ℕ → ℤ
number i = pos i -ℤ pos million

-- how many numbers there are
abbrev pub numbers : ℕ
numbers = suc (million + top)

-- how many of the first n numbers pass the test; this stays shut, so that no check takes two million steps
unfoldable pub counted : (ℤ → Bool) → ℕ → ℕ
counted test zero = 0
counted test (suc n) = counted test n + cond (test (number n)) 1 0
