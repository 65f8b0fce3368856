-- Such a mask has no bit above: proofs, which stand in specs/ since the choices that are defined there hold them. Assumes nothing.
use Rattle.std.specs.Prelude.{ℕ, zero, suc, ◌^◌, ◌<◌, Bool, true, false, cond}
use Rattle.std.proofs.Common.{arith}
use Rattle.std.proofs.lemmas.Nat.{or_lt}
use Rattle.rules.specs.TokenMasks.{mask_of}

one_below : (b : Bool) (n m : ℕ) → m < 2 ^ n → cond b (2 ^ n) 0 < 2 ^ suc n
one_below true n m h = omega arith
one_below false n m h = omega arith

pub mask_below : (test : ℕ → Bool) (n : ℕ) → mask_of test n < 2 ^ n
unfolding mask_of
mask_below test zero = omega arith
mask_below test (suc n) =
    let low = mask_below test n in
    or_lt (suc n) (mask_of test n) (cond (test n) (2 ^ n) 0) (omega arith) (one_below (test n) n (mask_of test n) low)
