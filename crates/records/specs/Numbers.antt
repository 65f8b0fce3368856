-- Numbers of fields that are not below 0. Assumes nothing.
use Rattle.std.specs.Prelude.{ℕ, List, ℤ, pos, negsuc, Ok, Err, Result}
use Rattle.text.specs.declared.fault.At.{At}
use Rattle.text.specs.declared.fault.FieldFault.{FieldFault}
use Rattle.text.specs.Numbers.{number_in}

-- a whole number, or 0 where it is below 0
abbrev pub size : ℤ → ℕ
size (pos n) = n
size (negsuc n) = 0

abbrev pub sized : Result ℤ FieldFault → Result ℕ FieldFault
sized (Ok z) = Ok (size z)
sized (Err fault) = Err fault

-- the number that a field spells, from low to high; 4 where it spells none, 5 where it lies outside
abbrev pub count_within : ℕ → ℕ → At → List ℕ → Result ℕ FieldFault
count_within low high at field = sized (number_in (pos low) (pos high) at field)
