-- Numbers as a sheet spells them.
use Rattle.std.specs.Prelude.{◌≡◌, ℕ, zero, suc, ◌+◌, ◌-◌, ◌*◌, ◌^◌, ◌<◌, Bool, false, cond, not, ◌&&◌, ◌||◌, ◌↔◌, List, [], ◌∷◌, length, ℤ, pos, negsuc, Some, None, Ok, Err, Option, Result, ◌==◌, int_le, nat_le}
use Rattle.std.specs.Fmt.{signed_decimal}
use Rattle.std.specs.List.{list_all}
use Rattle.std.specs.Option.{option_map}
use Rattle.text.specs.declared.fault.At.{At}
use Rattle.text.specs.declared.fault.FieldFault.{FieldFault}
use Rattle.text.specs.declared.fault.FieldFault.TheVariants.{Malformed, OutOfRange}

-- a digit is one of the bytes `0` to `9`
abbrev pub is_digit : ℕ → Bool
is_digit d = nat_le 48 d && nat_le d 57

-- the value of a digit
abbrev pub digit_of : ℕ → Option ℕ
digit_of d = cond (is_digit d) (Some (d - 48)) None

-- every byte is a digit
abbrev pub all_digits : List ℕ → Bool
all_digits ds = list_all is_digit ds

-- the decimal value: each digit counts as often as the power of ten of its place says
abbrev pub decimal_value : List ℕ → ℕ
decimal_value [] = 0
decimal_value (d ∷ ds) = (d - 48) * 10 ^ length ds + decimal_value ds

-- the value of digits, of which there may be none
abbrev pub digits_value : List ℕ → Option ℕ
digits_value ds = cond (all_digits ds) (Some (decimal_value ds)) None

-- 1 to 13 bytes, the first of which is no `0` unless it is the only one
abbrev pub plain_size : List ℕ → Bool
plain_size [] = false
plain_size (d ∷ ds) = nat_le (length ds) 12 && (not (d == 48) || length ds == 0)

-- the value of 1 to 13 digits with no leading zero
abbrev pub unsigned_of : List ℕ → Option ℕ
unsigned_of ds = cond (plain_size ds) (digits_value ds) None

-- a value behind a minus sign, where 0 is refused
abbrev pub negated : Option ℕ → Option ℤ
negated None = None
negated (Some zero) = None
negated (Some (suc n)) = Some (negsuc n)

-- a value with no sign
abbrev pub unnegated : Option ℕ → Option ℤ
unnegated value = option_map pos value

abbrev pub negative_of : List ℕ → Option ℤ
negative_of ds = negated (unsigned_of ds)

abbrev pub positive_of : List ℕ → Option ℤ
positive_of ds = unnegated (unsigned_of ds)

-- the number that a field spells: digits behind a minus sign, or digits alone
abbrev pub number_of : List ℕ → Option ℤ
number_of [] = None
number_of (b ∷ bs) = cond (b == 45) (negative_of bs) (positive_of (b ∷ bs))

-- at most 13 digits
abbrev pub Short : ℤ → Type 0
Short (pos n) = n < 10 ^ 13
Short (negsuc n) = suc n < 10 ^ 13

-- a field spells a number of at most 13 digits exactly if it is what printing the number writes: no number has two spellings
abbrev pub NumberLaw : List ℕ → Type 0
NumberLaw field = (z : ℤ) → (number_of field ≡ Some z) ↔ ((field ≡ signed_decimal z) × Short z)

-- a number within a range
abbrev pub within : ℤ → ℤ → At → Option ℤ → Result ℤ FieldFault
within low high at None = Err (Malformed at)
within low high at (Some z) = cond (int_le low z && int_le z high) (Ok z) (Err (OutOfRange at))

-- the number that a field spells, from low to high; 4 where it spells none, 5 where it lies outside
abbrev pub number_in : ℤ → ℤ → At → List ℕ → Result ℤ FieldFault
number_in low high at field = within low high at (number_of field)
