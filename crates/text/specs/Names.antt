-- Names.
use Rattle.std.specs.Prelude.{ℕ, Bool, cond, not, ◌&&◌, List, length, Ok, Err, Result, ◌==◌, nat_le}
use Rattle.std.specs.Borrow.{Bor}
use Rattle.std.specs.List.{list_all}
use Rattle.std.specs.Str.{bytes_eq}
use Rattle.text.specs.declared.fault.At.{At}
use Rattle.text.specs.declared.fault.FieldFault.{FieldFault}
use Rattle.text.specs.declared.fault.FieldFault.TheVariants.{Malformed}

-- no byte is below 32, and none is 127
abbrev pub plain_bytes : List ℕ → Bool
plain_bytes bytes = list_all (λ b. nat_le 32 b && not (b == 127)) bytes

-- 1 to 24 such bytes
abbrev pub name_test : List ℕ → Bool
name_test field = nat_le 1 (length field) && (nat_le (length field) 24 && plain_bytes field)

-- the field as a name, or fault 4
abbrev pub name_at : At → List ℕ → Result (List ℕ) FieldFault
name_at at field = cond (name_test field) (Ok field) (Err (Malformed at))

-- an answer by its bytes
abbrev pub shown_name : Result (Bor (List ℕ)) FieldFault → Result (List ℕ) FieldFault
shown_name (Ok field) = Ok field.now
shown_name (Err fault) = Err fault

-- two names are the same if their bytes agree
abbrev pub same_name : List ℕ → List ℕ → Bool
same_name a b = bytes_eq a b
