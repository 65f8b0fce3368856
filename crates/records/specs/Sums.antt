-- Sum lines. Assumes nothing.
use Rattle.std.specs.Prelude.{ℕ, ◌+◌, Bool, false, cond, List, [], length, ℤ, pos, negsuc, Ok, Err, codes, Result, ◌==◌}
use Rattle.std.specs.Str.{bytes_eq}
use Rattle.rules.specs.declared.sums.term.Relation.{Relation}
use Rattle.rules.specs.declared.sums.term.Relation.TheVariants.{AtMost, AtLeast, Equal}
use Rattle.rules.specs.declared.sums.term.Term.{Term}
use Rattle.rules.specs.declared.sums.row.SumRow.{SumRow}
use Rattle.rules.specs.SumRows.{terms_of, uses}
use Rattle.text.specs.declared.fault.At.{At}
use Rattle.text.specs.declared.fault.FieldFault.{FieldFault}
use Rattle.text.specs.declared.fault.FieldFault.TheVariants.{Malformed, OutOfRange}
use Rattle.text.specs.Numbers.{number_in}
use Rattle.sheets.specs.declared.fault.SheetFault.{SheetFault}
use Rattle.sheets.specs.declared.fault.SheetFault.TheVariants.{Name}
use Rattle.records.specs.Places.{Place}
use Rattle.records.specs.Names.{known_place}
use Rattle.records.specs.Rules.{Row, sum}
use Rattle.records.specs.Steps.{at, then, unless_fault}
use Rattle.records.specs.Twos.{twos_from}

-- the relation that a field spells, or 4
abbrev pub relation_at : At → List ℕ → Result Relation FieldFault
relation_at at field =
    cond (bytes_eq field (codes "<=")) (Ok AtMost)
    (cond (bytes_eq field (codes ">=")) (Ok AtLeast)
    (cond (bytes_eq field (codes "=")) (Ok Equal) (Err (Malformed at))))

-- the number is 0
abbrev pub is_zero : ℤ → Bool
is_zero (pos n) = n == 0
is_zero (negsuc n) = false

-- the coefficient that a field spells, from -10,000 to 10,000 without 0
abbrev pub coefficient_at : At → List ℕ → Result ℤ FieldFault
coefficient_at at field = then (number_in (negsuc 9_999) (pos 10_000) at field) (λ a. cond (is_zero a) (Err (OutOfRange at)) (Ok a))

-- the term of two fields, the first of which is the field f, behind the terms given: its place may not be one of theirs
abbrev pub term_of : List Place → (line f : ℕ) → List Term → List ℕ → List ℕ → Result Term SheetFault
term_of ps line f ts coefficient name =
    unless_fault (coefficient_at (at line f) coefficient)
    (λ a. then (known_place ps (at line (f + 1)) name)
    (λ p. cond (uses ts p) (Err (Name (at line (f + 1)))) (Ok (record { coefficient = a; place = p }))))

-- the terms of fields two by two, from the field f on, behind the terms given
abbrev pub terms_from : List Place → (line f : ℕ) → List Term → List (List ℕ) → Result (List Term) SheetFault
terms_from ps line f ts fields = twos_from (term_of ps line) f ts fields

-- the sum of a sum line's fields, checked from the left
abbrev pub sum_fields : List Place → ℕ → List ℕ → List ℕ → List (List ℕ) → Result Row SheetFault
sum_fields ps line relation bound terms =
    unless_fault (relation_at (at line 1) relation)
    (λ r. unless_fault (number_in (negsuc 999_999_999_999) (pos 1_000_000_000_000) (at line 2) bound)
    (λ b. then (terms_from ps line 3 [] terms)
    (λ ts. Ok (record { places = length ps; rule = sum r b ts }))))

-- a row of a table of sums
abbrev pub sum_shown : SumRow → Row
sum_shown row = record { places = row.places; rule = sum row.relation row.bound (terms_of row) }

abbrev pub shown_sum : Result SumRow SheetFault → Result Row SheetFault
shown_sum (Ok row) = Ok (sum_shown row)
shown_sum (Err fault) = Err fault
