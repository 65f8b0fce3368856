-- Pair lines and apart lines. Assumes nothing.
use Rattle.std.specs.Prelude.{ℕ, ◌+◌, cond, List, [], map, length, Ok, Err, Result, ◌==◌}
use Rattle.rules.specs.declared.choices.token.TokenPair.{TokenPair}
use Rattle.rules.specs.declared.choices.pair.PairRow.{PairRow}
use Rattle.rules.specs.declared.choices.apart.ApartRow.{ApartRow}
use Rattle.rules.specs.declared.choices.row.ChoiceRow.{ChoiceRow}
use Rattle.rules.specs.declared.choices.row.ChoiceRow.TheVariants as row
use Rattle.rules.specs.ChoiceRows.{pairs_of}
use Rattle.text.specs.declared.fault.FieldFault.{FieldFault}
use Rattle.sheets.specs.declared.fault.SheetFault.{SheetFault}
use Rattle.sheets.specs.declared.fault.SheetFault.TheVariants.{Name}
use Rattle.records.specs.declared.two.TwoPlaces.{TwoPlaces}
use Rattle.records.specs.Numbers.{count_within}
use Rattle.records.specs.Places.{Place}
use Rattle.records.specs.Names.{known_place}
use Rattle.records.specs.Rules.{Tokens, Row, pair, apart}
use Rattle.records.specs.Steps.{at, then, unless_fault}
use Rattle.records.specs.Twos.{twos_from}

-- the two places that the fields 1 and 2 of a line name; 9 at field 2 where they are the same
abbrev pub two_places : List Place → ℕ → List ℕ → List ℕ → Result TwoPlaces SheetFault
two_places ps line first second =
    then (known_place ps (at line 1) first)
    (λ p. then (known_place ps (at line 2) second)
    (λ q. cond (p == q) (Err (Name (at line 2))) (Ok (record { first = p; second = q }))))

-- the tokens of two fields, the first of which is the field f: numbers from 0 to 63
abbrev pub tokens_at : (line f : ℕ) → List ℕ → List ℕ → Result Tokens FieldFault
tokens_at line f first second =
    then (count_within 0 63 (at line f) first)
    (λ t. then (count_within 0 63 (at line (f + 1)) second)
    (λ u. Ok (record { first = t; second = u })))

-- the pairs of fields two by two, from the field f on, behind the pairs given
abbrev pub tokens_from : (line f : ℕ) → List Tokens → List (List ℕ) → Result (List Tokens) FieldFault
tokens_from line f ts fields = twos_from (λ g us. tokens_at line g) f ts fields

-- the rule of a pair line's fields, checked from the left
abbrev pub pair_fields : List Place → ℕ → List ℕ → List ℕ → List (List ℕ) → Result Row SheetFault
pair_fields ps line first second pairs =
    then (two_places ps line first second)
    (λ two. unless_fault (tokens_from line 3 [] pairs)
    (λ ts. Ok (record { places = length ps; rule = pair two.first two.second ts })))

-- the rule of an apart line's fields, checked from the left
abbrev pub apart_fields : List Place → ℕ → List ℕ → List ℕ → Result Row SheetFault
apart_fields ps line first second = then (two_places ps line first second) (λ two. Ok (record { places = length ps; rule = apart two.first two.second }))

-- a pair of tokens, and the rows of a table of rules over choices
abbrev pub tokens_shown : TokenPair → Tokens
tokens_shown tokens = record { first = tokens.first; second = tokens.second }

abbrev pub pair_shown : PairRow → Row
pair_shown r = record { places = r.places; rule = pair r.first r.second (map tokens_shown (pairs_of r)) }

abbrev pub apart_shown : ApartRow → Row
apart_shown r = record { places = r.places; rule = apart r.first r.second }

abbrev pub choice_shown : ChoiceRow → Row
choice_shown (row.Pair r) = pair_shown r
choice_shown (row.Apart r) = apart_shown r

-- the same in answers
abbrev pub shown_pair : Result PairRow SheetFault → Result Row SheetFault
shown_pair (Ok r) = Ok (pair_shown r)
shown_pair (Err fault) = Err fault

abbrev pub shown_apart : Result ApartRow SheetFault → Result Row SheetFault
shown_apart (Ok r) = Ok (apart_shown r)
shown_apart (Err fault) = Err fault
