-- The rows that hold sums. Assumes nothing.
use Rattle.std.specs.Prelude.{◌≡◌, ℕ, Bool, true, false, List, map, length, ℤ, pos, Some, None, Option}
use Rattle.books.specs.Boards.{has}
use Rattle.rules.specs.Fews.{listed, filled}
use Rattle.rules.specs.SumTerms.{sum_test, place_of}
use Rattle.rules.specs.declared.sums.term.Relation.{Relation}
use Rattle.rules.specs.declared.sums.term.Term.{Term}
use Rattle.rules.specs.declared.sums.row.SumRow.{SumRow}

-- the terms of a row
abbrev pub terms_of : SumRow → List Term
terms_of row = listed row.terms

-- how many places the boards have that a row is for
abbrev pub boards_of : SumRow → ℕ
boards_of row = row.places

-- whether a term has the place
abbrev pub uses : List Term → ℕ → Bool
uses ts place = has place (map place_of ts)

-- the entries past the last term
abbrev pub blank : Term
blank = record { coefficient = pos 0; place = 0 }

-- 16 entries that begin with the terms
abbrev pub padded : List Term → List Term
padded = filled 16 blank

-- a row asked for: it is made with all that was given, or not at all where that is no sum
abbrev pub Made : ℕ → Relation → ℤ → List Term → Option SumRow → Type 0
Made places relation bound ts None = sum_test places bound ts ≡ false
Made places relation bound ts (Some row) =
    (sum_test places bound ts ≡ true) × (row.places ≡ places) × (row.relation ≡ relation) × (row.bound ≡ bound) × (row.terms.count ≡ length ts) × (row.terms.held ≡ padded ts)
