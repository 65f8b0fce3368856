-- A line as fields.
use Rattle.std.specs.Prelude.{ℕ, List, [], ◌∷◌, Some, None, Option}
use Rattle.std.specs.Borrow.{Bor}
use Rattle.text.specs.declared.fields.Fields.{Fields}
use Rattle.text.specs.Parts.{cut_at}

-- the fields of a line: its parts between tabs
abbrev pub fields_of : List ℕ → List (List ℕ)
fields_of line = cut_at 9 line

-- the fields of what is left, if anything is
abbrev pub fields_in : Option (Bor (List ℕ)) → List (List ℕ)
fields_in None = []
fields_in (Some rest) = fields_of rest.now

-- the fields that a reader has yet to hand out
abbrev pub fields_left : Fields → List (List ℕ)
fields_left reader = fields_in reader.rest

-- the fields behind the first
abbrev pub others : List (List ℕ) → List (List ℕ)
others [] = []
others (field ∷ fields) = fields
