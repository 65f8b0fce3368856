-- The lines of rules in a sheet, whether or not the sheet can be read. Assumes nothing.
use Rattle.std.specs.Prelude.{ℕ, Bool, true, false, List, [], ◌∷◌, Some, None, filter, Option}
use Rattle.text.specs.Parts.{cut_at}
use Rattle.text.specs.Fields.{fields_of}
use Rattle.records.specs.declared.record.Word.{Word}
use Rattle.records.specs.declared.record.Word.TheVariants.{Title, Place, Sum, Pair, Apart}
use Rattle.records.specs.Words.{word_of}
use Rattle.records.specs.Records.{head}

-- the words of rules are `sum`, `pair` and `apart`
abbrev pub is_rule_word : Option Word → Bool
is_rule_word None = false
is_rule_word (Some Title) = false
is_rule_word (Some Place) = false
is_rule_word (Some Sum) = true
is_rule_word (Some Pair) = true
is_rule_word (Some Apart) = true

-- a line is a rule's if its first field is a rule's word, whatever its other fields are
abbrev pub rule_line_test : List ℕ → Bool
rule_line_test line = is_rule_word (word_of (head (fields_of line)))

-- all parts but the last
abbrev pub but_last : List (List ℕ) → List (List ℕ)
but_last [] = []
but_last (part ∷ []) = []
but_last (part ∷ next ∷ parts) = part ∷ but_last (next ∷ parts)

-- the lines of a sheet that a byte 10 ends, without it: what follows the last byte 10 is no such line
abbrev pub ended_lines : List ℕ → List (List ℕ)
ended_lines sheet = but_last (cut_at 10 sheet)

-- the ended lines that are rules', first to last
abbrev pub rule_lines_of : List ℕ → List (List ℕ)
rule_lines_of sheet = filter rule_line_test (ended_lines sheet)
