-- The words of lines, and how many fields a line with a word has. Assumes nothing.
use Rattle.std.specs.Prelude.{ℕ, ◌%◌, Bool, cond, ◌&&◌, List, Some, None, codes, Option, ◌==◌, nat_le}
use Rattle.std.specs.Str.{bytes_eq}
use Rattle.sheets.specs.declared.title.SpanKind.{SpanKind}
use Rattle.sheets.specs.declared.title.SpanKind.TheVariants.{Amounts, Choices}
use Rattle.records.specs.declared.record.Word.{Word}
use Rattle.records.specs.declared.record.Word.TheVariants.{Title, Place, Sum, Pair, Apart}

-- the word that a field is, if it is one
abbrev pub word_of : List ℕ → Option Word
word_of field =
    cond (bytes_eq field (codes "game")) (Some Title)
    (cond (bytes_eq field (codes "expansion")) (Some Title)
    (cond (bytes_eq field (codes "place")) (Some Place)
    (cond (bytes_eq field (codes "sum")) (Some Sum)
    (cond (bytes_eq field (codes "pair")) (Some Pair)
    (cond (bytes_eq field (codes "apart")) (Some Apart) None)))))

-- three fields and then two by two: from 5 fields up to a greatest count
abbrev pub by_twos : ℕ → ℕ → Bool
by_twos most count = nat_le 5 count && nat_le count most && count % 2 == 1

-- a line with the word may have so many fields, the word counted
abbrev pub field_count_fits : Word → SpanKind → ℕ → Bool
field_count_fits Title kind count = count == 2
field_count_fits Place Amounts count = count == 4
field_count_fits Place Choices count = count == 3
field_count_fits Sum kind count = by_twos 35 count
field_count_fits Pair kind count = by_twos 203 count
field_count_fits Apart kind count = count == 3
