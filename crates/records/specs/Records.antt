-- A line by its fields. Assumes nothing.
use Rattle.std.specs.Prelude.{ℕ, cond, List, [], ◌∷◌, length, Some, None, Option}
use Rattle.text.specs.Fields.{fields_of, fields_left, others}
use Rattle.sheets.specs.declared.title.SpanKind.{SpanKind}
use Rattle.records.specs.declared.record.Word.{Word}
use Rattle.records.specs.declared.record.Word.TheVariants as word
use Rattle.records.specs.declared.record.Record.{Record}
use Rattle.records.specs.declared.record.Record.TheVariants as variant
use Rattle.records.specs.Words.{word_of, field_count_fits}

-- the first of some fields; empty where there is none
abbrev pub head : List (List ℕ) → List ℕ
head [] = []
head (field ∷ fields) = field

-- a record by the bytes of its fields
pub data Fielded : Type 0 where
  title : (sheet span : List ℕ) → Fielded
  place : (name : List ℕ) (numbers : List (List ℕ)) → Fielded
  sum : (relation bound : List ℕ) (terms : List (List ℕ)) → Fielded
  pair : (first second : List ℕ) (pairs : List (List ℕ)) → Fielded
  apart : (first second : List ℕ) → Fielded

-- the fields of a line with the word, by their meaning
abbrev pub record_of : Word → List (List ℕ) → Fielded
record_of word.Title fields = title (head fields) (head (others fields))
record_of word.Place fields = place (head (others fields)) (others (others fields))
record_of word.Sum fields = sum (head (others fields)) (head (others (others fields))) (others (others (others fields)))
record_of word.Pair fields = pair (head (others fields)) (head (others (others fields))) (others (others (others fields)))
record_of word.Apart fields = apart (head (others fields)) (head (others (others fields)))

-- the record of a line with the word, unless it has a wrong count of fields
abbrev pub counted : SpanKind → Word → List (List ℕ) → Option Fielded
counted kind w fields = cond (field_count_fits w kind (length fields)) (Some (record_of w fields)) None

-- the record of a line whose word is known
abbrev pub word_then : SpanKind → Option Word → List (List ℕ) → Option Fielded
word_then kind None fields = None
word_then kind (Some w) fields = counted kind w fields

-- the record of a line; none where its word is unknown or its count of fields is wrong
abbrev pub record_of_line : SpanKind → List ℕ → Option Fielded
record_of_line kind line = word_then kind (word_of (head (fields_of line))) (fields_of line)

-- a record as the code holds it, by its bytes
abbrev pub shown_record : Record → Fielded
shown_record (variant.Title sheet span) = title sheet.now span.now
shown_record (variant.Place name numbers) = place name.now (fields_left numbers)
shown_record (variant.Sum relation bound terms) = sum relation.now bound.now (fields_left terms)
shown_record (variant.Pair first second pairs) = pair first.now second.now (fields_left pairs)
shown_record (variant.Apart first second) = apart first.now second.now

abbrev pub shown_line : Option Record → Option Fielded
shown_line None = None
shown_line (Some r) = Some (shown_record r)
