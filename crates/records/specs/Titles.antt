-- The title of a sheet. Assumes nothing.
use Rattle.std.specs.Prelude.{ℕ, Bool, cond, ◌&&◌, List, Some, None, Ok, Err, codes, Option, Result}
use Rattle.std.specs.Str.{bytes_eq}
use Rattle.text.specs.declared.fault.TextFault.{TextFault}
use Rattle.text.specs.Lines.{line_next}
use Rattle.sheets.specs.declared.fault.SheetFault.{SheetFault}
use Rattle.sheets.specs.declared.fault.SheetFault.TheVariants.{Title}
use Rattle.sheets.specs.declared.title.SpanKind.{SpanKind}
use Rattle.sheets.specs.declared.title.SpanKind.TheVariants.{Amounts, Choices}
use Rattle.records.specs.declared.kind.SheetKind.{SheetKind}
use Rattle.records.specs.declared.kind.SheetKind.TheVariants.{Game, Expansion}
use Rattle.records.specs.Records.{Fielded, title, place, sum, pair, apart, record_of_line}

-- the bytes are the word of such a sheet
abbrev pub sheet_word : SheetKind → List ℕ → Bool
sheet_word Game bytes = bytes_eq bytes (codes "game")
sheet_word Expansion bytes = bytes_eq bytes (codes "expansion")

-- the bytes are the word of such spans
abbrev pub span_word : SpanKind → List ℕ → Bool
span_word Amounts bytes = bytes_eq bytes (codes "amounts")
span_word Choices bytes = bytes_eq bytes (codes "choices")

-- a record is the title asked for; any other record, and none, is fault 6
abbrev pub title_record : SheetKind → SpanKind → Option Fielded → Result (Unit {0}) SheetFault
title_record asked kind None = Err Title
title_record asked kind (Some (title sheet span)) = cond (sheet_word asked sheet && span_word kind span) (Ok tt) (Err Title)
title_record asked kind (Some (place name numbers)) = Err Title
title_record asked kind (Some (sum relation bound terms)) = Err Title
title_record asked kind (Some (pair first second pairs)) = Err Title
title_record asked kind (Some (apart first second)) = Err Title

-- fault 6 unless the line is the title asked for
abbrev pub title_checked : SheetKind → SpanKind → List ℕ → Result (Unit {0}) SheetFault
title_checked asked kind line = title_record asked kind (record_of_line kind line)

-- choices where the title is granted, or else amounts
abbrev pub kind_by : Result (Unit {0}) SheetFault → SpanKind
kind_by (Ok t) = Choices
kind_by (Err fault) = Amounts

-- the kind of span that a line names as the title of a game
abbrev pub kind_of_line : List ℕ → SpanKind
kind_of_line line = kind_by (title_checked Game Choices line)

abbrev pub answer_kind : Result (Option (List ℕ)) TextFault → SpanKind
answer_kind (Ok None) = Amounts
answer_kind (Ok (Some line)) = kind_of_line line
answer_kind (Err fault) = Amounts

-- the kind of span that a game is to be read for, by its first line
abbrev pub first_kind : List ℕ → SpanKind
first_kind sheet = answer_kind (line_next 0 sheet).answer
