-- The title of a game sheet.
use Rattle.std.specs.Prelude.{ℕ, cond, List, ◌∷◌, ◌++◌, Ok, Err, codes, Result}
use Rattle.std.specs.Str.{bytes_eq}
use Rattle.sheets.specs.declared.fault.SheetFault.{SheetFault}
use Rattle.sheets.specs.declared.fault.SheetFault.TheVariants.{Title}
use Rattle.sheets.specs.declared.title.SpanKind.{SpanKind}
use Rattle.sheets.specs.declared.title.SpanKind.TheVariants.{Amounts, Choices}

-- the word of a game, a tab and the word of a kind
abbrev pub titled : List ℕ → List ℕ
titled kind = codes "game" ++ (9 ∷ kind)

-- the kind that a line names as the title of a game; 6 for any other line
abbrev pub title_of : List ℕ → Result SpanKind SheetFault
title_of line = cond (bytes_eq line (titled (codes "amounts"))) (Ok Amounts) (cond (bytes_eq line (titled (codes "choices"))) (Ok Choices) (Err Title))
