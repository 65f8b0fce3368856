-- Records written out as lines. Assumes nothing.
use Rattle.std.specs.Prelude.{ℕ, List, [], ◌∷◌, ◌++◌, map, pos, codes, slice_index_or}
use Rattle.std.specs.Fmt.{signed_decimal}
use Rattle.rules.specs.declared.sums.term.Relation.{Relation}
use Rattle.rules.specs.declared.sums.term.Relation.TheVariants.{AtMost, AtLeast, Equal}
use Rattle.rules.specs.declared.sums.term.Term.{Term}
use Rattle.text.specs.Parts.{joined_by}
use Rattle.sheets.specs.declared.title.SpanKind.{SpanKind}
use Rattle.sheets.specs.declared.title.SpanKind.TheVariants.{Amounts, Choices}
use Rattle.records.specs.declared.kind.SheetKind.{SheetKind}
use Rattle.records.specs.declared.kind.SheetKind.TheVariants.{Game, Expansion}
use Rattle.records.specs.declared.places.Opening.{Opening}
use Rattle.records.specs.declared.places.Opening.TheVariants.{Amount, Tokens}
use Rattle.records.specs.Places.{Place}
use Rattle.records.specs.Rules as rules
use Rattle.records.specs.Rules.{Rule, sum, pair, apart}

-- fields with a tab between each two
abbrev pub tabbed : List (List ℕ) → List ℕ
tabbed fields = joined_by 9 fields

-- the words of a title
abbrev pub sheet_name : SheetKind → List ℕ
sheet_name Game = codes "game"
sheet_name Expansion = codes "expansion"

abbrev pub span_name : SpanKind → List ℕ
span_name Amounts = codes "amounts"
span_name Choices = codes "choices"

-- a title's line
abbrev pub title_written : SheetKind → SpanKind → List ℕ
title_written sheet kind = tabbed (sheet_name sheet ∷ span_name kind ∷ [])

-- what may lie at a place at the opening: a floor and a ceiling, or a count of tokens
abbrev pub opening_written : Opening → List (List ℕ)
opening_written (Amount floor ceiling) = signed_decimal floor ∷ signed_decimal ceiling ∷ []
opening_written (Tokens count) = signed_decimal (pos count) ∷ []

-- a place's line
abbrev pub place_written : Place → List ℕ
place_written p = tabbed (codes "place" ∷ p.name ∷ opening_written p.opening)

abbrev pub relation_written : Relation → List ℕ
relation_written AtMost = codes "<="
relation_written AtLeast = codes ">="
relation_written Equal = codes "="

-- the name of a place by its number
abbrev pub name_of : List Place → ℕ → List ℕ
name_of ps p = slice_index_or (map (λ (q : Place). q.name) ps) p []

-- the terms of a sum: each coefficient, and then the name of its place
abbrev pub terms_written : List Place → List Term → List (List ℕ)
terms_written ps [] = []
terms_written ps (t ∷ ts) = signed_decimal t.coefficient ∷ name_of ps t.place ∷ terms_written ps ts

-- the pairs of a pair rule, token by token
abbrev pub tokens_written : List rules.Tokens → List (List ℕ)
tokens_written [] = []
tokens_written (t ∷ ts) = signed_decimal (pos t.first) ∷ signed_decimal (pos t.second) ∷ tokens_written ts

-- a rule's line, where it uses the names of the places given
abbrev pub rule_written : List Place → Rule → List ℕ
rule_written ps (sum relation bound terms) = tabbed (codes "sum" ∷ relation_written relation ∷ signed_decimal bound ∷ terms_written ps terms)
rule_written ps (pair first second pairs) = tabbed (codes "pair" ∷ name_of ps first ∷ name_of ps second ∷ tokens_written pairs)
rule_written ps (apart first second) = tabbed (codes "apart" ∷ name_of ps first ∷ name_of ps second ∷ [])

-- the lines of a game with these places and rules, and of an expansion that uses the names of the places given
abbrev pub game_lines : SpanKind → List Place → List Rule → List (List ℕ)
game_lines kind ps rs = title_written Game kind ∷ (map place_written ps ++ map (rule_written ps) rs)

abbrev pub expansion_lines : SpanKind → List Place → List Rule → List (List ℕ)
expansion_lines kind ps rs = title_written Expansion kind ∷ map (rule_written ps) rs
