-- What is told of each refusal: its number, its place and its rule. Assumes nothing.
use Rattle.std.specs.Prelude.{ℕ, List, ◌∷◌, ◌++◌}
use Rattle.std.specs.Fmt.{decimal}
use Rattle.engine.specs.declared.refusal.Refusal.{Refusal}
use Rattle.engine.specs.declared.refusal.Refusal.TheVariants.{TooShort, OtherBook, NoSuchPlace, EmptySpan, NothingShared, Emptied, KeepFull, NoMark, NotOneNumber}

-- the place that is none
abbrev pub place_none : ℕ
place_none = 255

-- the rule that is none
abbrev pub rule_none : ℕ
rule_none = 65535

-- the number by which the game is told
abbrev pub refusal_number : Refusal → ℕ
refusal_number TooShort = 12
refusal_number OtherBook = 20
refusal_number (NoSuchPlace place) = 13
refusal_number (EmptySpan place) = 14
refusal_number (NothingShared place) = 14
refusal_number (Emptied place rule) = 15
refusal_number KeepFull = 16
refusal_number NoMark = 17
refusal_number (NotOneNumber place) = 18

-- the place named: for one that is not counted, the place given
abbrev pub refusal_place : Refusal → ℕ
refusal_place TooShort = place_none
refusal_place OtherBook = place_none
refusal_place (NoSuchPlace place) = place
refusal_place (EmptySpan place) = place
refusal_place (NothingShared place) = place
refusal_place (Emptied place rule) = place
refusal_place KeepFull = place_none
refusal_place NoMark = place_none
refusal_place (NotOneNumber place) = place

-- the rule named
abbrev pub refusal_rule : Refusal → ℕ
refusal_rule TooShort = rule_none
refusal_rule OtherBook = rule_none
refusal_rule (NoSuchPlace place) = rule_none
refusal_rule (EmptySpan place) = rule_none
refusal_rule (NothingShared place) = rule_none
refusal_rule (Emptied place rule) = rule
refusal_rule KeepFull = rule_none
refusal_rule NoMark = rule_none
refusal_rule (NotOneNumber place) = rule_none

-- a refusal is written as its number, its place and its rule, with tabs between
abbrev pub refusal_text : Refusal → List ℕ
refusal_text refusal = decimal (refusal_number refusal) ++ 9 ∷ decimal (refusal_place refusal) ++ 9 ∷ decimal (refusal_rule refusal)
