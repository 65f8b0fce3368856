-- The rule lines of a sheet that is places and rules written out are those of its rules. Assumes nothing.
use Rattle.std.proofs.Common.{◌≡◌, ℕ, Bool, true, false, List, [], ◌∷◌, ◌++◌, map, filter, sym, refl, ap, ◌∙◌, ap₂}
use Rattle.std.proofs.lemmas.List.{map-append}
use Rattle.std.proofs.lemmas.List.Elements.{filter-append}
use Rattle.std.proofs.lemmas.Bool.{cond-true, cond-false}
use Rattle.sheets.specs.declared.title.SpanKind.{SpanKind}
use Rattle.records.specs.Places.{Place}
use Rattle.records.specs.Rules.{Rule, sum, pair, apart}
use Rattle.readings.specs.RuleLines.{rule_line_test, rule_lines_of}
use Rattle.readings.specs.Written.{place_written, rule_written, game_lines, expansion_lines}
use Rattle.readings.specs.Laws.{GameOf, ExpansionOf, RuleLinesLaw}
use Rattle.readings.proofs.Lining.{lined_ended}

-- a rule's line is a rule line, whatever the rule is
pub rule_line_lem : (ps : List Place) (rule : Rule) → rule_line_test (rule_written ps rule) ≡ true
rule_line_lem ps (sum relation bound terms) = refl
rule_line_lem ps (pair first second pairs) = refl
rule_line_lem ps (apart first second) = refl

-- all that pass are kept, and none that fails
kept_all : {X Y : Type 0} (test : Y → Bool) (f : X → Y) → ((x : X) → test (f x) ≡ true) → (xs : List X) → filter test (map f xs) ≡ map f xs
kept_all test f passes [] = refl
kept_all test f passes (x ∷ xs) = cond-true _ _ _ (passes x) ∙ ap (λ ys. f x ∷ ys) (kept_all test f passes xs)

kept_none : {X Y : Type 0} (test : Y → Bool) (f : X → Y) → ((x : X) → test (f x) ≡ false) → (xs : List X) → filter test (map f xs) ≡ []
kept_none test f fails [] = refl
kept_none test f fails (x ∷ xs) = cond-false _ _ _ (fails x) ∙ kept_none test f fails xs

-- the title and the lines of places are none, by their words
pub game_rule_lines : (kind : SpanKind) (places rules : ℕ) (sheet : List ℕ) (ps : List Place) (rs : List Rule) → GameOf kind places rules sheet ps rs → rule_lines_of sheet ≡ map (rule_written ps) rs
game_rule_lines kind places rules sheet ps rs g =
    ap (filter rule_line_test) (lined_ended sheet (game_lines kind ps rs) g.written)
    ∙ filter-append rule_line_test (map place_written ps) (map (rule_written ps) rs)
    ∙ ap (λ ls. ls ++ filter rule_line_test (map (rule_written ps) rs)) (kept_none rule_line_test place_written (λ p. refl) ps)
    ∙ kept_all rule_line_test (rule_written ps) (rule_line_lem ps) rs

pub expansion_rule_lines : (kind : SpanKind) (ps : List Place) (rules : ℕ) (sheet : List ℕ) (rs : List Rule) → ExpansionOf kind ps rules sheet rs → rule_lines_of sheet ≡ map (rule_written ps) rs
expansion_rule_lines kind ps rules sheet rs x =
    ap (filter rule_line_test) (lined_ended sheet (expansion_lines kind ps rs) x.written)
    ∙ kept_all rule_line_test (rule_written ps) (rule_line_lem ps) rs

pub rule_lines_law : (game expansion : List ℕ) → RuleLinesLaw game expansion
rule_lines_law game expansion kind places rules entries ps rs es g x =
    ap₂ (λ a b. a ++ b) (game_rule_lines kind places rules game ps rs g) (expansion_rule_lines kind ps entries expansion es x)
    ∙ sym (map-append (rule_written ps) rs es)
