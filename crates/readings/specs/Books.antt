-- What the books and boards of sheets mean. Assumes nothing.
use Rattle.std.specs.Prelude.{◌≡◌, ℕ, ◌<◌, ◌≤◌, List, map, length, get_or, drop, ℤ, slice_index_or}
use Rattle.spans.specs.Kind.{Kind}
use Rattle.books.specs.Boards.{span_at}
use Rattle.books.specs.Meaning.{Meaning}
use Rattle.sheets.specs.declared.title.SpanKind.{SpanKind}
use Rattle.records.specs.Places.{Place}
use Rattle.records.specs.Rules.{Rule, Row, apart}
use Rattle.records.specs.Meanings.{scope_of, obeys_rule}
use Rattle.records.specs.RuleLines.{opens}
use Rattle.readings.specs.Laws.{row_for}

-- a book means these rules over so many places
pub record Means {S : Type 0} (meaning : Meaning S) (places : ℕ) (rs : List Rule) : Type 0 where
  pub places_are : meaning.places ≡ places
  pub rules_are : meaning.rules ≡ length rs
  pub scopes : (r : ℕ) → r < length rs → (meaning.rule r).scope ≡ scope_of (slice_index_or rs r (apart 0 0))
  pub holdings : (r : ℕ) (h : List ℤ) → r < length rs → (meaning.rule r).obeys h ≡ obeys_rule (slice_index_or rs r (apart 0 0)) h

-- the book of rows that hold rules for boards of so many places means those rules
abbrev pub BookLaw : {S : Type 0} → ℕ → List Row → Meaning S → Type 0
BookLaw places rows meaning = (rs : List Rule) → rows ≡ map (row_for places) rs → 1 ≤ places → places ≤ 254 → length rs ≤ 1000 → Means meaning places rs

-- a board after the opening spans of places were written into it, as far as it reaches: the rest stays
pub record Opened {S : Type 0} (kind : Kind S) (sheets : SpanKind) (ps : List Place) (before after : List S) : Type 0 where
  pub long : length after ≡ length before
  pub spans : (p : ℕ) (d : Place) (x : ℤ) → p < length ps → p < length after → kind.admits (span_at kind after p) x ≡ opens sheets (get_or ps p d).opening x
  pub rest : drop (length ps) after ≡ drop (length ps) before
