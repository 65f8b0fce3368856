-- What a rule book means, and the laws that every book keeps. Assumes nothing.
use Rattle.std.specs.Prelude.{◌≡◌, ℕ, ◌<◌, ◌≤◌, Bool, true, T, ◌↔◌, List, length, ℤ}
use Rattle.spans.specs.Kind.{Kind, Within}
use Rattle.books.specs.Boards.{Among, Distinct, span_at, number_at, Full, Inside, On}

-- a rule over boards of spans of the type S
pub record Rule (S : Type 0) : Type 0 where
  -- its places, in order
  pub scope : List ℕ
  -- which holdings obey it
  pub obeys : List ℤ → Bool
  -- its answer for a place on a board: what it leaves of the span there
  pub answer : ℕ → List S → S

-- a book: how many places and rules it counts, and its rules by their numbers
pub record Meaning (S : Type 0) : Type 0 where
  pub places : ℕ
  pub rules : ℕ
  pub rule : ℕ → Rule S

-- the laws of one rule, on boards of so many places
pub record Sound {S : Type 0} (kind : Kind S) (places : ℕ) (rule : Rule S) : Type 0 where
  -- it has 1 to 16 places, all of them counted, none twice
  pub some : 1 ≤ length rule.scope
  pub few : length rule.scope ≤ 16
  pub counted : (p : ℕ) → Among p rule.scope → p < places
  pub once : Distinct rule.scope
  -- 1: the answer admits only what the board's span there admits
  pub narrows : (p : ℕ) (b : List S) → p < places → Full kind places b → Within kind (rule.answer p b) (span_at kind b p)
  -- 2: on a board inside another, the answer admits no more than on the other
  pub monotone : (p : ℕ) (a b : List S) → p < places → Full kind places a → Full kind places b → Inside kind places a b → Within kind (rule.answer p a) (rule.answer p b)
  -- 3: a holding on the board that obeys the rule has its number in the answer
  pub keeps : (p : ℕ) (b : List S) (h : List ℤ) → p < places → Full kind places b → On kind places h b → T (rule.obeys h) → T (kind.admits (rule.answer p b) (number_at h p))
  -- 4: where every span admits exactly one number, some answer of the rule is empty exactly when that holding breaks the rule
  pub decides : (b : List S) (h : List ℤ) → Full kind places b → ((p : ℕ) → p < places → kind.size (span_at kind b p) ≡ 1) → On kind places h b
      → ((p : ℕ) × (p < places) × (kind.size (rule.answer p b) ≡ 0)) ↔ (T (rule.obeys h) → ⊥)
  -- 5: the answer at a place of the rule depends only on the rule's own places; elsewhere it is the board's span
  pub own : (p : ℕ) (a b : List S) → Among p rule.scope → Full kind places a → Full kind places b → ((q : ℕ) → Among q rule.scope → span_at kind a q ≡ span_at kind b q) → rule.answer p a ≡ rule.answer p b
  pub elsewhere : (p : ℕ) (b : List S) → p < places → (Among p rule.scope → ⊥) → Full kind places b → rule.answer p b ≡ span_at kind b p
  -- where a place of the rule has an empty span, the answer is the board's span
  pub at_empty : (p q : ℕ) (b : List S) → p < places → Among q rule.scope → length b ≡ places → kind.size (span_at kind b q) ≡ 0 → rule.answer p b ≡ span_at kind b p

-- the laws of a book: 1 to 254 places, at most 1,000 rules, and each rule keeps the laws of a rule
pub record Lawful {S : Type 0} (kind : Kind S) (book : Meaning S) : Type 0 where
  pub some_place : 1 ≤ book.places
  pub few_places : book.places ≤ 254
  pub few_rules : book.rules ≤ 1000
  pub each : (r : ℕ) → r < book.rules → Sound kind book.places (book.rule r)

-- a rule of these places that every holding obeys and that leaves every span as it is
abbrev pub idle : {S : Type 0} → Kind S → List ℕ → Rule S
idle kind scope = record { scope = scope; obeys = λ h. true; answer = λ p b. span_at kind b p }
