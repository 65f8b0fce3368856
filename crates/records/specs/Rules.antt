-- Rules, as rule lines state them. Assumes nothing.
use Rattle.std.specs.Prelude.{ℕ, List, ℤ}
use Rattle.rules.specs.declared.sums.term.Relation.{Relation}
use Rattle.rules.specs.declared.sums.term.Term.{Term}

-- two tokens that go together
pub record Tokens : Type 0 where
  pub first : ℕ
  pub second : ℕ

-- a rule, its places by their numbers
pub data Rule : Type 0 where
  sum : (relation : Relation) (bound : ℤ) (terms : List Term) → Rule
  pair : (first second : ℕ) (pairs : List Tokens) → Rule
  apart : (first second : ℕ) → Rule

-- a rule as a row holds it: for boards of so many places
pub record Row : Type 0 where
  pub places : ℕ
  pub rule : Rule
