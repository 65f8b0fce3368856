-- Checks in a row that are all passed. Assumes nothing.
use Rattle.std.proofs.Common.{◌≡◌, ℕ, Bool, true, false, cond, Some, None, Ok, Err, Option, Result, refl, arith}
use Rattle.text.specs.declared.fault.At.{At}
use Rattle.text.specs.declared.fault.FieldFault.{FieldFault}
use Rattle.sheets.specs.declared.fault.SheetFault.{SheetFault}
use Rattle.records.specs.Names.{known}
use Rattle.records.specs.Steps.{then, unless_fault}

-- what was read first, and that the rest went on with it
pub record Passed {A B E : Type 0} (r : Result A E) (next : A → Result B E) (b : B) : Type 0 where
  pub value : A
  pub read : r ≡ Ok value
  pub rest : next value ≡ Ok b

pub then_ok : {A B E : Type 0} (r : Result A E) (next : A → Result B E) (b : B) → then r next ≡ Ok b → Passed r next b
then_ok (Ok a) next b e = record { value = a; read = refl; rest = e }
then_ok (Err fault) next b e = let z : ◌≡◌ {A = ℕ} 0 1 = cc in absurd (omega arith)

pub record Raised {A B : Type 0} (r : Result A FieldFault) (next : A → Result B SheetFault) (b : B) : Type 0 where
  pub value : A
  pub read : r ≡ Ok value
  pub rest : next value ≡ Ok b

pub raised_ok : {A B : Type 0} (r : Result A FieldFault) (next : A → Result B SheetFault) (b : B) → unless_fault r next ≡ Ok b → Raised r next b
raised_ok (Ok a) next b e = record { value = a; read = refl; rest = e }
raised_ok (Err fault) next b e = let z : ◌≡◌ {A = ℕ} 0 1 = cc in absurd (omega arith)

-- a test that refuses where it is true, or where it is false
pub passed_false : {A E : Type 0} (t : Bool) (fault : E) (r : Result A E) (a : A) → cond t (Err fault) r ≡ Ok a → (t ≡ false) × (r ≡ Ok a)
passed_false true fault r a e = let z : ◌≡◌ {A = ℕ} 0 1 = cc in absurd (omega arith)
passed_false false fault r a e = (refl, e)

pub passed_true : {A E : Type 0} (t : Bool) (fault : E) (r : Result A E) (a : A) → cond t r (Err fault) ≡ Ok a → (t ≡ true) × (r ≡ Ok a)
passed_true true fault r a e = (refl, e)
passed_true false fault r a e = let z : ◌≡◌ {A = ℕ} 0 1 = cc in absurd (omega arith)

pub known_ok : (at : At) (o : Option ℕ) (p : ℕ) → known at o ≡ Ok p → o ≡ Some p
known_ok at None p e = let z : ◌≡◌ {A = ℕ} 0 1 = cc in absurd (omega arith)
known_ok at (Some q) p e = cc

pub same_ok : {A E : Type 0} {x y : A} → ◌≡◌ {A = Result A E} (Ok x) (Ok y) → x ≡ y
same_ok e = cc
