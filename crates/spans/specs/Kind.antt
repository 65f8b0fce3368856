-- A kind of span, as amounts or choices: what its spans mean, and the laws that every kind keeps. Assumes nothing.
use Rattle.std.specs.Prelude.{◌≡◌, ℕ, Bool, false, cond, ◌&&◌, T, ℤ, ◌≤ℤ◌, Some, None, Option, ◌==◌}
use Rattle.spans.specs.Numbers.{Number, numbers, counted}

pub record Kind (S : Type 0) : Type 0 where
  -- whether the span admits the number: this is all that a span means
  pub admits : S → ℤ → Bool
  -- the common part of two spans
  pub meet : S → S → S
  -- how many numbers the span admits
  pub size : S → ℕ
  -- the least number that the span admits, if it admits any
  pub least : S → ℤ
  -- a span that admits nothing
  pub none : S
  -- only numbers are admitted
  pub within_range : (a : S) (x : ℤ) → T (admits a x) → Number x
  -- two spans that admit the same numbers are the same span
  pub same : (a b : S) → ((x : ℤ) → admits a x ≡ admits b x) → a ≡ b
  -- the common part admits exactly what both admit
  pub meet_admits : (a b : S) (x : ℤ) → admits (meet a b) x ≡ (admits a x && admits b x)
  -- the size is the number of numbers admitted
  pub size_counts : (a : S) → size a ≡ counted (admits a) numbers
  -- where any number is admitted, so is the least one
  pub least_admitted : (a : S) (x : ℤ) → T (admits a x) → T (admits a (least a))
  -- no admitted number lies below the least one
  pub least_first : (a : S) (x : ℤ) → T (admits a x) → least a ≤ℤ x
  -- nothing is admitted by `none`
  pub none_admits : (x : ℤ) → admits none x ≡ false

module _ {S : Type 0} (kind : Kind S) where
  -- the least number, if any is admitted
  abbrev pub least_of : S → Option ℤ
  least_of a = cond (kind.size a == 0) None (Some (kind.least a))

  -- the span admits nothing
  abbrev pub Empty : S → Type 0
  Empty a = (x : ℤ) → kind.admits a x ≡ false

  -- a admits only what b admits
  abbrev pub Within : S → S → Type 0
  Within a b = (x : ℤ) → T (kind.admits a x) → T (kind.admits b x)

  -- the span admits exactly one number
  pub record Single (a : S) : Type 0 where
    pub it : ℤ
    pub admitted : T (kind.admits a it)
    pub alone : (x : ℤ) → T (kind.admits a x) → x ≡ it
