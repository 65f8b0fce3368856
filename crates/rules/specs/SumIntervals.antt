-- Bounds consistency of linear constraints, as Zhang and Yap define it. A sum is such a constraint, its places are the variables. Assumes nothing.
use Rattle.std.specs.Prelude.{ℕ, zero, suc, ◌<◌, Bool, true, cond, ◌&&◌, List, [], ◌∷◌, ℤ, pos, negsuc, ◌+ℤ◌, ◌-ℤ◌, ◌*ℤ◌, neg_ℤ, ◌≤ℤ◌, Some, None, Option, int_le, int_lt}
use Rattle.std.proofs.Common.{arith}
use Rattle.std.specs.Int.{int_div_euclid}
use Rattle.spans.specs.AmountKind.{amounts}
use Rattle.spans.specs.declared.amount.Amount.{Amount}
use Rattle.books.specs.Boards.{span_at}
use Rattle.rules.specs.Sums.{others, coefficient_at}
use Rattle.rules.specs.declared.sums.term.Relation.{Relation}
use Rattle.rules.specs.declared.sums.term.Relation.TheVariants.{AtMost, AtLeast, Equal}
use Rattle.rules.specs.declared.sums.term.Term.{Term}

-- ---- intervals and their operations

-- an interval, by its ends
pub record Interval (End : Type 0) : Type 0 where
  pub lower : End
  pub upper : End

-- [x] + [y]
abbrev pub plus : Interval ℤ → Interval ℤ → Interval ℤ
plus x y = record { lower = x.lower +ℤ y.lower; upper = x.upper +ℤ y.upper }

-- [x] - a
abbrev pub minus : Interval ℤ → ℤ → Interval ℤ
minus x a = record { lower = x.lower -ℤ a; upper = x.upper -ℤ a }

-- a[x]: the ends change sides where a is below 0
abbrev pub multiple : ℤ → Interval ℤ → Interval ℤ
multiple a x = record {
  lower = cond (int_lt (pos 0) a) (a *ℤ x.lower) (a *ℤ x.upper);
  upper = cond (int_lt (pos 0) a) (a *ℤ x.upper) (a *ℤ x.lower);
}

-- the interval of a place: from its floor to its ceiling
abbrev pub interval_at : List Amount → ℕ → Interval ℤ
interval_at b p = record { lower = (span_at amounts b p).floor; upper = (span_at amounts b p).ceiling }

-- the terms on intervals: a₁[x₁] + .. + aₙ[xₙ]
unfoldable pub extension : List Amount → List Term → Interval ℤ
extension b [] = record { lower = pos 0; upper = pos 0 }
extension b (t ∷ ts) = plus (multiple t.coefficient (interval_at b t.place)) (extension b ts)

-- ---- rational numbers

-- a numerator over a denominator above 0
pub record Rational : Type 0 where
  pub numerator : ℤ
  pub denominator : ℕ
  pub positive : 0 < denominator

abbrev pub whole : ℤ → Rational
whole z = record { numerator = z; denominator = 1; positive = omega arith }

-- the order, by cross-multiplication
abbrev pub NotAbove : Rational → Rational → Type 0
NotAbove q r = (pos r.denominator *ℤ q.numerator) ≤ℤ (pos q.denominator *ℤ r.numerator)

-- -1/a, for a coefficient; a coefficient is not 0
abbrev pub minus_inverse : ℤ → Rational
minus_inverse (pos zero) = whole (pos 0)
minus_inverse (pos (suc n)) = record { numerator = negsuc 0; denominator = suc n; positive = omega arith }
minus_inverse (negsuc n) = record { numerator = pos 1; denominator = suc n; positive = omega arith }

-- a rational number times a whole one
abbrev pub times : Rational → ℤ → Rational
times q z = record { numerator = q.numerator *ℤ z; denominator = q.denominator; positive = q.positive }

-- q[x]
abbrev pub scaled : Rational → Interval ℤ → Interval Rational
scaled q x = record {
  lower = cond (int_lt (pos 0) q.numerator) (times q x.lower) (times q x.upper);
  upper = cond (int_lt (pos 0) q.numerator) (times q x.upper) (times q x.lower);
}

-- the greatest whole number that is not above q, and the least that is not below
abbrev pub round_down : Rational → ℤ
round_down q = int_div_euclid q.numerator (pos q.denominator)

abbrev pub round_up : Rational → ℤ
round_up q = neg_ℤ (int_div_euclid (neg_ℤ q.numerator) (pos q.denominator))

-- ---- projections

-- the constraint solved for the place of the term at an index, on intervals: -1/aᵢ [the other terms - bound]
abbrev pub solved : ℤ → List Term → ℕ → List Amount → Interval Rational
solved bound ts i b = scaled (minus_inverse (coefficient_at ts i)) (minus (extension b (others i ts)) bound)

-- an interval that may be without end on a side, which is None there
abbrev pub Range : Type 0 → Type 0
Range End = Interval (Option End)

-- the relation in which the solved place stands: turned where the coefficient is below 0
abbrev pub turned : Relation → Relation
turned AtMost = AtLeast
turned AtLeast = AtMost
turned Equal = Equal

abbrev pub solved_relation : Relation → ℤ → Relation
solved_relation relation a = cond (int_lt a (pos 0)) (turned relation) relation

-- the side, or the sides, that the relation bounds
abbrev pub bounded : Relation → Interval Rational → Range Rational
bounded AtMost x = record { lower = None; upper = Some x.upper }
bounded AtLeast x = record { lower = Some x.lower; upper = None }
bounded Equal x = record { lower = Some x.lower; upper = Some x.upper }

-- the projection of the constraint on the place of the term at an index
abbrev pub projection : Relation → ℤ → List Term → ℕ → List Amount → Range Rational
projection relation bound ts i b = bounded (solved_relation relation (coefficient_at ts i)) (solved bound ts i b)

-- the whole numbers of a range: its ends are rounded inward
abbrev pub lower_whole : Option Rational → Option ℤ
lower_whole None = None
lower_whole (Some q) = Some (round_up q)

abbrev pub upper_whole : Option Rational → Option ℤ
upper_whole None = None
upper_whole (Some q) = Some (round_down q)

abbrev pub inward : Range Rational → Range ℤ
inward x = record { lower = lower_whole x.lower; upper = upper_whole x.upper }

-- a number is in a range
abbrev pub from_end : Option ℤ → ℤ → Bool
from_end None x = true
from_end (Some z) x = int_le z x

abbrev pub to_end : Option ℤ → ℤ → Bool
to_end None x = true
to_end (Some z) x = int_le x z

abbrev pub in_range : Range ℤ → ℤ → Bool
in_range r x = from_end r.lower x && to_end r.upper x

-- the whole numbers of the projection
abbrev pub projected : Relation → ℤ → List Term → ℕ → List Amount → ℤ → Bool
projected relation bound ts i b x = in_range (inward (projection relation bound ts i b)) x
