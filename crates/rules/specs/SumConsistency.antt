-- How the answers of sums stand to bounds consistency and to arc consistency: the statements. Assumes nothing.
use Rattle.std.specs.Prelude.{◌≡◌, ℕ, ◌<◌, ◌&&◌, T, ◌↔◌, List, map, length, get_or, ℤ, ◌*ℤ◌, ◌≤ℤ◌, slice_index_or}
use Rattle.spans.specs.Amounts.{amount_admits, amount_size}
use Rattle.spans.specs.AmountKind.{amounts}
use Rattle.spans.specs.declared.amount.Amount.{Amount}
use Rattle.books.specs.Boards.{Among, span_at, number_at, Full, On}
use Rattle.books.specs.Settled.{Settled}
use Rattle.rules.specs.SumTerms.{place_of}
use Rattle.rules.specs.SumRows.{blank, terms_of}
use Rattle.rules.specs.Sums.{least_product_of, greatest_product_of, may_stay}
use Rattle.rules.specs.BookCounts.{place_count, rule_count}
use Rattle.rules.specs.SumBooks.{rule_of, sum_book_of}
use Rattle.rules.specs.RowBooks.{Calm}
use Rattle.rules.specs.SumIntervals.{Rational, whole, NotAbove, round_down, round_up, projected}
use Rattle.rules.specs.declared.sums.term.Relation.{Relation}
use Rattle.rules.specs.declared.sums.term.Relation.TheVariants.{AtMost, AtLeast, Equal}
use Rattle.rules.specs.declared.sums.row.SumRow.{SumRow}

-- the place of a row's term at an index
abbrev pub place_of_term : SumRow → ℕ → ℕ
place_of_term row i = (get_or (terms_of row) i blank).place

abbrev pub FullFor : SumRow → List Amount → Type 0
FullFor row b = Full amounts row.places b

-- which numbers an answer keeps, on a board without an empty span
pub record ExactLaw (row : SumRow) : Type 0 where
  -- at a place of the sum: the numbers of the span that may stay
  pub kept : (i : ℕ) (b : List Amount) (x : ℤ) → i < length (terms_of row) → FullFor row b
      → amount_admits ((rule_of row).answer (place_of_term row i) b) x ≡ (amount_admits (span_at amounts b (place_of_term row i)) x && may_stay row.relation row.bound (terms_of row) i b x)
  -- low and high add products that are the least and the greatest of the span's numbers
  pub least : (a : ℤ) (s : Amount) → 0 < amount_size s → ((x : ℤ) → T (amount_admits s x) → least_product_of a s ≤ℤ (a *ℤ x)) × ((x : ℤ) × T (amount_admits s x) × (least_product_of a s ≡ a *ℤ x))
  pub greatest : (a : ℤ) (s : Amount) → 0 < amount_size s → ((x : ℤ) → T (amount_admits s x) → (a *ℤ x) ≤ℤ greatest_product_of a s) × ((x : ℤ) × T (amount_admits s x) × (greatest_product_of a s ≡ a *ℤ x))

-- the sum is bounds consistent: the interval of each of its places lies inside the whole numbers of the projection on it
abbrev pub BoundsConsistent : SumRow → List Amount → Type 0
BoundsConsistent row b = (i : ℕ) → i < length (terms_of row) → (x : ℤ) → T (amount_admits (span_at amounts b (place_of_term row i)) x) → T (projected row.relation row.bound (terms_of row) i b x)

-- a number rounded down is the greatest whole one that is not above, and rounded up the least that is not below
pub record RoundingLaw : Type 0 where
  pub down : (q : Rational) → NotAbove (whole (round_down q)) q × ((z : ℤ) → NotAbove (whole z) q → z ≤ℤ round_down q)
  pub up : (q : Rational) → NotAbove q (whole (round_up q)) × ((z : ℤ) → NotAbove q (whole z) → round_up q ≤ℤ z)

-- a board without an empty span is settled under the sum exactly when the sum is bounds consistent there, and an answer is the span cut to the projection
pub record BoundsLaw (row : SumRow) : Type 0 where
  pub settled : (b : List Amount) → FullFor row b → Calm amounts row.places (rule_of row) b ↔ BoundsConsistent row b
  pub cut : (i : ℕ) (b : List Amount) (x : ℤ) → i < length (terms_of row) → FullFor row b
      → amount_admits ((rule_of row).answer (place_of_term row i) b) x ≡ (amount_admits (span_at amounts b (place_of_term row i)) x && projected row.relation row.bound (terms_of row) i b x)
  pub rounding : RoundingLaw

-- the sum is arc consistent: each number of its places' spans is part of a holding on the board that obeys it
abbrev pub ArcConsistentSum : SumRow → List Amount → Type 0
ArcConsistentSum row b = (p : ℕ) → Among p (map place_of (terms_of row)) → (x : ℤ) → T (amount_admits (span_at amounts b p) x)
    → (h : List ℤ) × On amounts row.places h b × (number_at h p ≡ x) × T ((rule_of row).obeys h)

-- a sum that is no equation
abbrev pub Inequality : Relation → Type 0
Inequality AtMost = Unit {0}
Inequality AtLeast = Unit {0}
Inequality Equal = ⊥

-- a bounds-consistent inequality is arc consistent
abbrev pub ArcLaw : SumRow → Type 0
ArcLaw row = Inequality row.relation → (b : List Amount) → FullFor row b → BoundsConsistent row b → ArcConsistentSum row b

-- a board is settled for a book of sums exactly when it has no empty span and each row that is for such boards is bounds consistent
abbrev pub AllConsistent : ℕ → ℕ → List SumRow → List Amount → Type 0
AllConsistent places rules rows b = (r : ℕ) (d : SumRow) → r < rules → (get_or rows r d).places ≡ places → BoundsConsistent (slice_index_or rows r d) b

abbrev pub SettledLaw : ℕ → List SumRow → Type 0
SettledLaw places rows = (b : List Amount) → Settled amounts (sum_book_of places rows) b ↔ (Full amounts (place_count places) b × AllConsistent (place_count places) (rule_count (length rows)) rows b)
