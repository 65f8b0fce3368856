-- What a sum means: which holdings obey it, and what it leaves of a span. Assumes nothing.
use Rattle.std.specs.Prelude.{ℕ, zero, suc, Bool, cond, not, ◌&&◌, List, [], ◌∷◌, map, ℤ, pos, ◌+ℤ◌, ◌-ℤ◌, ◌*ℤ◌, neg_ℤ, Some, None, Option, ◌==◌, int_le, int_lt, slice_index_or}
use Rattle.std.specs.List.{list_all}
use Rattle.std.specs.Int.{int_max, int_min, int_div_euclid}
use Rattle.spans.specs.Amounts.{amount_from, amount_size}
use Rattle.spans.specs.AmountKind.{amounts}
use Rattle.spans.specs.declared.amount.Amount.{Amount}
use Rattle.books.specs.Boards.{span_at, number_at}
use Rattle.books.specs.Meaning.{Rule}
use Rattle.rules.specs.SumTerms.{place_of}
use Rattle.rules.specs.SumRows.{blank}
use Rattle.rules.specs.declared.sums.term.Relation.{Relation}
use Rattle.rules.specs.declared.sums.term.Relation.TheVariants.{AtMost, AtLeast, Equal}
use Rattle.rules.specs.declared.sums.term.Term.{Term}

-- what the terms come to together, by what each comes to
unfoldable pub total : (Term → ℤ) → List Term → ℤ
total of [] = pos 0
total of (t ∷ ts) = of t +ℤ total of ts

-- a number stands in the relation to a bound
abbrev pub stands : Relation → ℤ → ℤ → Bool
stands AtMost x bound = int_le x bound
stands AtLeast x bound = int_le bound x
stands Equal x bound = int_le x bound && int_le bound x

-- the coefficient times the number that the holding has at the place
abbrev pub product_in : List ℤ → Term → ℤ
product_in h t = t.coefficient *ℤ number_at h t.place

-- the sum of a holding
abbrev pub sum_of : List Term → List ℤ → ℤ
sum_of ts h = total (product_in h) ts

-- the least product of a coefficient and a number of a span: with the floor, or with the ceiling where the coefficient is below 0
unfoldable pub least_product_of : ℤ → Amount → ℤ
least_product_of a s = cond (int_lt (pos 0) a) (a *ℤ s.floor) (a *ℤ s.ceiling)

-- the greatest product
unfoldable pub greatest_product_of : ℤ → Amount → ℤ
greatest_product_of a s = cond (int_lt (pos 0) a) (a *ℤ s.ceiling) (a *ℤ s.floor)

-- these for a term on a board
abbrev pub least_on : List Amount → Term → ℤ
least_on b t = least_product_of t.coefficient (span_at amounts b t.place)

abbrev pub greatest_on : List Amount → Term → ℤ
greatest_on b t = greatest_product_of t.coefficient (span_at amounts b t.place)

-- all terms but the one at an index
abbrev pub others : ℕ → List Term → List Term
others i [] = []
others zero (t ∷ ts) = ts
others (suc i) (t ∷ ts) = t ∷ others i ts

-- low adds, over the other terms, the least products, and high the greatest
unfoldable pub low : List Term → ℕ → List Amount → ℤ
low ts asked b = total (least_on b) (others asked ts)

unfoldable pub high : List Term → ℕ → List Amount → ℤ
high ts asked b = total (greatest_on b) (others asked ts)

-- the coefficient at an index
abbrev pub coefficient_at : List Term → ℕ → ℤ
coefficient_at ts i = (slice_index_or ts i blank).coefficient

-- the numbers x of a span with a * x at most r: the quotient is rounded down, or up where a is below 0
unfoldable pub keep_at_most : ℤ → ℤ → Amount → Amount
keep_at_most a r s =
    cond (int_lt (pos 0) a)
    (amount_from s.floor (int_min (int_div_euclid r a) s.ceiling))
    (amount_from (int_max (neg_ℤ (int_div_euclid r (neg_ℤ a))) s.floor) s.ceiling)

-- those with a * x at least r
abbrev pub keep_at_least : ℤ → ℤ → Amount → Amount
keep_at_least a r s = keep_at_most (neg_ℤ a) (neg_ℤ r) s

-- what the sum leaves of a span at the place of the term at an index
abbrev pub cut : Relation → ℤ → List Term → ℕ → List Amount → Amount → Amount
cut AtMost bound ts i b s = keep_at_most (coefficient_at ts i) (bound -ℤ low ts i b) s
cut AtLeast bound ts i b s = keep_at_least (coefficient_at ts i) (bound -ℤ high ts i b) s
cut Equal bound ts i b s = keep_at_least (coefficient_at ts i) (bound -ℤ high ts i b) (keep_at_most (coefficient_at ts i) (bound -ℤ low ts i b) s)

-- whether a number may stay there: with it, and with the least or the greatest products elsewhere, the sum does not miss the bound
abbrev pub may_stay : Relation → ℤ → List Term → ℕ → List Amount → ℤ → Bool
may_stay AtMost bound ts i b x = int_le (coefficient_at ts i *ℤ x +ℤ low ts i b) bound
may_stay AtLeast bound ts i b x = int_le bound (coefficient_at ts i *ℤ x +ℤ high ts i b)
may_stay Equal bound ts i b x = int_le (coefficient_at ts i *ℤ x +ℤ low ts i b) bound && int_le bound (coefficient_at ts i *ℤ x +ℤ high ts i b)

-- the index of the place's term among terms that are counted from n on, or else what was found before
abbrev pub index_from : ℕ → ℕ → List Term → Option ℕ → Option ℕ
index_from n p [] found = found
index_from n p (t ∷ ts) found = index_from (suc n) p ts (cond (t.place == p) (Some n) found)

-- no place of the terms has an empty span
abbrev pub all_some : List Term → List Amount → Bool
all_some ts b = list_all (λ t. not (amount_size (span_at amounts b t.place) == 0)) ts

-- the index of the term that is asked: there is none at another place, and none where a place of the terms has an empty span
abbrev pub asked_in : List Term → ℕ → List Amount → Option ℕ
asked_in ts p b = cond (all_some ts b) (index_from 0 p ts None) None

-- the answer: the span cut, or the span itself where no term is asked
abbrev pub answered : Relation → ℤ → List Term → List Amount → Amount → Option ℕ → Amount
answered relation bound ts b s None = s
answered relation bound ts b s (Some i) = cut relation bound ts i b s

-- the rule of a sum
abbrev pub sum_rule : Relation → ℤ → List Term → Rule Amount
sum_rule relation bound ts = record {
  scope = map place_of ts;
  obeys = λ h. stands relation (sum_of ts h) bound;
  answer = λ p b. answered relation bound ts b (span_at amounts b p) (asked_in ts p b);
}
