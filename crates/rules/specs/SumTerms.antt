-- What makes a sum. Assumes nothing.
use Rattle.std.specs.Prelude.{ℕ, Bool, true, not, ◌&&◌, ◌||◌, List, [], ◌∷◌, map, length, ℤ, pos, neg_ℤ, int_le, int_lt, nat_le, nat_lt}
use Rattle.books.specs.Boards.{has}
use Rattle.rules.specs.declared.sums.term.Term.{Term}

-- a coefficient is a whole number from -10,000 to 10,000, and not 0
abbrev pub is_coefficient : ℤ → Bool
is_coefficient a = int_le (neg_ℤ (pos 10_000)) a && int_le a (pos 10_000) && (int_lt a (pos 0) || int_lt (pos 0) a)

-- a bound is a whole number from -1,000,000,000,000 to 1,000,000,000,000
abbrev pub bound_test : ℤ → Bool
bound_test b = int_le (neg_ℤ (pos 1_000_000_000_000)) b && int_le b (pos 1_000_000_000_000)

abbrev pub place_of : Term → ℕ
place_of t = t.place

-- a term of a sum on boards of so many places
abbrev pub term_test : ℕ → Term → Bool
term_test places t = is_coefficient t.coefficient && nat_lt t.place places

-- every term is one, and no place stands twice
abbrev pub terms_test : ℕ → List Term → Bool
terms_test places [] = true
terms_test places (t ∷ ts) = term_test places t && not (has t.place (map place_of ts)) && terms_test places ts

-- a sum has a bound and 1 to 16 such terms
abbrev pub sum_test : ℕ → ℤ → List Term → Bool
sum_test places bound ts = bound_test bound && nat_le 1 (length ts) && nat_le (length ts) 16 && terms_test places ts
