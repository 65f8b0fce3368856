-- The positions worked through: one computed test over their list, and what it tells of each. Assumes nothing.
use Rattle.std.proofs.Common.{◌≡◌, ℕ, Bool, true, false, ◌&&◌, T, eqb, List, [], ◌∷◌, sym, refl, subst, ap₂, inl, inr, arith, eqb→eq}
use borrow.Author.Differences.{ints}
use lib.Count.{ones, ones_in}
use lib.Signed.{le_z}
use Rattle.spans.specs.Bools.{both}
use Rattle.spans.specs.Masks.{bit}
use Rattle.spans.specs.AmountKind.{amounts}
use Rattle.spans.specs.AmountLaws.{same_bounds}
use Rattle.spans.specs.ChoiceKind.{choices}
use Rattle.spans.specs.ChoiceLaws.{same_mask}
use Rattle.spans.specs.declared.amount.Amount.{Amount}
use Rattle.spans.specs.declared.choice.Choice.{Choice}
use Rattle.books.specs.Boards.{Among}
use Rattle.books.specs.Sweeps.{Outcome, emptied, left, visits, strike, total, walk, sweep, sweeps, settle}
use Rattle.rules.specs.TokenMasks.{mask_of}
use Rattle.rules.specs.TokenSets.{keeping}
use Rattle.rules.specs.Between.{answer_from}
use Rattle.rules.specs.Sums.{least_product_of, greatest_product_of, low, high, keep_at_most}
use Rattle.rules.specs.Sums as sums
use Rattle.rules.specs.Worked.{Worked, on_amounts, on_choices, Comes, worked, WorkedLaw}

-- the two amounts, or choices, are the same
same_amount : Amount → Amount → Bool
same_amount a b = le_z a.floor b.floor && le_z b.floor a.floor && le_z a.ceiling b.ceiling && le_z b.ceiling a.ceiling

same_choice : Choice → Choice → Bool
same_choice a b = eqb a.mask b.mask

-- two boards, and two outcomes, are the same
module _ {S : Type 0} (same : S → S → Bool) where
  same_board : List S → List S → Bool
  same_board [] [] = true
  same_board [] (b ∷ bs) = false
  same_board (a ∷ rest) [] = false
  same_board (a ∷ rest) (b ∷ bs) = same a b && same_board rest bs

  same_outcome : Outcome S → Outcome S → Bool
  unfolding same_board
  same_outcome (emptied p r) (emptied q s) = eqb p q && eqb r s
  same_outcome (emptied p r) (left b n) = false
  same_outcome (left a m) (emptied q s) = false
  same_outcome (left a m) (left b n) = same_board a b && eqb m n

  module _ (told : (a b : S) → T (same a b) → a ≡ b) where
    board_told : (a b : List S) → T (same_board a b) → a ≡ b
    unfolding same_board
    board_told [] [] t = refl
    board_told [] (b ∷ bs) t = absurd t
    board_told (a ∷ rest) [] t = absurd t
    board_told (a ∷ rest) (b ∷ bs) t = let s = both (same a b) (same_board rest bs) t in ap₂ (λ (x : S) (xs : List S). x ∷ xs) (told a b s.0) (board_told rest bs s.1)

    outcome_told : (a b : Outcome S) → T (same_outcome a b) → a ≡ b
    unfolding same_board same_outcome
    outcome_told (emptied p r) (emptied q s) t = let u = both (eqb p q) (eqb r s) t in ap₂ (λ (x y : ℕ). emptied x y) (eqb→eq p q u.0) (eqb→eq r s u.1)
    outcome_told (emptied p r) (left b n) t = absurd t
    outcome_told (left a m) (emptied q s) t = absurd t
    outcome_told (left a m) (left b n) t = let u = both (same_board a b) (eqb m n) t in ap₂ (λ (x : List S) (y : ℕ). left x y) (board_told a b u.0) (eqb→eq m n u.1)

amount_told : (a b : Amount) → T (same_amount a b) → a ≡ b
unfolding same_amount
amount_told a b t =
    let s = both (le_z a.floor b.floor && le_z b.floor a.floor && le_z a.ceiling b.ceiling) (le_z b.ceiling a.ceiling) t in
    let r = both (le_z a.floor b.floor && le_z b.floor a.floor) (le_z a.ceiling b.ceiling) s.0 in
    let q = both (le_z a.floor b.floor) (le_z b.floor a.floor) r.0 in
    same_bounds a b (omega (arith, ints, q.0, q.1)) (omega (arith, ints, r.1, s.1))

choice_told : (a b : Choice) → T (same_choice a b) → a ≡ b
unfolding same_choice
choice_told a b t = same_mask a b (eqb→eq a.mask b.mask t)

-- plain sweeps come to the outcome
passes : Worked → Bool
unfolding same_amount same_choice same_board same_outcome
passes (on_amounts book board should) = same_outcome same_amount (settle amounts book board) should
passes (on_choices book board should) = same_outcome same_choice (settle choices book board) should

passed : (w : Worked) → T (passes w) → Comes w
unfolding passes
passed (on_amounts book board should) t = outcome_told same_amount amount_told (settle amounts book board) should t
passed (on_choices book board should) t = outcome_told same_choice choice_told (settle choices book board) should t

-- the test over a list
all_pass : List Worked → Bool
all_pass [] = true
all_pass (w ∷ ws) = passes w && all_pass ws

all_passed : (ws : List Worked) → T (all_pass ws) → (w : Worked) → Among w ws → Comes w
unfolding all_pass
all_passed [] t w m = absurd m
all_passed (v ∷ ws) t w (inl e) = subst Comes (sym e) (passed v (both (passes v) (all_pass ws) t).0)
all_passed (v ∷ ws) t w (inr m) = all_passed ws (both (passes v) (all_pass ws) t).1 w m

tested : T (all_pass worked)
unfolding all_pass passes same_amount same_choice same_board same_outcome worked visits strike total walk sweep sweeps settle mask_of keeping answer_from bit ones ones_in least_product_of greatest_product_of low high keep_at_most sums.total
tested = tt

pub worked_law : WorkedLaw
worked_law = all_passed worked tested
