-- The waiting list, entry by entry. Assumes nothing.
use Rattle.std.proofs.Common.{◌≡◌, ℕ, ◌-◌, ◌<◌, ◌≤◌, Bool, true, false, cond, ◌⊎◌, List, length, ◌++◌, get_or, take, drop, replicate, sym, ap, ◌∙◌, inl, inr, arith, length-append, length-drop}
use lib.ListN.{length-replicate}
use Rattle.std.proofs.lemmas.List.{ext_get_or, get_or-replicate, get_or_append_left, get_or-append_right, get_or-drop, length-take-le}
use Rattle.std.proofs.lemmas.Bool.{cases_lt}
use Rattle.books.specs.Boards.{has}
use Rattle.books.specs.Meaning.{Meaning}
use Rattle.books.specs.Waking.{woken}
use Rattle.books.proofs.Wakes.{woken_rule}
use Rattle.engine.specs.Waiting.{filled}

module _ (rules value : ℕ) (ws : List ℕ) (h : rules ≤ length ws) where
  pub length_filled : length (filled rules value ws) ≡ length ws
  unfolding filled
  length_filled = rw (length-append {A = ℕ} (replicate rules value) (drop rules ws), length-replicate {A = ℕ} rules value, length-drop rules ws) (omega arith)

  -- a rule's entry has the value
  pub filled_rule : (r : ℕ) → r < rules → get_or (filled rules value ws) r 0 ≡ value
  unfolding filled
  filled_rule r l =
      get_or_append_left (replicate rules value) (drop rules ws) 0 r (rw (length-replicate {A = ℕ} rules value) l) ∙ get_or-replicate rules r value 0 l

  -- the rest stays
  pub filled_rest : (k : ℕ) → rules ≤ k → get_or (filled rules value ws) k 0 ≡ get_or ws k 0
  unfolding filled
  filled_rest k l =
      get_or-append_right (replicate rules value) (drop rules ws) rules k 0 (length-replicate {A = ℕ} rules value) l
      ∙ get_or-drop rules ws (k - rules) 0 ∙ ap (λ (i : ℕ). get_or ws i 0) (omega arith)

  -- and so a list with the value at each rule, and the rest as it was, is the filled one
  pub filled_by : (vs : List ℕ) → length vs ≡ length ws → ((r : ℕ) → r < rules → get_or vs r 0 ≡ value) → ((k : ℕ) → rules ≤ k → get_or vs k 0 ≡ get_or ws k 0) → vs ≡ filled rules value ws
  filled_by vs e f g = ext_get_or 0 vs (filled rules value ws) (e ∙ sym length_filled) (λ k _. go k (cases_lt k rules))
    where
      go : (k : ℕ) → (k < rules) ⊎ (rules ≤ k) → get_or vs k 0 ≡ get_or (filled rules value ws) k 0
      go k (inl l) = f k l ∙ sym (filled_rule k l)
      go k (inr l) = g k l ∙ sym (filled_rest k l)

-- a front of that many entries, filled by itself
pub filled_front : (rules n value : ℕ) (ws front : List ℕ) → n ≡ rules → rules ≤ length ws → front ≡ replicate (length (take n ws)) value → front ++ drop n ws ≡ filled rules value ws
unfolding filled
filled_front rules n value ws front e h f = rw (f, e, length-take-le rules ws h)

-- a rule that does not wait after waking has not the place, and did not wait before
pub asleep : {S : Type 0} (book : Meaning S) (p : ℕ) (ws : List ℕ) (r : ℕ) → r < book.rules → book.rules ≤ length ws → get_or (woken book p ws) r 0 ≡ 0
    → (has p (book.rule r).scope ≡ false) × (get_or ws r 0 ≡ 0)
asleep book p ws r h l e = go (has p (book.rule r).scope) (sym (woken_rule book p ws r h (omega arith)) ∙ e)
  where
    go : (t : Bool) → cond t 1 (get_or ws r 0) ≡ 0 → (t ≡ false) × (get_or ws r 0 ≡ 0)
    go true z = absurd (omega arith)
    go false z = (λ i. false, z)
