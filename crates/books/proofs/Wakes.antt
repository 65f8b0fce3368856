-- Waking, entry by entry. Assumes nothing.
use Rattle.std.proofs.Common.{◌≡◌, ℕ, zero, suc, ◌+◌, ◌<◌, ◌≤◌, Bool, true, false, cond, ◌⊎◌, List, [], ◌∷◌, length, get_or, set, sym, refl, ap, ◌∙◌, inl, inr, arith, length-set}
use Rattle.std.proofs.lemmas.List.{ext_get_or, get_or-set_same, get_or-set_other}
use Rattle.std.proofs.lemmas.Bool.{cases_eq, cases_lt}
use Rattle.books.specs.Boards.{has}
use Rattle.books.specs.Meaning.{Meaning}
use Rattle.books.specs.Waking.{woken_from, woken}

module _ {S : Type 0} (book : Meaning S) (place : ℕ) where
  length_woken_from : (n r : ℕ) (ws : List ℕ) → length (woken_from book place n r ws) ≡ length ws
  length_woken_from zero r ws = refl
  length_woken_from (suc n) r [] = refl
  length_woken_from (suc n) r (w ∷ ws) = ap suc (length_woken_from n (suc r) ws)

  inner : (n r : ℕ) (ws : List ℕ) (k : ℕ) → k < n → k < length ws → get_or (woken_from book place n r ws) k 0 ≡ cond (has place (book.rule (r + k)).scope) 1 (get_or ws k 0)
  inner zero r ws k h l = absurd (omega arith)
  inner (suc n) r [] k h l = absurd (omega arith)
  inner (suc n) r (w ∷ ws) zero h l = ap (λ (i : ℕ). cond (has place (book.rule i).scope) 1 w) (omega arith)
  inner (suc n) r (w ∷ ws) (suc k) h l = inner n (suc r) ws k (omega arith) (omega arith) ∙ ap (λ (i : ℕ). cond (has place (book.rule i).scope) 1 (get_or ws k 0)) (omega arith)

  outer : (n r : ℕ) (ws : List ℕ) (k : ℕ) → n ≤ k → get_or (woken_from book place n r ws) k 0 ≡ get_or ws k 0
  outer zero r ws k h = refl
  outer (suc n) r [] k h = refl
  outer (suc n) r (w ∷ ws) zero h = absurd (omega arith)
  outer (suc n) r (w ∷ ws) (suc k) h = outer n (suc r) ws k (omega arith)

  pub length_woken : (ws : List ℕ) → length (woken book place ws) ≡ length ws
  length_woken ws = length_woken_from book.rules 0 ws

  -- a rule's entry is 1 if the rule has the place, and else stays
  pub woken_rule : (ws : List ℕ) (r : ℕ) → r < book.rules → r < length ws → get_or (woken book place ws) r 0 ≡ cond (has place (book.rule r).scope) 1 (get_or ws r 0)
  woken_rule ws r h l = inner book.rules 0 ws r h l ∙ ap (λ (i : ℕ). cond (has place (book.rule i).scope) 1 (get_or ws r 0)) (omega arith)

  -- the rest of the list stays
  pub woken_rest : (ws : List ℕ) (k : ℕ) → book.rules ≤ k → get_or (woken book place ws) k 0 ≡ get_or ws k 0
  woken_rest ws k h = outer book.rules 0 ws k h

  -- the rules below i are seen to: their entries are those after waking, and the others stay
  pub record Seen (i : ℕ) (old new : List ℕ) : Type 0 where
    pub long : length new ≡ length old
    pub below : (k : ℕ) → k < i → get_or new k 0 ≡ cond (has place (book.rule k).scope) 1 (get_or old k 0)
    pub above : (k : ℕ) → i ≤ k → get_or new k 0 ≡ get_or old k 0

  pub seen_none : (ws : List ℕ) → Seen 0 ws ws
  seen_none ws = record { long = refl; below = λ k h. absurd (omega arith); above = λ k h. refl }

  pub seen_pass : (i : ℕ) (old new : List ℕ) → Seen i old new → has place (book.rule i).scope ≡ false → Seen (i + 1) old new
  seen_pass i old new s e = record {
    long = s.long;
    below = λ k h. below k (cases_eq k i) h;
    above = λ k h. s.above k (omega arith);
  }
    where
      below : (k : ℕ) → (k ≡ i) ⊎ (k ≡ i → ⊥) → k < i + 1 → get_or new k 0 ≡ cond (has place (book.rule k).scope) 1 (get_or old k 0)
      below k (inl z) h = s.above k (omega arith) ∙ sym (ap (λ (t : Bool). cond t 1 (get_or old k 0)) (ap (λ (j : ℕ). has place (book.rule j).scope) z ∙ e))
      below k (inr z) h = s.below k (omega arith)

  pub seen_wake : (i : ℕ) (old new : List ℕ) → Seen i old new → i < length old → has place (book.rule i).scope ≡ true → Seen (i + 1) old (set new i 1)
  seen_wake i old new s l e = record {
    long = length-set new i 1 ∙ s.long;
    below = λ k h. below k (cases_eq k i) h;
    above = λ k h. get_or-set_other new i k 1 0 (λ z. omega arith) ∙ s.above k (omega arith);
  }
    where
      below : (k : ℕ) → (k ≡ i) ⊎ (k ≡ i → ⊥) → k < i + 1 → get_or (set new i 1) k 0 ≡ cond (has place (book.rule k).scope) 1 (get_or old k 0)
      below k (inl z) h = ap (λ (j : ℕ). get_or (set new i 1) j 0) z ∙ get_or-set_same new i 1 0 (omega (arith, s.long)) ∙ sym (ap (λ (t : Bool). cond t 1 (get_or old k 0)) (ap (λ (j : ℕ). has place (book.rule j).scope) z ∙ e))
      below k (inr z) h = get_or-set_other new i k 1 0 z ∙ s.below k (omega arith)

  pub seen_all : (old new : List ℕ) → Seen book.rules old new → new ≡ woken book place old
  seen_all old new s = ext_get_or 0 new (woken book place old) (s.long ∙ sym (length_woken old)) (λ k h. each k h (cases_lt k book.rules))
    where
      each : (k : ℕ) → k < length new → (k < book.rules) ⊎ (book.rules ≤ k) → get_or new k 0 ≡ get_or (woken book place old) k 0
      each k h (inl l) = s.below k l ∙ sym (woken_rule old k l (omega (arith, s.long)))
      each k h (inr l) = s.above k l ∙ sym (woken_rest old k l)
