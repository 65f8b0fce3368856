-- The list that finish writes, entry by entry. Assumes nothing.
use Rattle.std.proofs.Common.{◌≡◌, ℕ, ◌-◌, ◌<◌, ◌≤◌, min, true, false, cond, eqb, ◌⊎◌, List, ◌++◌, length, get_or, take, drop, ℤ, pos, Some, None, Option, Bor, sym, refl, ap, ◌∙◌, inl, inr, arith, length-append, length-drop}
use Rattle.std.specs.Option.{option_map, unwrap_or, MatchOption}
use Rattle.std.proofs.lemmas.List.{ext_get_or, get_or_append_left, get_or-append_right, get_or-drop, length-take-le}
use Rattle.std.proofs.lemmas.Bool.{cases_lt, eq-eqb}
use Rattle.spans.specs.Kind.{Kind, least_of}
use Rattle.spans.proofs.Sizes.{empty_zero}
use Rattle.books.specs.Boards.{span_at}
use Rattle.engine.specs.Calls.{lowest, written}
use Rattle.engine.proofs.Finishing.{written_length, written_at, written_rest}

module _ {S : Type 0} (kind : Kind S) (board : List S) where
  -- the entries below i are written
  pub record Below (i : ℕ) (old new : List ℤ) : Type 0 where
    pub long : length new ≡ length old
    pub done : (k : ℕ) → k < i → get_or new k (pos 0) ≡ lowest kind (span_at kind board k)

  -- a front of the list with every entry written, as far as there are places, and the rest as it was
  pub written_front : (places n i : ℕ) (list front : List ℤ) → n ≡ min places (length list) → n ≤ i → Below i (take n list) front → front ++ drop n list ≡ written kind places board list
  written_front places n i list front e all b = ext_get_or (pos 0) (front ++ drop n list) (written kind places board list) (same_length ∙ sym (written_length kind places board list)) (λ k l. each k l (cases_lt k n))
    where
      long : length front ≡ n
      long = b.long ∙ length-take-le n list (omega arith)

      same_length : length (front ++ drop n list) ≡ length list
      same_length = rw (length-append front (drop n list), length-drop n list) (omega (arith, long))

      each : (k : ℕ) → k < length (front ++ drop n list) → (k < n) ⊎ (n ≤ k) → get_or (front ++ drop n list) k (pos 0) ≡ get_or (written kind places board list) k (pos 0)
      each k l (inl h) = get_or_append_left front (drop n list) (pos 0) k (omega (arith, long)) ∙ b.done k (omega arith) ∙ sym (written_at kind places board list k (omega arith) (omega arith))
      each k l (inr h) =
          get_or-append_right front (drop n list) n k (pos 0) long h ∙ get_or-drop n list (k - n) (pos 0) ∙ ap (λ (j : ℕ). get_or list j (pos 0)) (omega arith)
          ∙ sym (written_rest kind places board list k (omega (arith, same_length)))

  -- the least number of the span at a place, if the board has the place and the span a number
  pub least_found : (place : ℕ) (found : Option (Bor S)) (r : Option ℤ) → unwrap_or (option_map (λ x. x.now) found) kind.none ≡ span_at kind board place
      → MatchOption found (r ≡ None) (λ x. r ≡ least_of kind x.now) → unwrap_or r (pos 0) ≡ lowest kind (span_at kind board place)
  unfolding lowest
  least_found place found r e m = go found e m ∙ ap (λ (s : S). cond (eqb (kind.size s) 0) (pos 0) (kind.least s)) e
    where
      least : (s : S) → unwrap_or (least_of kind s) (pos 0) ≡ cond (eqb (kind.size s) 0) (pos 0) (kind.least s)
      least s = elim (eqb (kind.size s) 0) as (λ b. unwrap_or (cond b None (Some (kind.least s))) (pos 0) ≡ cond b (pos 0) (kind.least s)) [ true ↦ refl | false ↦ refl ]

      go : (o : Option (Bor S)) → unwrap_or (option_map (λ x. x.now) o) kind.none ≡ span_at kind board place → MatchOption o (r ≡ None) (λ x. r ≡ least_of kind x.now)
          → unwrap_or r (pos 0) ≡ cond (eqb (kind.size (unwrap_or (option_map (λ x. x.now) o) kind.none)) 0) (pos 0) (kind.least (unwrap_or (option_map (λ x. x.now) o) kind.none))
      go None e m = rw (m, eq-eqb (kind.size kind.none) 0 (empty_zero kind kind.none kind.none_admits))
      go (Some x) e m = rw m (least x.now)
