-- Books of rows keep the laws, and are settled where each row that counts is consistent. Assumes nothing.
use Rattle.std.proofs.Common.{◌≡◌, ℕ, zero, suc, ◌<◌, ◌≤◌, eqb, ◌⊎◌, List, [], ◌∷◌, map, length, get_or, take, sym, refl, ap, ◌∙◌, subst, inl, inr, arith, lit≤}
use Rattle.std.proofs.lemmas.List.{get_or-map}
use Rattle.std.proofs.lemmas.Bool.{eq-eqb, ne_eqb, eqb-true, cond-true, cond-false, cond_both, cases_eq}
use Rattle.spans.specs.Kind.{Kind}
use Rattle.books.specs.Boards.{Among, span_at, Full}
use Rattle.books.specs.Meaning.{Rule, Sound, Lawful, idle}
use Rattle.books.specs.Settled.{Settled}
use Rattle.books.proofs.Filters.{idle_sound}
use Rattle.rules.specs.BookCounts.{place_count, rule_count}
use Rattle.rules.specs.RowBooks.{rule_in, row_book_of, Counts, RowLaw, RowBookLaw}

-- what stands at an index stands among as many as reach past it
at_index : {R : Type 0} (rows : List R) (r : ℕ) → r < length rows → (row : R) × (get_or rows r row ≡ row) × ((n : ℕ) → r < n → Among row (take n rows))
at_index [] r h = absurd (omega arith)
at_index (x ∷ xs) zero h = (x, refl, here)
  where
    here : (n : ℕ) → 0 < n → Among x (take n (x ∷ xs))
    here zero l = absurd (omega arith)
    here (suc n) l = inl refl
at_index (x ∷ xs) (suc r) h = let i = at_index xs r (omega arith) in (i.0, i.1, later i.0 i.2)
  where
    later : (row : _) → ((n : ℕ) → r < n → Among row (take n xs)) → (n : ℕ) → suc r < n → Among row (take n (x ∷ xs))
    later row f zero l = absurd (omega arith)
    later row f (suc n) l = inr (f n (omega arith))

-- and what stands among them has an index
index_of : {R : Type 0} (rows : List R) (n : ℕ) (row : R) → Among row (take n rows) → (r : ℕ) × (r < n) × (r < length rows) × (get_or rows r row ≡ row)
index_of [] zero row m = absurd m
index_of [] (suc n) row m = absurd m
index_of (x ∷ xs) zero row m = absurd m
index_of (x ∷ xs) (suc n) row (inl e) = (0, omega arith, omega arith, sym e)
index_of (x ∷ xs) (suc n) row (inr m) = let i = index_of xs n row m in (suc i.0, omega (arith, i.1), omega (arith, i.2), i.3)

module _ {S R : Type 0} (kind : Kind S) (places_of : R → ℕ) (meant : R → Rule S) where
  -- the rule of a number in the book of rows
  abbrev pub rule_at : ℕ → List R → ℕ → Rule S
  rule_at n rows r = get_or (map (rule_in kind places_of meant n) rows) r (idle kind (0 ∷ []))

  -- is that of its row, where the row is for such boards
  module _ (n : ℕ) (rows : List R) (r : ℕ) (d : R) (h : r < length rows) where
    row_rule : rule_at n rows r ≡ rule_in kind places_of meant n (get_or rows r d)
    row_rule = get_or-map (rule_in kind places_of meant n) rows r d (idle kind (0 ∷ [])) h

    pub own_rule : places_of (get_or rows r d) ≡ n → rule_at n rows r ≡ meant (get_or rows r d)
    own_rule e = row_rule ∙ cond-true _ _ _ (eq-eqb (places_of (get_or rows r d)) n e)

    pub no_rule_lem : (places_of (get_or rows r d) ≡ n → ⊥) → rule_at n rows r ≡ idle kind (0 ∷ [])
    no_rule_lem e = row_rule ∙ cond-false _ _ _ (ne_eqb (places_of (get_or rows r d)) n e)

  -- ---- the laws

  module _ (sound : (row : R) → Sound kind (places_of row) (meant row)) where
    module _ (n : ℕ) (some : 1 ≤ n) where
      nothing_sound : Sound kind n (idle kind (0 ∷ []))
      nothing_sound = idle_sound kind n (0 ∷ []) (lit≤ tt) (lit≤ tt) counted (λ m. m, tt)
        where
          counted : (p : ℕ) → Among p (0 ∷ []) → p < n
          counted p (inl e) = omega arith
          counted p (inr m) = absurd m

      row_sound : (row : R) → Sound kind n (rule_in kind places_of meant n row)
      row_sound row = cond_both (eqb (places_of row) n) (meant row) (idle kind (0 ∷ [])) (Sound kind n)
          (λ e. subst (λ (k : ℕ). Sound kind k (meant row)) (eqb-true (places_of row) n e) (sound row)) (λ e. nothing_sound)

      each_sound : (rows : List R) (r : ℕ) → Sound kind n (rule_at n rows r)
      each_sound [] r = nothing_sound
      each_sound (row ∷ rows) zero = row_sound row
      each_sound (row ∷ rows) (suc r) = each_sound rows r

    pub book_lawful : (places : ℕ) (rows : List R) → Lawful kind (row_book_of kind places_of meant places rows)
    book_lawful places rows = record {
      some_place = omega arith;
      few_places = omega arith;
      few_rules = omega arith;
      each = λ r h. each_sound (place_count places) (omega arith) rows r;
    }

  -- ---- a whole book

  module _ (consistent : R → List S → Type 0) (law : RowLaw kind places_of meant consistent) where
    pub book_consistent : (places : ℕ) (rows : List R) → RowBookLaw kind places_of meant consistent places rows
    book_consistent places rows board f = (λ s row k. one s row k, λ g. record { full = f; calm = λ r p h l. calm g r p h l })
      where
        n : ℕ
        n = place_count places

        full : (row : R) → places_of row ≡ n → Full kind (places_of row) board
        full row e = subst (λ (k : ℕ). Full kind k board) (sym e) f

        one : Settled kind (row_book_of kind places_of meant places rows) board → (row : R) → Counts kind places_of meant places rows row → consistent row board
        one s row k =
            let i = index_of rows 1000 row k.0 in
            let own = own_rule n rows i.0 row i.2 (ap places_of i.3 ∙ k.1) ∙ ap meant i.3 in
            (law row board (full row k.1)).0 (λ p l. sym (ap (λ (r : Rule S). r.answer p board) own) ∙ s.calm i.0 p (omega (arith, i.1, i.2)) (subst (λ (m : ℕ). p < m) k.1 l))

        calm : ((row : R) → Counts kind places_of meant places rows row → consistent row board) → (r p : ℕ) → r < rule_count (length rows) → p < n → (rule_at n rows r).answer p board ≡ span_at kind board p
        calm g r p h l =
            let i = at_index rows r (omega arith) in
            go i.0 i.1 (i.2 1000 (omega arith)) (cases_eq (places_of i.0) n)
          where
            go : (row : R) → get_or rows r row ≡ row → Among row (take 1000 rows) → (places_of row ≡ n) ⊎ (places_of row ≡ n → ⊥) → (rule_at n rows r).answer p board ≡ span_at kind board p
            go row e m (inl z) =
                ap (λ (x : Rule S). x.answer p board) (own_rule n rows r row (omega arith) (ap places_of e ∙ z) ∙ ap meant e)
                ∙ (law row board (full row z)).1 (g row (m, z)) p (subst (λ (k : ℕ). p < k) (sym z) l)
            go row e m (inr z) = ap (λ (x : Rule S). x.answer p board) (no_rule_lem n rows r row (omega arith) (λ q. z (ap places_of (sym e) ∙ q)))
