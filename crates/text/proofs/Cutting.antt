-- Laws of cutting bytes at a byte.
use Rattle.std.proofs.Common.{◌≡◌, ℕ, ◌+◌, ◌<◌, ◌≤◌, Bool, true, false, cond, not, eqb, List, [], ◌∷◌, length, take, drop, unwrap_or, sym, refl, ap, ◌∙◌, subst, arith}
use Rattle.std.proofs.lemmas.Bool.Decides.{nat_tests}
use Rattle.std.proofs.lemmas.Bool.{cond-true, cond-false, eq-eqb, ne_eqb, eqb-false}
use Rattle.std.proofs.lemmas.List.Elements.{All-from_get_or}
use Rattle.std.proofs.lemmas.List.Folds.{length-prefix_len}
use Rattle.std.proofs.lemmas.List.Splits.{slice_split_first, slice_split_none, length-slice_split, join_with_byte-slice_split}
use Rattle.std.proofs.lemmas.List.Sums.{fails_before_first, prefix_len-le-length}
use Rattle.std.specs.List.{AllByRecursion, onto_first, position, position_or_len, count_by}
use Rattle.text.specs.Parts.{before, cut_at, joined_by, Lacks, Parted, PartsLaw}

-- where the first part ends
pub length_before : (mark : ℕ) (bs : List ℕ) → length (before mark bs) ≡ position_or_len (λ b. eqb b mark) bs
length_before mark bs = length-prefix_len _ bs

pub before_le : (mark : ℕ) (bs : List ℕ) → length (before mark bs) ≤ length bs
before_le mark bs = omega (arith, length_before mark bs, prefix_len-le-length (λ b. not (eqb b mark)) bs)

-- the same as the place of the first mark, or all bytes where there is none
pub position_before : (mark : ℕ) (bs : List ℕ) → unwrap_or (position (λ b. eqb b mark) bs) (length bs) ≡ length (before mark bs)
position_before mark bs =
    let e = length_before mark bs in
    let h = before_le mark bs in
    grind (arith, nat_tests)

-- a cut has a first part
pub cut_some : (mark : ℕ) (bs : List ℕ) → (p : List ℕ) × (ps : List (List ℕ)) × (cut_at mark bs ≡ p ∷ ps)
cut_some mark bs = go (cut_at mark bs) (length-slice_split (λ b. eqb b mark) bs)
  where
    go : (parts : List (List ℕ)) → length parts ≡ count_by (λ b. eqb b mark) bs + 1 → (p : List ℕ) × (ps : List (List ℕ)) × (parts ≡ p ∷ ps)
    go [] e = absurd (omega arith)
    go (p ∷ ps) e = (p, ps, refl)

-- a cut at n, where the first mark stands, or the end where there is none
module _ (mark : ℕ) (bs : List ℕ) (n : ℕ) (is : n ≡ length (before mark bs)) where
  place : position_or_len (λ b. eqb b mark) bs ≡ n
  place = sym (is ∙ length_before mark bs)

  -- the first part is what stands before the first mark
  pub cut_found : n < length bs → cut_at mark bs ≡ take n bs ∷ cut_at mark (drop (n + 1) bs)
  cut_found h = slice_split_first (λ b. eqb b mark) bs 0 (omega (arith, place)) ∙ ap (λ (m : ℕ). take m bs ∷ cut_at mark (drop (m + 1) bs)) place

  -- bytes without a mark are one part
  pub cut_whole : length bs ≤ n → cut_at mark bs ≡ bs ∷ []
  cut_whole h =
      let p : ℕ → Bool = λ b. eqb b mark in
      slice_split_none p bs (All-from_get_or (λ b. p b ≡ false) bs 0 (λ i k. fails_before_first p bs i 0 (omega (arith, place))))

-- the parts joined again are the bytes
pub cut_joined : (mark : ℕ) (bs : List ℕ) → joined_by mark (cut_at mark bs) ≡ bs
cut_joined mark bs = join_with_byte-slice_split mark bs

-- no part holds a mark
grown_lacks : (mark b : ℕ) (ps : List (List ℕ)) → (b ≡ mark → ⊥) → AllByRecursion (Lacks mark) ps → AllByRecursion (Lacks mark) (onto_first b ps)
grown_lacks mark b [] ne h = ((ne, tt), tt)
grown_lacks mark b (p ∷ ps) ne h = ((ne, h.0), h.1)

pub cut_lacks : (mark : ℕ) (bs : List ℕ) → AllByRecursion (Lacks mark) (cut_at mark bs)
cut_lacks mark [] = (tt, tt)
cut_lacks mark (b ∷ bs) = go (eqb b mark) refl (cut_lacks mark bs)
  where
    go : (t : Bool) → eqb b mark ≡ t → AllByRecursion (Lacks mark) (cut_at mark bs) → AllByRecursion (Lacks mark) (cond t ([] ∷ cut_at mark bs) (onto_first b (cut_at mark bs)))
    go true e h = (tt, h)
    go false e h = grown_lacks mark b (cut_at mark bs) (eqb-false b mark e) h

-- parts that lack the mark are the cut of their join
pub joined_cut : (mark : ℕ) (p : List ℕ) (ps : List (List ℕ)) → Lacks mark p → AllByRecursion (Lacks mark) ps → cut_at mark (joined_by mark (p ∷ ps)) ≡ p ∷ ps
joined_cut mark [] [] l ls = refl
joined_cut mark [] (q ∷ qs) l ls = cond-true _ _ _ (eq-eqb mark mark refl) ∙ ap (λ (xs : List (List ℕ)). [] ∷ xs) (joined_cut mark q qs ls.0 ls.1)
joined_cut mark (b ∷ p) [] l ls = cond-false _ _ _ (ne_eqb b mark l.0) ∙ ap (onto_first b) (joined_cut mark p [] l.1 tt)
joined_cut mark (b ∷ p) (q ∷ qs) l ls = cond-false _ _ _ (ne_eqb b mark l.0) ∙ ap (onto_first b) (joined_cut mark p (q ∷ qs) l.1 ls)

pub parts_law : (mark : ℕ) (bytes : List ℕ) → PartsLaw mark bytes
parts_law mark bytes parts = (to, from)
  where
    to : Parted mark bytes parts → parts ≡ cut_at mark bytes
    to h = go parts h.some h.lack ∙ ap (cut_at mark) h.join
      where
        go : (qs : List (List ℕ)) → (qs ≡ [] → ⊥) → AllByRecursion (Lacks mark) qs → qs ≡ cut_at mark (joined_by mark qs)
        go [] s l = absurd (s refl)
        go (q ∷ qs) s l = sym (joined_cut mark q qs l.0 l.1)

    from : parts ≡ cut_at mark bytes → Parted mark bytes parts
    from e = let s = cut_some mark bytes in record {
      some = λ n. cc;
      lack = subst (AllByRecursion (Lacks mark)) (sym e) (cut_lacks mark bytes);
      join = ap (joined_by mark) e ∙ cut_joined mark bytes;
    }
