-- In pair rules and apart rules a token may stay exactly if it has a partner. Assumes nothing.
use Rattle.std.proofs.Common.{◌≡◌, ℕ, ◌<◌, ◌≤◌, Bool, true, false, not, ◌||◌, T, eqb, ◌⊎◌, List, [], ◌∷◌, ℤ, pos, negsuc, sym, ap, ◌∙◌, subst, inl, inr, ⊎_elim, arith, eqb→eq}
use borrow.Author.Differences.{ints}
use lib.Count.{count_trailing_zeros}
use lib.Dec.{eqb_refl}
use Rattle.std.proofs.lemmas.Bool.{eq-eqb, cases_lt, cases_eq}
use Rattle.spans.specs.Bools.{both, join, either, first}
use Rattle.spans.specs.Masks.{tokens}
use Rattle.spans.specs.Choices.{choice_admits, choice_size, choice_least}
use Rattle.spans.specs.ChoiceKind.{choices}
use Rattle.spans.specs.declared.choice.Choice.{Choice}
use Rattle.spans.proofs.Sizes.{some_least, zero_empty, single_one}
use Rattle.books.proofs.Filters.{one_number}
use Rattle.rules.specs.declared.choices.side.Side.{Side}
use Rattle.rules.specs.declared.choices.side.Side.TheVariants.{First, Second}
use Rattle.rules.specs.declared.choices.token.TokenPair.{TokenPair}
use Rattle.rules.specs.declared.choices.pair.PairRow.{PairRow}
use Rattle.rules.specs.declared.choices.apart.ApartRow.{ApartRow}
use Rattle.rules.specs.declared.choices.row.ChoiceRow.{ChoiceRow}
use Rattle.rules.specs.declared.choices.row.ChoiceRow.TheVariants.{Pair, Apart}
use Rattle.rules.specs.Sides.{across}
use Rattle.rules.specs.TokenSets.{keeping}
use Rattle.rules.specs.ChoiceRows.{pairs_of}
use Rattle.rules.specs.ChoiceRules.{same_number, some_pair, is_pair, token_on, joins, pair_link, admits_only, apart_link, link_of}
use Rattle.rules.proofs.Keeping.{keeping_admits}
use Rattle.rules.proofs.Links.{Partnered, agree_on}

same_is : (x y : ℤ) → T (same_number x y) → x ≡ y
same_is (pos m) (pos n) t = ap pos (eqb→eq m n t)
same_is (pos m) (negsuc n) t = absurd t
same_is (negsuc m) (pos n) t = absurd t
same_is (negsuc m) (negsuc n) t = ap negsuc (eqb→eq m n t)

is_same : (x : ℤ) → T (same_number x x)
is_same (pos n) = eqb_refl n
is_same (negsuc n) = eqb_refl n

-- a pair that passes is found, and any other test that it passes is passed by some pair
some_found : (test : TokenPair → Bool) (pairs : List TokenPair) → T (some_pair test pairs) → (pair : TokenPair) × T (test pair) × ((other : TokenPair → Bool) → T (other pair) → T (some_pair other pairs))
some_found test [] h = absurd h
some_found test (pair ∷ pairs) h = go (either (test pair) (some_pair test pairs) h) (some_found test pairs)
  where
    later : (a b : Bool) → T b → T (a || b)
    later true b t = tt
    later false b t = t

    go : T (test pair) ⊎ T (some_pair test pairs) → (T (some_pair test pairs) → (pair : TokenPair) × T (test pair) × ((other : TokenPair → Bool) → T (other pair) → T (some_pair other pairs)))
        → (q : TokenPair) × T (test q) × ((other : TokenPair → Bool) → T (other q) → T (some_pair other (pair ∷ pairs)))
    go (inl t) f = (pair, t, λ other u. first (other pair) (some_pair other pairs) u)
    go (inr t) f = let r = f t in (r.0, r.1, λ other u. later (other pair) (some_pair other pairs) (r.2 other u))

pub pair_partnered : (row : PairRow) → Partnered (pair_link row)
pair_partnered row = record { partner = partner; stay = stay }
  where
    partner : (side : Side) (other : Choice) (t : ℕ) → 0 < choice_size other → T (some_pair (joins side other t) (pairs_of row)) → (y : ℤ) × T (choice_admits other y) × T (agree_on (pair_link row) side (pos t) y)
    partner side other t h s =
        let r = some_found (joins side other t) (pairs_of row) s in
        let q = both (eqb t (token_on r.0 side)) (choice_admits other (pos (token_on r.0 (across side)))) r.1 in
        (pos (token_on r.0 (across side)), q.1, listed side r.0 q.0 r.2)
      where
        listed : (side : Side) (pair : TokenPair) → T (eqb t (token_on pair side)) → ((test : TokenPair → Bool) → T (test pair) → T (some_pair test (pairs_of row))) → T (agree_on (pair_link row) side (pos t) (pos (token_on pair (across side))))
        listed First pair e f = f (is_pair (pos t) (pos pair.second)) (join (eqb t pair.first) (eqb pair.second pair.second) e (eqb_refl pair.second))
        listed Second pair e f = f (is_pair (pos pair.first) (pos t)) (join (eqb pair.first pair.first) (eqb t pair.second) (eqb_refl pair.first) e)

    stay : (side : Side) (other : Choice) (t : ℕ) (y : ℤ) → T (choice_admits other y) → T (agree_on (pair_link row) side (pos t) y) → T (some_pair (joins side other t) (pairs_of row))
    stay First other t y a s =
        let r = some_found (is_pair (pos t) y) (pairs_of row) s in
        let q = both (eqb t r.0.first) (same_number y (pos r.0.second)) r.1 in
        r.2 (joins First other t) (join (eqb t r.0.first) (choice_admits other (pos r.0.second)) q.0 (subst (λ (x : ℤ). T (choice_admits other x)) (same_is y (pos r.0.second) q.1) a))
    stay Second other t y a s =
        let r = some_found (is_pair y (pos t)) (pairs_of row) s in
        let q = both (same_number y (pos r.0.first)) (eqb t r.0.second) r.1 in
        r.2 (joins Second other t) (join (eqb t r.0.second) (choice_admits other (pos r.0.first)) q.1 (subst (λ (x : ℤ). T (choice_admits other x)) (same_is y (pos r.0.first) q.0) a))

-- ---- apart

not_in : (a : Bool) → (T a → ⊥) → T (not a)
not_in true f = f tt
not_in false f = tt

not_out : (a : Bool) → T (not a) → T a → ⊥
not_out true t u = t
not_out false t u = u

-- a span that does not admit the token alone admits another
another : (other : Choice) (t : ℕ) → 0 < choice_size other → (T (admits_only other t) → ⊥) → (y : ℤ) × T (choice_admits other y) × (y ≡ pos t → ⊥)
another other t h n = go (cases_lt 0 (choice_size rest))
  where
    rest : Choice
    rest = keeping other (λ u. not (eqb u t))

    go : (0 < choice_size rest) ⊎ (choice_size rest ≤ 0) → (y : ℤ) × T (choice_admits other y) × (y ≡ pos t → ⊥)
    go (inl s) =
        let q = both (choice_admits other (choice_least rest)) _ (subst T (keeping_admits other (λ u. not (eqb u t)) _) (some_least choices rest s)) in
        (choice_least rest, q.0, λ e. let same : count_trailing_zeros tokens rest.mask ≡ t = omega (arith, ints, e) in not_out _ q.1 (subst T (sym (eq-eqb (count_trailing_zeros tokens rest.mask) t same)) tt))
    go (inr s) = absurd (n (join (eqb (choice_size other) 1) (choice_admits other (pos t)) (subst T (sym (eq-eqb (choice_size other) 1 one)) tt) here))
      where
        only : (x : ℤ) → T (choice_admits other x) → x ≡ pos t
        only (negsuc m) a = absurd a
        only (pos u) a = ⊎_elim
            (λ e. ap pos e)
            (λ e. absurd (subst T (sym (keeping_admits other (λ v. not (eqb v t)) u) ∙ zero_empty choices rest (omega arith) (pos u)) (join (choice_admits other (pos u)) (not (eqb u t)) a (not_in (eqb u t) (λ z. e (eqb→eq u t z))))))
            (cases_eq u t)

        here : T (choice_admits other (pos t))
        here = let a = some_least choices other h in subst (λ (x : ℤ). T (choice_admits other x)) (only (choice_least other) a) a

        one : choice_size other ≡ 1
        one = single_one choices other (record { it = pos t; admitted = here; alone = only })

pub apart_partnered : (row : ApartRow) → Partnered (apart_link row)
apart_partnered row = record { partner = partner; stay = stay }
  where
    partner : (side : Side) (other : Choice) (t : ℕ) → 0 < choice_size other → T (not (admits_only other t)) → (y : ℤ) × T (choice_admits other y) × T (agree_on (apart_link row) side (pos t) y)
    partner side other t h s = let r = another other t h (not_out (admits_only other t) s) in (r.0, r.1, differ side r.0 r.2)
      where
        differ : (side : Side) (y : ℤ) → (y ≡ pos t → ⊥) → T (agree_on (apart_link row) side (pos t) y)
        differ First y n = not_in (same_number (pos t) y) (λ e. n (sym (same_is (pos t) y e)))
        differ Second y n = not_in (same_number y (pos t)) (λ e. n (same_is y (pos t) e))

    stay : (side : Side) (other : Choice) (t : ℕ) (y : ℤ) → T (choice_admits other y) → T (agree_on (apart_link row) side (pos t) y) → T (not (admits_only other t))
    stay side other t y a s = not_in (admits_only other t) (λ u.
        let q = both (eqb (choice_size other) 1) (choice_admits other (pos t)) u in
        differ side (one_number choices other y (pos t) (eqb→eq (choice_size other) 1 q.0) a q.1) s)
      where
        differ : (side : Side) → y ≡ pos t → T (agree_on (apart_link row) side (pos t) y) → ⊥
        differ First e u = not_out (same_number (pos t) y) u (subst (λ (x : ℤ). T (same_number (pos t) x)) (sym e) (is_same (pos t)))
        differ Second e u = not_out (same_number y (pos t)) u (subst (λ (x : ℤ). T (same_number x (pos t))) (sym e) (is_same (pos t)))

-- in the rule of any row
pub row_partnered : (row : ChoiceRow) → Partnered (link_of row)
row_partnered (Pair row) = pair_partnered row
row_partnered (Apart row) = apart_partnered row
