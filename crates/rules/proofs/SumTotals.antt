-- Totals of terms, and the least and the greatest products. Assumes nothing.
use Rattle.std.proofs.Common.{◌≡◌, ℕ, zero, suc, ◌<◌, Bool, true, false, cond, T, List, [], ◌∷◌, map, length, get_or, ℤ, pos, ◌+ℤ◌, ◌*ℤ◌, ◌≤ℤ◌, sym, refl, ap, subst, ap₂, inl, inr, arith}
use lib.Signed.{lt_z}
use Rattle.std.proofs.lemmas.Int.{ints}
use Rattle.spans.specs.Kind.{Within}
use Rattle.spans.specs.Amounts.{amount_admits, amount_size}
use Rattle.spans.specs.AmountLaws.{admits_is, is_admitted}
use Rattle.spans.specs.AmountKind.{amounts}
use Rattle.spans.specs.declared.amount.Amount.{Amount}
use Rattle.spans.proofs.Sizes.{some_least}
use Rattle.books.specs.Boards.{Among}
use Rattle.rules.specs.SumTerms.{place_of}
use Rattle.rules.specs.SumRows.{blank}
use Rattle.rules.specs.Sums.{total, others, least_product_of, greatest_product_of}
use Rattle.rules.specs.declared.sums.term.Term.{Term}
use Rattle.rules.proofs.SumProducts.{times_up, times_down}

-- ---- totals

pub total_mono : (f g : Term → ℤ) (ts : List Term) → ((t : Term) → Among t ts → f t ≤ℤ g t) → total f ts ≤ℤ total g ts
unfolding total
total_mono f g [] e = omega (arith, ints)
total_mono f g (t ∷ ts) e = add (f t) (total f ts) (g t) (total g ts) (e t (inl refl)) (total_mono f g ts (λ u m. e u (inr m)))
  where
    add : (a b c d : ℤ) → a ≤ℤ c → b ≤ℤ d → (a +ℤ b) ≤ℤ (c +ℤ d)
    add a b c d p q = omega (arith, ints)

pub total_same : (f g : Term → ℤ) (ts : List Term) → ((t : Term) → Among t ts → f t ≡ g t) → total f ts ≡ total g ts
unfolding total
total_same f g [] e = refl
total_same f g (t ∷ ts) e = ap₂ ◌+ℤ◌ (e t (inl refl)) (total_same f g ts (λ u m. e u (inr m)))

-- one term, and the others
pub total_split : (f : Term → ℤ) (i : ℕ) (ts : List Term) → i < length ts → total f ts ≡ f (get_or ts i blank) +ℤ total f (others i ts)
unfolding total
total_split f i [] h = absurd (omega arith)
total_split f zero (t ∷ ts) h = refl
total_split f (suc i) (t ∷ ts) h = swap (f t) (total f ts) (f (get_or ts i blank)) (total f (others i ts)) (total_split f i ts (omega arith))
  where
    swap : (a b c d : ℤ) → b ≡ c +ℤ d → a +ℤ b ≡ c +ℤ (a +ℤ d)
    swap a b c d e = omega (arith, ints)

pub other_among : (i : ℕ) (ts : List Term) (t : Term) → Among t (others i ts) → Among t ts
other_among i [] t m = absurd m
other_among zero (u ∷ ts) t m = inr m
other_among (suc i) (u ∷ ts) t (inl e) = inl e
other_among (suc i) (u ∷ ts) t (inr m) = inr (other_among i ts t m)

pub at_among : (i : ℕ) (ts : List Term) → i < length ts → Among (get_or ts i blank) ts
at_among i [] h = absurd (omega arith)
at_among zero (t ∷ ts) h = inl refl
at_among (suc i) (t ∷ ts) h = inr (at_among i ts (omega arith))

pub place_among : (ts : List Term) (t : Term) → Among t ts → Among t.place (map place_of ts)
place_among [] t m = absurd m
place_among (u ∷ ts) t (inl e) = inl (ap place_of e)
place_among (u ∷ ts) t (inr m) = inr (place_among ts t m)

-- ---- products

-- a span that is not empty admits its floor and its ceiling
pub ends_admitted : (s : Amount) → 0 < amount_size s → T (amount_admits s s.floor) × T (amount_admits s s.ceiling)
ends_admitted s h =
    let f = some_least amounts s h in
    let o = admits_is s s.floor f in
    (f, is_admitted s s.ceiling o.1 (omega (arith, ints)))

-- no product is less than the least, and the least is reached
pub least_under : (a : ℤ) (s : Amount) (x : ℤ) → T (amount_admits s x) → least_product_of a s ≤ℤ (a *ℤ x)
unfolding least_product_of
least_under a s x t = go (lt_z (pos 0) a) refl
  where
    go : (e : Bool) → lt_z (pos 0) a ≡ e → cond e (a *ℤ s.floor) (a *ℤ s.ceiling) ≤ℤ (a *ℤ x)
    go true e = times_up a s.floor x e (admits_is s x t).0
    go false e = times_down a x s.ceiling e (admits_is s x t).1

pub least_reached : (a : ℤ) (s : Amount) → 0 < amount_size s → (x : ℤ) × T (amount_admits s x) × (least_product_of a s ≡ a *ℤ x)
unfolding least_product_of
least_reached a s h = go (lt_z (pos 0) a)
  where
    go : (e : Bool) → (x : ℤ) × T (amount_admits s x) × (cond e (a *ℤ s.floor) (a *ℤ s.ceiling) ≡ a *ℤ x)
    go true = (s.floor, (ends_admitted s h).0, refl)
    go false = (s.ceiling, (ends_admitted s h).1, refl)

pub greatest_over : (a : ℤ) (s : Amount) (x : ℤ) → T (amount_admits s x) → (a *ℤ x) ≤ℤ greatest_product_of a s
unfolding greatest_product_of
greatest_over a s x t = go (lt_z (pos 0) a) refl
  where
    go : (e : Bool) → lt_z (pos 0) a ≡ e → (a *ℤ x) ≤ℤ cond e (a *ℤ s.ceiling) (a *ℤ s.floor)
    go true e = times_up a x s.ceiling e (admits_is s x t).1
    go false e = times_down a s.floor x e (admits_is s x t).0

pub greatest_reached : (a : ℤ) (s : Amount) → 0 < amount_size s → (x : ℤ) × T (amount_admits s x) × (greatest_product_of a s ≡ a *ℤ x)
unfolding greatest_product_of
greatest_reached a s h = go (lt_z (pos 0) a)
  where
    go : (e : Bool) → (x : ℤ) × T (amount_admits s x) × (cond e (a *ℤ s.ceiling) (a *ℤ s.floor) ≡ a *ℤ x)
    go true = (s.ceiling, (ends_admitted s h).1, refl)
    go false = (s.floor, (ends_admitted s h).0, refl)

-- a wider span has lesser and greater products
pub least_wider : (a : ℤ) (s w : Amount) → 0 < amount_size s → Within amounts s w → least_product_of a w ≤ℤ least_product_of a s
least_wider a s w h i = let r = least_reached a s h in subst (λ (z : ℤ). least_product_of a w ≤ℤ z) (sym r.2) (least_under a w r.0 (i r.0 r.1))

pub greatest_wider : (a : ℤ) (s w : Amount) → 0 < amount_size s → Within amounts s w → greatest_product_of a s ≤ℤ greatest_product_of a w
greatest_wider a s w h i = let r = greatest_reached a s h in subst (λ (z : ℤ). z ≤ℤ greatest_product_of a w) (sym r.2) (greatest_over a w r.0 (i r.0 r.1))
