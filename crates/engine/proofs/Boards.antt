-- Spans and boards: what follows from the laws of a kind, and what a board with one changed place has. Assumes nothing.
use Rattle.std.proofs.Common.{◌≡◌, ℕ, zero, suc, ◌+◌, ◌<◌, ◌≤◌, Bool, true, false, T, eqb, ◌⊎◌, List, [], ◌∷◌, length, set, ℤ, sym, refl, ◌∙◌, subst, inl, inr, le_of_suc-le-suc, not-suc-le-zero, arith, length-set}
use Rattle.std.proofs.lemmas.List.{ext_get_or, get_or-set_same, get_or-set_other}
use Rattle.std.proofs.lemmas.Bool.{eqb-true, eqb-false, ne_eqb, cases_eq}
use Rattle.spans.specs.Kind.{Kind, Within}
use Rattle.spans.specs.Bools.{both, join, alike}
use Rattle.spans.proofs.Sizes.{size_some, some_least, size_within, size_level}
use Rattle.books.specs.Boards.{span_at, number_at, Full, Inside, On}
use Rattle.books.specs.Sweeps.{total}

-- a test that holds, and one that does not
pub T_of : {b : Bool} → b ≡ true → T b
T_of e = subst T (sym e) tt

pub is_true : (b : Bool) → T b → b ≡ true
is_true true t = refl
is_true false t = absurd t

pub not_T_of : {b : Bool} → b ≡ false → ¬ T b
not_T_of e t = subst T e t

module _ {S : Type 0} (kind : Kind S) where
  -- spans within each other are the same
  pub within_same : (a b : S) → Within kind a b → Within kind b a → a ≡ b
  within_same a b f g = kind.same a b (λ x. alike (kind.admits a x) (kind.admits b x) (f x) (g x))

  -- the test for an empty span
  pub empty_size : (a : S) → eqb (kind.size a) 0 ≡ true → kind.size a ≡ 0
  empty_size a e = eqb-true (kind.size a) 0 e

  pub some_size : (a : S) → eqb (kind.size a) 0 ≡ false → 0 < kind.size a
  some_size a e = let h = eqb-false (kind.size a) 0 e in omega arith

  pub not_empty : (a : S) → 0 < kind.size a → eqb (kind.size a) 0 ≡ false
  not_empty a h = ne_eqb (kind.size a) 0 (λ e. omega arith)

  -- a span of size 0 admits nothing
  pub zero_none : (a : S) (x : ℤ) → kind.size a ≡ 0 → ¬ T (kind.admits a x)
  zero_none a x e t = omega (arith, size_some kind a x t)

  -- a span within another that is no smaller is the other
  pub as_many : (a b : S) → Within kind a b → kind.size b ≤ kind.size a → a ≡ b
  as_many a b w h = size_level kind a b w (omega (arith, size_within kind a b w))

  -- what has a span with a number within it has a number
  pub within_some : (a b : S) → Within kind a b → 0 < kind.size a → 0 < kind.size b
  within_some a b w h = size_some kind b (kind.least a) (w (kind.least a) (some_least kind a h))

  pub meet_left : (a b : S) → Within kind (kind.meet a b) a
  meet_left a b x t = (both (kind.admits a x) (kind.admits b x) (rw (kind.meet_admits a b x) at t)).0

  pub meet_right : (a b : S) → Within kind (kind.meet a b) b
  meet_right a b x t = (both (kind.admits a x) (kind.admits b x) (rw (kind.meet_admits a b x) at t)).1

  pub meet_both : (a b : S) (x : ℤ) → T (kind.admits a x) → T (kind.admits b x) → T (kind.admits (kind.meet a b) x)
  meet_both a b x s t = rw (kind.meet_admits a b x) (join (kind.admits a x) (kind.admits b x) s t)

  pub inside_trans : (n : ℕ) (a b c : List S) → Inside kind n a b → Inside kind n b c → Inside kind n a c
  inside_trans n a b c f g p h x t = g p h x (f p h x t)

  -- boards inside each other are the same
  pub inside_same : (n : ℕ) (a b : List S) → length a ≡ n → length b ≡ n → Inside kind n a b → Inside kind n b a → a ≡ b
  inside_same n a b la lb f g =
      ext_get_or kind.none a b (la ∙ sym lb) (λ p h. within_same (span_at kind a p) (span_at kind b p) (f p (rw la at h)) (g p (rw la at h)))

  -- a board with its place p changed to the span a: its span at q
  pub set_at : (b : List S) (p q : ℕ) (a : S) → p < length b → ((q ≡ p) × (span_at kind (set b p a) q ≡ a)) ⊎ (span_at kind (set b p a) q ≡ span_at kind b q)
  set_at b p q a h = go (cases_eq q p)
    where
      go : (q ≡ p) ⊎ (q ≡ p → ⊥) → ((q ≡ p) × (span_at kind (set b p a) q ≡ a)) ⊎ (span_at kind (set b p a) q ≡ span_at kind b q)
      go (inl e) = inl (e, rw e (get_or-set_same b p a kind.none h))
      go (inr e) = inr (get_or-set_other b p q a kind.none e)

  pub inside_set : (n : ℕ) (b : List S) (p : ℕ) (a : S) → p < length b → Within kind a (span_at kind b p) → Inside kind n (set b p a) b
  inside_set n b p a h w q _ = elim (set_at b p q a h) [ inl e ↦ rw (e.1, e.0) w | inr e ↦ rw e (λ x t. t) ]

  pub into_set : (n : ℕ) (s b : List S) (p : ℕ) (a : S) → p < length b → Inside kind n s b → Within kind (span_at kind s p) a → Inside kind n s (set b p a)
  into_set n s b p a h f w q l = elim (set_at b p q a h) [ inl e ↦ rw (e.1, e.0) w | inr e ↦ rw e (f q l) ]

  pub on_set : (n : ℕ) (x : List ℤ) (b : List S) (p : ℕ) (a : S) → p < length b → On kind n x b → T (kind.admits a (number_at x p)) → On kind n x (set b p a)
  on_set n x b p a h o t = record {
    long = o.long;
    admitted = λ q l. elim (set_at b p q a h) [ inl e ↦ rw (e.1, e.0) t | inr e ↦ rw e (o.admitted q l) ];
  }

  pub full_set : (n : ℕ) (b : List S) (p : ℕ) (a : S) → p < n → Full kind n b → 0 < kind.size a → Full kind n (set b p a)
  full_set n b p a h f t = record {
    long = length-set b p a ∙ f.long;
    some = λ q l. elim (set_at b p q a (rw f.long h)) [ inl e ↦ rw e.1 t | inr e ↦ rw e (f.some q l) ];
  }

  pub total_set : (b : List S) (p : ℕ) (a : S) → p < length b → total kind (set b p a) + kind.size (span_at kind b p) ≡ total kind b + kind.size a
  unfolding total
  total_set [] p a h = absurd (not-suc-le-zero h)
  total_set (c ∷ b) zero a h = omega arith
  total_set (c ∷ b) (suc p) a h =
      let ih : total kind (set b p a) + kind.size (span_at kind b p) ≡ total kind b + kind.size a = total_set b p a (le_of_suc-le-suc h) in omega arith
