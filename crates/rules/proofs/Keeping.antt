-- What a choice admits that keeps the tokens of another by a test. Assumes nothing.
use Rattle.std.proofs.Common.{◌≡◌, ℕ, zero, suc, ◌^◌, Bool, true, false, cond, not, ◌&&◌, ◌||◌, T, eqb, ltb, ℤ, pos, negsuc, sym, refl, ap, ◌∙◌, subst, ap₂, ⊎_elim, arith, eqb→eq}
use borrow.Author.Differences.{ints}
use Rattle.std.proofs.lemmas.Bool.{lt-ltb, le-ltb, eq-eqb, ne_eqb, and_left, cases_lt, cases_eq}
use Rattle.spans.specs.Bools.{both, join, alike}
use Rattle.spans.specs.Masks.{tokens, bit}
use Rattle.spans.specs.MaskLaws.{bit_above}
use Rattle.spans.specs.Choices.{choice_admits, choice_size, choice_least, choice_meet, Exactly}
use Rattle.spans.specs.ChoiceKind.{choices}
use Rattle.spans.specs.ChoiceLaws.{mask_below, choice_meet_admits}
use Rattle.spans.proofs.Masking.{bit_none, bit_moved, bit_or_lem}
use Rattle.spans.proofs.Sizes.{some_least}
use Rattle.books.proofs.Filters.{one_number}
use Rattle.spans.specs.declared.choice.Choice.{Choice}
use Rattle.rules.specs.TokenMasks.{mask_of}
use Rattle.rules.specs.TokenSets.{keeping}
use Rattle.rules.specs.ChoiceRules.{admits_only}

one_bit : (b : Bool) (n t : ℕ) → bit (cond b (2 ^ n) 0) t ≡ (b && eqb t n)
one_bit true n t = bit_moved n t
one_bit false n t = bit_none t

-- the mask has the bits of the tokens that pass
mask_bit : (test : ℕ → Bool) (n t : ℕ) → bit (mask_of test n) t ≡ (ltb t n && test t)
unfolding mask_of
mask_bit test zero t = bit_none t ∙ sym (and_left (ltb t 0) (test t) (le-ltb t 0 (omega arith)))
mask_bit test (suc n) t =
    bit_or_lem (mask_of test n) (cond (test n) (2 ^ n) 0) t ∙ ap₂ (λ (x y : Bool). x || y) (mask_bit test n t) (one_bit (test n) n t)
    ∙ ⊎_elim (λ e. here (ltb t n) (eqb t n) (ltb t (suc n)) (test t) (test n) (le-ltb t n (omega arith)) (eq-eqb t n e) (lt-ltb t (suc n) (omega arith)) (ap test e)) other (cases_eq t n)
  where
    here : (a b c x y : Bool) → a ≡ false → b ≡ true → c ≡ true → x ≡ y → ((a && x) || (y && b)) ≡ (c && x)
    here true b c x y p q r s = absurd (subst T p tt)
    here false false c x y p q r s = absurd (subst T (sym q) tt)
    here false true false x y p q r s = absurd (subst T (sym r) tt)
    here false true true x true p q r s = sym s
    here false true true x false p q r s = sym s

    there : (a b c x y : Bool) → b ≡ false → a ≡ c → ((a && x) || (y && b)) ≡ (c && x)
    there a true c x y q r = absurd (subst T q tt)
    there true false c true y q r = ap (λ (z : Bool). z && true) r
    there true false c false true q r = ap (λ (z : Bool). z && false) r
    there true false c false false q r = ap (λ (z : Bool). z && false) r
    there false false c x true q r = ap (λ (z : Bool). z && x) r
    there false false c x false q r = ap (λ (z : Bool). z && x) r

    other : (t ≡ n → ⊥) → ((ltb t n && test t) || (test n && eqb t n)) ≡ (ltb t (suc n) && test t)
    other d = there (ltb t n) (eqb t n) (ltb t (suc n)) (test t) (test n) (ne_eqb t n d) (⊎_elim (λ h. lt-ltb t n h ∙ sym (lt-ltb t (suc n) (omega arith))) (λ h. le-ltb t n h ∙ sym (le-ltb t (suc n) (omega arith))) (cases_lt t n))

-- what a choice admits is a token
token_test : (span : Choice) (t : ℕ) (b : Bool) → (ltb t tokens && (choice_admits span (pos t) && b)) ≡ (choice_admits span (pos t) && b)
token_test span t b = ⊎_elim
    (λ h. ap (λ (z : Bool). z && (choice_admits span (pos t) && b)) (lt-ltb t tokens h))
    (λ h. ap (λ (z : Bool). z && (choice_admits span (pos t) && b)) (le-ltb t tokens h) ∙ sym (and_left (choice_admits span (pos t)) b (bit_above tokens span.mask t (mask_below span) h)))
    (cases_lt t tokens)

pub keeping_admits : (span : Choice) (test : ℕ → Bool) (t : ℕ) → choice_admits (keeping span test) (pos t) ≡ (choice_admits span (pos t) && test t)
unfolding keeping
keeping_admits span test t = mask_bit (λ t. choice_admits span (pos t) && test t) tokens t ∙ token_test span t (test t)

-- no other choice admits the same
pub kept_is : (r span : Choice) (test : ℕ → Bool) → ((t : ℕ) → choice_admits r (pos t) ≡ (choice_admits span (pos t) && test t)) → r ≡ keeping span test
kept_is r span test f = choices.same r (keeping span test) each
  where
    each : (x : ℤ) → choice_admits r x ≡ choice_admits (keeping span test) x
    each (pos t) = f t ∙ sym (keeping_admits span test t)
    each (negsuc n) = refl

-- the common part with a choice of the tokens that pass
pub meet_keeps : (span kept : Choice) (test : ℕ → Bool) → Exactly kept test → (t : ℕ) → choice_admits (choice_meet span kept) (pos t) ≡ (choice_admits span (pos t) && test t)
meet_keeps span kept test f t = choice_meet_admits span kept (pos t) ∙ ap (λ (z : Bool). choice_admits span (pos t) && z) (f t) ∙ swap (choice_admits span (pos t)) (ltb t tokens) (test t) ∙ token_test span t (test t)
  where
    swap : (a b c : Bool) → (a && (b && c)) ≡ (b && (a && c))
    swap true true c = refl
    swap true false c = refl
    swap false true c = refl
    swap false false c = refl

-- ---- beside a span of one token

and_true : (a : Bool) → a ≡ (a && true)
and_true true = refl
and_true false = refl

-- a span of more tokens strikes none
pub many_strike : (span other : Choice) → eqb (choice_size other) 1 ≡ false → (t : ℕ) → choice_admits span (pos t) ≡ (choice_admits span (pos t) && not (admits_only other t))
many_strike span other e t = and_true (choice_admits span (pos t)) ∙ ap (λ (z : Bool). choice_admits span (pos t) && not (z && choice_admits other (pos t))) (sym e)

-- a span of one token strikes that one
pub one_strikes : (r span other : Choice) (k : ℕ) → choice_size other ≡ 1 → choice_least other ≡ pos k → Exactly r (λ t. choice_admits span (pos t) && not (eqb t k)) → (t : ℕ) → choice_admits r (pos t) ≡ (choice_admits span (pos t) && not (admits_only other t))
one_strikes r span other k e l f t =
    f t ∙ token_test span t (not (eqb t k)) ∙ ap (λ (z : Bool). choice_admits span (pos t) && not z)
    (alike (eqb t k) (admits_only other t) only back)
  where
    least : T (choice_admits other (pos k))
    least = subst (λ (x : ℤ). T (choice_admits other x)) l (some_least choices other (omega arith))

    only : T (eqb t k) → T (admits_only other t)
    only h = join (eqb (choice_size other) 1) (choice_admits other (pos t)) (subst T (sym (eq-eqb (choice_size other) 1 e)) tt) (subst (λ (x : ℕ). T (choice_admits other (pos x))) (sym (eqb→eq t k h)) least)

    back : T (admits_only other t) → T (eqb t k)
    back h =
        let same = one_number choices other (pos t) (pos k) e (both (eqb (choice_size other) 1) (choice_admits other (pos t)) h).1 least in
        subst T (sym (eq-eqb t k (omega (arith, ints, same)))) tt
