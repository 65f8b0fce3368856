-- Sweeps keep boards full, and each strike takes a number away. Assumes nothing.
use Rattle.std.proofs.Common.{◌≡◌, ℕ, zero, suc, ◌+◌, ◌*◌, ◌<◌, ◌≤◌, Bool, true, false, cond, eqb, ltb, List, [], ◌∷◌, length, get_or, set, ℤ, refl, ap, ◌∙◌, inl, inr, arith, length-set}
use Rattle.std.proofs.lemmas.Bool.{ltb-true, eqb-false, ne_eqb, eq-eqb, cond-true, cond-false}
use Rattle.spans.specs.Kind.{Kind}
use Rattle.spans.specs.Numbers.{number, numbers, counted}
use Rattle.spans.specs.Counts.{counted_none, counted_next}
use Rattle.books.specs.Boards.{Among, span_at, Full}
use Rattle.books.specs.Meaning.{Meaning, Lawful}
use Rattle.books.specs.Sweeps.{total}
use Rattle.books.specs.Waking.{woken}
use Rattle.books.proofs.Wakes.{length_woken}
use Rattle.engine.specs.Skims.{Skim, halted, onward, on_then, tend, tend_rule, skim_from, skim, skims}
use Rattle.engine.proofs.Boards.{total_set, full_set}

counted_most : (test : ℤ → Bool) (n : ℕ) → counted test n ≤ n
counted_most test zero = omega (arith, counted_none test)
counted_most test (suc n) = omega (arith, counted_next test n, counted_most test n, one (test (number n)))
  where
    one : (b : Bool) → ◌≤◌ (cond b 1 0) 1
    one true = omega arith
    one false = omega arith

module _ {S : Type 0} (kind : Kind S) where
  size_most : (a : S) → kind.size a ≤ 2000001
  size_most a = omega (arith, kind.size_counts a, counted_most (kind.admits a) numbers)

  pub total_most : (b : List S) → total kind b ≤ 2000001 * length b
  unfolding total
  total_most [] = omega arith
  total_most (s ∷ b) = omega (arith, total_most b, size_most s)

  module _ (book : Meaning S) (t n from : ℕ) where
    -- what visits leave that began with t numbers and strikes together, a waiting list of n entries, and at least `from` strikes
    pub record Kept (b : List S) (w : List ℕ) (s : ℕ) : Type 0 where
      pub full : Full kind book.places b
      pub falls : total kind b + s ≤ t
      pub long : length w ≡ n
      pub rises : from ≤ s

    abbrev pub Keeps : Skim S → Type 0
    Keeps (halted place rule) = Unit {0}
    Keeps (onward b w s) = Kept b w s

  module _ (book : Meaning S) (law : Lawful kind book) (t n from : ℕ) where
    keeps_then : (k : Skim S) (f : List S → List ℕ → ℕ → Skim S) → Keeps book t n from k → ((b : List S) (w : List ℕ) (s : ℕ) → Kept book t n from b w s → Keeps book t n from (f b w s)) → Keeps book t n from (on_then k f)
    keeps_then (halted p r) f k g = tt
    keeps_then (onward b w s) f k g = g b w s k

    tend_keeps : (r : ℕ) (ps : List ℕ) (b : List S) (w : List ℕ) (s : ℕ) → ((p : ℕ) → Among p ps → p < book.places) → Kept book t n from b w s → Keeps book t n from (tend kind book r ps b w s)
    unfolding tend
    tend_keeps r [] b w s counted k = k
    tend_keeps r (p ∷ ps) b w s counted k =
        go (eqb (kind.size ((book.rule r).answer p b)) 0) refl (ltb (kind.size ((book.rule r).answer p b)) (kind.size (span_at kind b p))) refl
        (λ h. tend_keeps r ps (set b p ((book.rule r).answer p b)) (woken book p w) (suc s) (λ q m. counted q (inr m)) h)
        (tend_keeps r ps b w s (λ q m. counted q (inr m)) k)
      where
        struck : kind.size ((book.rule r).answer p b) < kind.size (span_at kind b p) → (kind.size ((book.rule r).answer p b) ≡ 0 → ⊥) → Kept book t n from (set b p ((book.rule r).answer p b)) (woken book p w) (suc s)
        struck l some =
            let here : p < book.places = counted p (inl refl) in
            record {
              full = full_set kind book.places b p ((book.rule r).answer p b) here k.full (omega (arith, some));
              falls = omega (arith, total_set kind b p ((book.rule r).answer p b) (omega (arith, here, k.full.long)), l, k.falls);
              long = length_woken book p w ∙ k.long;
              rises = omega (arith, k.rises);
            }

        go : (e : Bool) → eqb (kind.size ((book.rule r).answer p b)) 0 ≡ e → (f : Bool) → ltb (kind.size ((book.rule r).answer p b)) (kind.size (span_at kind b p)) ≡ f
            → (Kept book t n from (set b p ((book.rule r).answer p b)) (woken book p w) (suc s) → Keeps book t n from (tend kind book r ps (set b p ((book.rule r).answer p b)) (woken book p w) (suc s)))
            → Keeps book t n from (tend kind book r ps b w s)
            → Keeps book t n from (cond e (halted p r) (cond f (tend kind book r ps (set b p ((book.rule r).answer p b)) (woken book p w) (suc s)) (tend kind book r ps b w s)))
        go true e f g more same = tt
        go false e true g more same = more (struck (ltb-true (kind.size ((book.rule r).answer p b)) (kind.size (span_at kind b p)) g) (eqb-false (kind.size ((book.rule r).answer p b)) 0 e))
        go false e false g more same = same

    rule_keeps : (r : ℕ) (b : List S) (w : List ℕ) (s : ℕ) → r < book.rules → Kept book t n from b w s → Keeps book t n from (tend_rule kind book r b w s)
    unfolding tend_rule
    rule_keeps r b w s h k = go (eqb (get_or w r 0) 0)
      where
        cleared : Kept book t n from b (set w r 0) s
        cleared = record { full = k.full; falls = k.falls; long = length-set w r 0 ∙ k.long; rises = k.rises }

        go : (e : Bool) → Keeps book t n from (cond e (onward b w s) (tend kind book r (book.rule r).scope b (set w r 0) s))
        go true = k
        go false = tend_keeps r (book.rule r).scope b (set w r 0) s (law.each r h).counted cleared

    from_keeps : (m r : ℕ) (b : List S) (w : List ℕ) (s : ℕ) → r + m ≤ book.rules → Kept book t n from b w s → Keeps book t n from (skim_from kind book m r b w s)
    unfolding skim_from
    from_keeps zero r b w s h k = k
    from_keeps (suc m) r b w s h k = keeps_then (tend_rule kind book r b w s) (skim_from kind book m (suc r)) (rule_keeps r b w s (omega arith) k) (λ b' w' s' k'. from_keeps m (suc r) b' w' s' (omega arith) k')

    -- one sweep
    pub skim_keeps : (b : List S) (w : List ℕ) (s : ℕ) → Kept book t n from b w s → Keeps book t n from (skim kind book b w s)
    unfolding skim
    skim_keeps b w s k = from_keeps book.rules 0 b w s (omega arith) k

  -- what one sweep of the code comes to, with enough sweeps left
  module _ (book : Meaning S) (m : ℕ) (b : List S) (w : List ℕ) (s : ℕ) where
    pub skims_stop : (p r : ℕ) → skim kind book b w s ≡ halted p r → skims kind book (suc m) b w s ≡ halted p r
    unfolding skims
    skims_stop p r e = ap (λ (k : Skim S). on_then k (λ b' w' s'. cond (eqb s' s) (onward b' w' s') (skims kind book m b' w' s'))) e

    module _ (b' : List S) (w' : List ℕ) (s' : ℕ) (e : skim kind book b w s ≡ onward b' w' s') where
      step : skims kind book (suc m) b w s ≡ cond (eqb s' s) (onward b' w' s') (skims kind book m b' w' s')
      unfolding skims
      step = ap (λ (k : Skim S). on_then k (λ c v j. cond (eqb j s) (onward c v j) (skims kind book m c v j))) e

      pub skims_end : s' ≡ s → skims kind book (suc m) b w s ≡ onward b' w' s'
      skims_end z = step ∙ cond-true _ _ _ (eq-eqb s' s z)

      pub skims_more : (s' ≡ s → ⊥) → skims kind book (suc m) b w s ≡ skims kind book m b' w' s'
      skims_more z = step ∙ cond-false _ _ _ (ne_eqb s' s z)
