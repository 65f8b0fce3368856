use Rattle.std.proofs.Common.{◌≡◌, ℕ, zero, suc, ◌+◌, ◌-◌, ◌<◌, ◌≤◌, List, ◌++◌, length, take, drop, replicate, Err, sym, ap, ◌∙◌, subst, arith, length-append, length-drop}
use Rattle.std.proofs.lemmas.List.{length-take-le}
use Rattle.std.proofs.lemmas.Result.{err_from_is_err_and}
use Rattle.spans.specs.Kind.{Kind}
use Rattle.books.specs.Meaning.{Meaning, Lawful}
use Rattle.books.specs.Sweeps.{total}
use Rattle.engine.specs.Lent.{skim_told}
use Rattle.engine.specs.Skims.{halted, onward, skim, skims, skimmed}
use Rattle.engine.proofs.Falling.{Kept, Keeps, total_most, skim_keeps, skims_stop, skims_end, skims_more}
use Rattle.engine.proofs.Waits.{filled_front}
use Rattle.engine.proofs.sweep.settle.Goals as goal

pub sweep-requires : goal.sweep-requires
sweep-requires g c =
    let kind = g.B.Span.Span.kind in
    let book = g.B.Book.meaning c.args.book.now in
    let k = c.loop-after.invariant.2 in
    record {
      full = k.full;
      waiting = omega (arith, k.long, c.requires.waiting, length-append c.fill.new.self (drop (c.rules.result - 0) c.args.waiting.now), length-drop (c.rules.result - 0) c.args.waiting.now, c.fill.ensures.len, length-take-le (c.rules.result - 0) c.args.waiting.now (omega arith));
      few = omega (arith, k.falls, total_most kind c.args.board.now, c.requires.full.long, c.lawful.ensures.few_places);
    }

-- one sweep more, of as many as are enough: m of them from here, at the board b
module _ {S : Type 0} (kind : Kind S) (book : Meaning S) (law : Lawful kind book) (t n m : ℕ) (b : List S) (w : List ℕ) (s : ℕ) (enough : total kind b < m) (k : Kept kind book t n 0 b w s) where
  stop : (p r : ℕ) → skim kind book b w s ≡ halted p r → skims kind book m b w s ≡ halted p r
  stop p r e = go m enough
    where
      go : (j : ℕ) → total kind b < j → skims kind book j b w s ≡ halted p r
      go zero h = absurd (omega arith)
      go (suc j) h = skims_stop kind book j b w s p r e

  module _ (b' : List S) (w' : List ℕ) (s' : ℕ) (e : skim kind book b w s ≡ onward b' w' s') where
    after : Kept kind book t n 0 b' w' s'
    after = subst (Keeps kind book t n 0) e (skim_keeps kind book law t n 0 b w s k)

    end : s' ≡ s → skims kind book m b w s ≡ onward b' w' s'
    end z = go m enough
      where
        go : (j : ℕ) → total kind b < j → skims kind book j b w s ≡ onward b' w' s'
        go zero h = absurd (omega arith)
        go (suc j) h = skims_end kind book j b w s b' w' s' e z

    falls : (s' ≡ s → ⊥) → total kind b' < total kind b
    falls z =
        let start : Kept kind book (total kind b + s) n s b w s = record { full = k.full; falls = omega arith; long = k.long; rises = omega arith } in
        let here = subst (Keeps kind book (total kind b + s) n s) e (skim_keeps kind book law (total kind b + s) n s b w s start) in
        omega (arith, here.falls, here.rises, z)

    more : (s' ≡ s → ⊥) → (j : ℕ) × (total kind b' < j) × (skims kind book m b w s ≡ skims kind book j b' w' s')
    more z = go m enough
      where
        go : (j : ℕ) → total kind b < j → (i : ℕ) × (total kind b' < i) × (skims kind book j b w s ≡ skims kind book i b' w' s')
        go zero h = absurd (omega arith)
        go (suc j) h = (j, omega (arith, falls z), skims_more kind book j b w s b' w' s' e z)

-- every rule waits at first
all-wait : {S : Type 0} (kind : Kind S) (book : Meaning S) (b : List S) (w front : List ℕ) (n : ℕ) → n ≡ book.rules → book.rules ≤ length w → front ≡ replicate (length (take n w)) 1
    → skims kind book (suc (total kind b)) b (front ++ drop n w) 0 ≡ skimmed kind book b w
unfolding skimmed
all-wait kind book b w front n e h f = ap (λ (v : List ℕ). skims kind book (suc (total kind b)) b v 0) (filled_front book.rules n 1 w front e h f)

pub returns-in_err-after : goal.returns-in_err-after
returns-in_err-after g c =
    let kind = g.B.Span.Span.kind in
    let book = g.B.Book.meaning c.args.book.now in
    let l = c.loop-after in
    let by = c.in_err-after.field-0.0 in
    let p = err_from_is_err_and c.from_residual.result c.from_residual.ensures.1 in
    let whole = all-wait kind book c.args.board.now c.args.waiting.now c.fill.new.self _ (omega arith) c.requires.waiting (c.fill.ensures.after (λ y e. e)) in
    ap (λ r. skim_told r c.sweep.new.board c.sweep.new.waiting) (p.1 ∙ ap Err p.2)
    ∙ sym (l.invariant.3 ∙ stop kind book c.lawful.ensures _ _ l.invariant.0 l.board l.waiting l.strikes l.invariant.1 l.invariant.2 by.place by.rule (sym c.in_err-after.ensures)) ∙ whole

pub returns-then-after-strikes : goal.returns-then-after-strikes
returns-then-after-strikes g c =
    let kind = g.B.Span.Span.kind in
    let book = g.B.Book.meaning c.args.book.now in
    let l = c.loop-after in
    let whole = all-wait kind book c.args.board.now c.args.waiting.now c.fill.new.self _ (omega arith) c.requires.waiting (c.fill.ensures.after (λ y e. e)) in
    ap (onward c.sweep.new.board c.sweep.new.waiting) (sym c.if-after-strikes.true)
    ∙ sym (l.invariant.3 ∙ end kind book c.lawful.ensures _ _ l.invariant.0 l.board l.waiting l.strikes l.invariant.1 l.invariant.2 c.sweep.new.board c.sweep.new.waiting c.in_ok-after.after (sym c.in_ok-after.ensures) c.if-after-strikes.true) ∙ whole

pub loop-after-smaller : goal.loop-after-smaller
loop-after-smaller g c =
    let l = c.loop-after in
    falls g.B.Span.Span.kind (g.B.Book.meaning c.args.book.now) c.lawful.ensures _ _ l.invariant.0 l.board l.waiting l.strikes l.invariant.1 l.invariant.2 c.sweep.new.board c.sweep.new.waiting c.in_ok-after.after (sym c.in_ok-after.ensures) c.if-after-strikes.false

pub loop-after-preserved : goal.loop-after-preserved
loop-after-preserved g c =
    let kind = g.B.Span.Span.kind in
    let book = g.B.Book.meaning c.args.book.now in
    let l = c.loop-after in
    let e = sym c.in_ok-after.ensures in
    let next = more kind book c.lawful.ensures _ _ l.invariant.0 l.board l.waiting l.strikes l.invariant.1 l.invariant.2 c.sweep.new.board c.sweep.new.waiting c.in_ok-after.after e c.if-after-strikes.false in
    (next.0, next.1, after kind book c.lawful.ensures _ _ l.invariant.0 l.board l.waiting l.strikes l.invariant.1 l.invariant.2 c.sweep.new.board c.sweep.new.waiting c.in_ok-after.after e, l.invariant.3 ∙ next.2)
