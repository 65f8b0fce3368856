use Rattle.std.proofs.Common.{◌≡◌, ℕ, ◌+◌, ◌-◌, ◌<◌, ◌≤◌, List, length, drop, Some, Option, sym, ap, ◌∙◌, subst, arith, rules}
use borrow.Author.Rules.{scaled_Fits}
use Rattle.std.proofs.lemmas.List.{get_or_default}
use Rattle.std.proofs.lemmas.Bool.{eqb-true, eqb-false, ltb-true, ltb-false}
use Rattle.books.specs.Boards.{span_at, Full}
use Rattle.books.specs.Sweeps.{total}
use Rattle.books.specs.Waking.{woken}
use Rattle.books.proofs.Wakes.{length_woken}
use Rattle.engine.specs.declared.sweep.EmptiedBy.{EmptiedBy}
use Rattle.engine.specs.Skims.{Skim, halted, onward, on_then, tend, tend_rule, skim_from, skim}
use Rattle.engine.proofs.Boards.{total_set, full_set}
use Rattle.engine.proofs.Visiting.{tend_empties, tend_strikes, tend_leaves, tend_end, skim_at, skim_end, rule_passed, rule_visited, place_counted, place_within}
use Rattle.engine.proofs.sweep.sweep.Goals as goal
use Rattle.engine.proofs.sweep.sweep.Goals.{then-is_narrower, else-is_narrower, then-loop-rule-test+else-waiting-rule-eq0+then-loop-i-test+then-is_empty, else-loop-rule-test}

pub loop-rule-preserved-then-waiting-rule-eq0 : goal.loop-rule-preserved-then-waiting-rule-eq0
loop-rule-preserved-then-waiting-rule-eq0 g c =
    let kind = g.B.Span.Span.kind in
    let book = g.B.Book.meaning c.args.book.now in
    let l = c.loop-rule in
    let h : l.rule < book.rules = omega arith in
    (l.invariant.0, l.invariant.1, l.invariant.2, l.invariant.3, l.invariant.4 ∙ skim_at kind book l.rule l.board l.waiting l.strikes h ∙ ap (λ s. on_then s (skim_from kind book (book.rules - (l.rule + 1)) (l.rule + 1))) (rule_passed kind book l.rule l.board l.waiting l.strikes c.if-waiting-rule-eq0.true))

pub offset_bounds-board-place : goal.offset_bounds-board-place
offset_bounds-board-place g c =
    let kind = g.B.Span.Span.kind in
    let book = g.B.Book.meaning c.args.book.now in
    let h : c.scope_at-place.result < length c.loop-i.board = place_within kind book c.lawful.ensures c.loop-rule.rule c.loop-i.i c.scope_at-place.result c.loop-i.board (omega arith) (omega arith) c.scope_at-place.ensures c.loop-i.invariant.0 in
    search rules

pub bounds-board-place : goal.bounds-board-place
bounds-board-place g c =
    let kind = g.B.Span.Span.kind in
    let book = g.B.Book.meaning c.args.book.now in
    place_within kind book c.lawful.ensures c.loop-rule.rule c.loop-i.i c.scope_at-place.result c.loop-i.board (omega arith) (omega arith) c.scope_at-place.ensures c.loop-i.invariant.0

pub answer-new-requires : goal.answer-new-requires
answer-new-requires g c =
    let kind = g.B.Span.Span.kind in
    let book = g.B.Book.meaning c.args.book.now in
    record { rule = omega arith; place = place_counted kind book c.lawful.ensures c.loop-rule.rule c.loop-i.i c.scope_at-place.result c.loop-i.board (omega arith) (omega arith) c.scope_at-place.ensures c.loop-i.invariant.0; whole = c.loop-i.invariant.0.long }

pub offset_bounds-board-place-then-is_narrower : goal.offset_bounds-board-place-then-is_narrower
offset_bounds-board-place-then-is_narrower g c =
    let kind = g.B.Span.Span.kind in
    let book = g.B.Book.meaning c.args.book.now in
    let h : c.scope_at-place.result < length c.loop-i.board = place_within kind book c.lawful.ensures c.loop-rule.rule c.loop-i.i c.scope_at-place.result c.loop-i.board (omega arith) (omega arith) c.scope_at-place.ensures c.loop-i.invariant.0 in
    let k : c.scope_at-place.result < length c.args.board.now = omega arith in
    scaled_Fits c.scope_at-place.result (length c.args.board.now) _ k (search rules)

pub bounds-board-place-then-is_narrower : goal.bounds-board-place-then-is_narrower
bounds-board-place-then-is_narrower g c =
    let kind = g.B.Span.Span.kind in
    let book = g.B.Book.meaning c.args.book.now in
    place_within kind book c.lawful.ensures c.loop-rule.rule c.loop-i.i c.scope_at-place.result c.loop-i.board (omega arith) (omega arith) c.scope_at-place.ensures c.loop-i.invariant.0

pub loop-i-preserved : goal.loop-i-preserved
loop-i-preserved g c =
    let kind = g.B.Span.Span.kind in
    let book = g.B.Book.meaning c.args.book.now in
    let r = c.loop-rule.rule in
    let scope = (book.rule r).scope in
    let l = c.loop-i in
    let p = c.scope_at-place.result in
    let new = c.answer-new.result in
    let old = c.index-board-place.result in
    let in_scope : l.i < length scope = omega arith in
    let counted : p < book.places = place_counted kind book c.lawful.ensures r l.i p l.board (omega arith) in_scope c.scope_at-place.ensures l.invariant.0 in
    let within : p < length l.board = omega (arith, counted, l.invariant.0.long) in
    let was : old ≡ span_at kind l.board p = c.index-board-place.is ∙ get_or_default l.board p old kind.none within in
    let some : kind.size new ≡ 0 → ⊥ = eqb-false (kind.size new) 0 (sym c.is_empty.ensures.count ∙ c.if-is_empty.false) in
    elim c.if-is_narrower.branch [
      | then-is_narrower w ↦
          let less : kind.size new < kind.size old = ltb-true (kind.size new) (kind.size old) (sym c.is_narrower.ensures.count ∙ w.if-is_narrower.true) in
          let woke : c.if-is_narrower.waiting ≡ woken book p l.waiting = w.waiting-is ∙ w.wake.ensures in (
            subst (Full kind book.places) (sym w.board-is) (full_set kind book.places l.board p new counted l.invariant.0 (omega (arith, some))),
            omega (arith, ap (total kind) w.board-is, w.strikes-is, total_set kind l.board p new within, ap kind.size was, less, l.invariant.1),
            l.invariant.2,
            omega (arith, ap length woke, length_woken book p l.waiting, l.invariant.3),
            l.invariant.4 ∙ tend_strikes kind book r scope l.i l.board l.waiting l.strikes in_scope new old p c.scope_at-place.ensures c.answer-new.ensures was some less
                ∙ sym (swap w.board-is woke w.strikes-is),
          )
      | else-is_narrower w ↦
          let more : kind.size old ≤ kind.size new = ltb-false (kind.size new) (kind.size old) (sym c.is_narrower.ensures.count ∙ w.if-is_narrower.false) in (
            subst (Full kind book.places) (sym w.board-is) l.invariant.0,
            omega (arith, ap (total kind) w.board-is, w.strikes-is, l.invariant.1),
            l.invariant.2,
            omega (arith, ap length w.waiting-is, l.invariant.3),
            l.invariant.4 ∙ tend_leaves kind book r scope l.i l.board l.waiting l.strikes in_scope new old p c.scope_at-place.ensures c.answer-new.ensures was some more
                ∙ sym (swap w.board-is w.waiting-is w.strikes-is),
          )
    ]
  where
    swap : {b b' : List g.row.B-Span.Denot} {w w' : List ℕ} {s s' : ℕ} → b ≡ b' → w ≡ w' → s ≡ s'
        → tend g.B.Span.Span.kind (g.B.Book.meaning c.args.book.now) c.loop-rule.rule (drop (c.loop-i.i + 1) ((g.B.Book.meaning c.args.book.now).rule c.loop-rule.rule).scope) b w s
        ≡ tend g.B.Span.Span.kind (g.B.Book.meaning c.args.book.now) c.loop-rule.rule (drop (c.loop-i.i + 1) ((g.B.Book.meaning c.args.book.now).rule c.loop-rule.rule).scope) b' w' s'
    swap e f h = cc

pub loop-rule-preserved : goal.loop-rule-preserved
loop-rule-preserved g c =
    let kind = g.B.Span.Span.kind in
    let book = g.B.Book.meaning c.args.book.now in
    let r = c.loop-rule in
    let l = c.loop-i in
    let h : r.rule < book.rules = omega arith in
    let visited : tend_rule kind book r.rule r.board r.waiting r.strikes ≡ onward l.board l.waiting l.strikes =
    rule_visited kind book r.rule r.board r.waiting r.strikes c.if-waiting-rule-eq0.false ∙ l.invariant.4 ∙ tend_end kind book r.rule (book.rule r.rule).scope l.i l.board l.waiting l.strikes (omega arith) in
    (l.invariant.0, l.invariant.1, r.invariant.2, l.invariant.3, r.invariant.4 ∙ skim_at kind book r.rule r.board r.waiting r.strikes h ∙ ap (λ s. on_then s (skim_from kind book (book.rules - (r.rule + 1)) (r.rule + 1))) visited)

-- what was broken off with is what arrives
same_stop : {S : Type 0} (o : Option EmptiedBy) (a b : EmptiedBy) → o ≡ Some a → o ≡ Some b → ◌≡◌ {A = Skim S} (halted a.place a.rule) (halted b.place b.rule)
same_stop o a b e f = let same : a ≡ b = cc in ap (λ (x : EmptiedBy). halted x.place x.rule) same

pub returns-in-Some : goal.returns-in-Some
unfolding skim
returns-in-Some g c =
    let kind = g.B.Span.Span.kind in
    let book = g.B.Book.meaning c.args.book.now in
    let r = c.loop-rule in
    elim c.loop-rule-test.branch [
      | then-loop-rule-test+else-waiting-rule-eq0+then-loop-i-test+then-is_empty w ↦
          let l = w.loop-i in
          let scope = (book.rule r.rule).scope in
          let p = w.scope_at-place.result in
          let new = w.answer-new.result in
          let old = w.index-board-place.result in
          let h : r.rule < book.rules = omega arith in
          let in_scope : l.i < length scope = omega arith in
          let within : p < length l.board = place_within kind book c.lawful.ensures r.rule l.i p l.board h in_scope w.scope_at-place.ensures l.invariant.0 in
          let was : old ≡ span_at kind l.board p = w.index-board-place.is ∙ get_or_default l.board p old kind.none within in
          let none : kind.size new ≡ 0 = eqb-true (kind.size new) 0 (sym w.is_empty.ensures.count ∙ w.if-is_empty.true) in
          let visited : tend_rule kind book r.rule r.board r.waiting r.strikes ≡ halted p r.rule =
          rule_visited kind book r.rule r.board r.waiting r.strikes w.if-waiting-rule-eq0.false ∙ l.invariant.4 ∙ tend_empties kind book r.rule scope l.i l.board l.waiting l.strikes in_scope new old p w.scope_at-place.ensures w.answer-new.ensures was none in
          let whole : skim kind book c.args.board.now c.args.waiting.now c.args.start ≡ halted p r.rule =
          r.invariant.4 ∙ skim_at kind book r.rule r.board r.waiting r.strikes h ∙ ap (λ s. on_then s (skim_from kind book (book.rules - (r.rule + 1)) (r.rule + 1))) visited in
          same_stop c.loop-rule-test.emptied c.in-Some.by (record { place = p; rule = r.rule }) c.in-Some.is w.emptied-is ∙ sym whole
      | else-loop-rule-test w ↦ cc
    ]

pub returns-in-None : goal.returns-in-None
unfolding skim
returns-in-None g c =
    let kind = g.B.Span.Span.kind in
    let book = g.B.Book.meaning c.args.book.now in
    let r = c.loop-rule in
    elim c.loop-rule-test.branch [
      | then-loop-rule-test+else-waiting-rule-eq0+then-loop-i-test+then-is_empty w ↦ cc
      | else-loop-rule-test w ↦
          let whole : skim kind book c.args.board.now c.args.waiting.now c.args.start ≡ onward r.board r.waiting r.strikes =
          r.invariant.4 ∙ skim_end kind book r.rule r.board r.waiting r.strikes (omega (arith, w.loop-rule-test.false)) in
          cc whole
    ]
