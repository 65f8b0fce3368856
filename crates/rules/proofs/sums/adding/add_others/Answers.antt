use Rattle.std.proofs.Common.{◌≡◌, ℕ, ◌+◌, cond, eqb, length, get_or, ℤ, Some, Option, sym, refl, ap, ◌∙◌, subst, ap₂, arith}
use Rattle.std.proofs.lemmas.List.{get_or_default}
use Rattle.std.proofs.lemmas.Int.{ints}
use Rattle.std.proofs.lemmas.Bool.{cond-true, cond-false, eq-eqb, ne_eqb}
use Rattle.spans.specs.Amounts.{amount_size}
use Rattle.spans.specs.AmountKind.{amounts}
use Rattle.spans.specs.declared.amount.Amount.{Amount}
use Rattle.rules.specs.SumRows.{blank}
use Rattle.rules.specs.Sums.{least_product_of, least_on, greatest_product_of, greatest_on, low, high}
use Rattle.rules.specs.declared.sums.adding.Others.{Others}
use Rattle.rules.specs.SumPasses.{passed}
use Rattle.rules.proofs.SumProducts.{Near}
use Rattle.rules.proofs.SumAdding.{Adding, adding_none, adding_pass, adding_more, adding_all, place_at, coefficient_at_lem, requires_back, product_on, least_near, greatest_near}
use Rattle.rules.proofs.SumIndexes.{some_here, index_here, index_there, index_elsewhere, index_left, index_in, index_or}
use Rattle.rules.proofs.sums.adding.add_others.Goals as goal
use Rattle.rules.proofs.sums.adding.add_others.Goals.{then-t-place, else-t-place}

pub bounds-board-t : goal.bounds-board-t
bounds-board-t c = place_at (length c.args.board.now) c.args.terms.now c.loop-i.i c.loop-i-test.true c.requires.terms

pub loop-i-init : goal.loop-i-init
loop-i-init c =
    let ts = c.args.terms.now in
    let a = index_in ts c.args.place in
    (refl, refl, adding_none (least_on c.args.board.now) a ts, adding_none (greatest_on c.args.board.now) a ts)

pub products_of-products-requires : goal.products_of-products-requires
products_of-products-requires c =
    let b = c.args.board.now in
    let ts = c.args.terms.now in
    let i = c.loop-i.i in
    requires_back b (get_or ts i blank) (coefficient_at_lem (length b) ts i c.loop-i-test.true c.requires.terms) (place_at (length b) ts i c.loop-i-test.true c.requires.terms)

pub overflow_add-low : goal.overflow_add-low
overflow_add-low c =
    let b = c.args.board.now in
    let ts = c.args.terms.now in
    let i = c.loop-i.i in
    let t = get_or ts i blank in
    let h = c.loop-i-test.true in
    let k = coefficient_at_lem (length b) ts i h c.requires.terms in
    let e = product_on b t k (place_at (length b) ts i h c.requires.terms) least_product_of c.index-board-t.result c.products_of-products.result.least c.index-board-t.is c.products_of-products.ensures.least in
    let n = subst (Near 10_000_000_000) (sym e) (least_near t.coefficient _ k) in
    let m = c.loop-i.invariant.2.near in
    omega (arith, ints, n.low, n.high, m.low, m.high, h, c.requires.few)

pub overflow_add-high : goal.overflow_add-high
overflow_add-high c =
    let b = c.args.board.now in
    let ts = c.args.terms.now in
    let i = c.loop-i.i in
    let t = get_or ts i blank in
    let h = c.loop-i-test.true in
    let k = coefficient_at_lem (length b) ts i h c.requires.terms in
    let e = product_on b t k (place_at (length b) ts i h c.requires.terms) greatest_product_of c.index-board-t.result c.products_of-products.result.greatest c.index-board-t.is c.products_of-products.ensures.greatest in
    let n = subst (Near 10_000_000_000) (sym e) (greatest_near t.coefficient _ k) in
    let m = c.loop-i.invariant.3.near in
    omega (arith, ints, n.low, n.high, m.low, m.high, h, c.requires.few)

pub loop-i-preserved : goal.loop-i-preserved
loop-i-preserved c =
    let b = c.args.board.now in
    let ts = c.args.terms.now in
    let i = c.loop-i.i in
    let t = get_or ts i blank in
    let h = c.loop-i-test.true in
    let inside = place_at (length b) ts i h c.requires.terms in
    let k = coefficient_at_lem (length b) ts i h c.requires.terms in
    let p = t.place in
    let a = index_in ts c.args.place in
    let l = c.loop-i.invariant.2 in
    let g = c.loop-i.invariant.3 in
    let s = c.index-board-t.is ∙ get_or_default b p c.index-board-t.result amounts.none inside in
    let z = ap (λ (x : Amount). eqb (amount_size x) 0) (sym s) ∙ sym c.is_empty.ensures.count ∙ c.if-is_empty.false in
    let some = sym (some_here ts b c.args.place i h z) ∙ c.loop-i.invariant.0 in
    let index : (new : _) → new ≡ cond (eqb p c.args.place) (Some i) c.loop-i.found → _ = λ new e. sym (index_here ts b c.args.place i h c.loop-i.found new e) ∙ c.loop-i.invariant.1 in
    elim c.if-t-place.branch [
      | then-t-place w ↦
          (let here = index_there (length b) c.args.place ts i c.requires.terms h w.if-t-place.true in
          let found = w.found-is ∙ sym (cond-true (eqb p c.args.place) (Some i) c.loop-i.found (eq-eqb p c.args.place w.if-t-place.true)) in (
            some,
            index c.if-t-place.found found,
            subst (Adding (least_on b) a ts (i + 1)) (sym w.low-is) (adding_pass (least_on b) a ts i _ l h here),
            subst (Adding (greatest_on b) a ts (i + 1)) (sym w.high-is) (adding_pass (greatest_on b) a ts i _ g h here),
          ))
      | else-t-place w ↦
          (let away = index_elsewhere c.args.place ts i h w.if-t-place.false in
          let found = w.found-is ∙ sym (cond-false (eqb p c.args.place) (Some i) c.loop-i.found (ne_eqb p c.args.place w.if-t-place.false)) in
          let x = w.products_of-products.result.least in
          let y = w.products_of-products.result.greatest in
          let x-is = product_on b t k inside least_product_of c.index-board-t.result x c.index-board-t.is w.products_of-products.ensures.least in
          let y-is = product_on b t k inside greatest_product_of c.index-board-t.result y c.index-board-t.is w.products_of-products.ensures.greatest in
          let n = subst (Near 10_000_000_000) (sym x-is) (least_near t.coefficient _ k) in
          let m = subst (Near 10_000_000_000) (sym y-is) (greatest_near t.coefficient _ k) in (
            some,
            index c.if-t-place.found found,
            adding_more (least_on b) a ts i _ l h away x _ x-is n (omega (arith, ints, n.low, n.high, l.near.low, l.near.high, h, c.requires.few, w.low-is)),
            adding_more (greatest_on b) a ts i _ g h away y _ y-is m (omega (arith, ints, m.low, m.high, g.near.low, g.near.high, h, c.requires.few, w.high-is)),
          ))
    ]

pub returns : goal.returns
unfolding low high
returns c =
    let b = c.args.board.now in
    let ts = c.args.terms.now in
    let i = c.loop-i.i in
    let h = c.loop-i-test.false in
    let j = c.in_ok-asked.asked in
    let found : c.loop-i.found ≡ Some j = c.in_ok-asked.was in
    let inv = c.loop-i.invariant in
    let r = index_left ts b c.args.place i c.loop-i.found h inv.0 inv.1 in
    let there : index_in ts c.args.place ≡ j = ap (index_or (length ts)) (r.0 ∙ found) in
    let x = adding_all (least_on b) (index_in ts c.args.place) ts i _ inv.2 h ∙ ap (λ (k : ℕ). low ts k b) there in
    let y = adding_all (greatest_on b) (index_in ts c.args.place) ts i _ inv.3 h ∙ ap (λ (k : ℕ). high ts k b) there in
    let made : ℤ → ℤ → Option Others = λ x y. Some (record { asked = j; low = x; high = y }) in
    ap₂ made x y ∙ ap (passed ts b) (sym (r.1 ∙ found))
