use Rattle.std.proofs.Common.{rules, tests, arith, ◌≡◌, ◌==◌, ◌^◌, ℕ, cond, count_by}
use Rattle.std.proofs.lemmas.Iterator.{YieldsList-from_slice, YieldsList-from_map}
use Rattle.std.proofs.lemmas.Iterator.Consumers.{sum_by_from_yields_List, fits_by_from_yields_list}
use Rattle.std.proofs.lemmas.List.Sums.{count_by-le-length}
use Rattle.std.proofs.lemmas.List.Splits.{length-slice_split}
use Rattle.text.proofs.fields.field_count.Goals as goal

-- a tab counts for one, and any other byte for none
abbrev one : ℕ → ℕ
one b = cond (b == 9) 1 0

pub sum-tabs-requires-clause-fits : goal.sum-tabs-requires-clause-fits
sum-tabs-requires-clause-fits c =
    let bs = c.args.line.now in
    fits_by_from_yields_list one bs c.map.result (2 ^ 64) (YieldsList-from_map _ one (YieldsList-from_slice bs cc) c.map.ensures.closure (λ x r q k. search (rules, tests)))
    (omega (arith, count_by-le-length (λ b. b == 9) bs, c.iter.ensures.len, c.iter.ensures.bound))

pub returns : goal.returns
returns c =
    let bs = c.args.line.now in
    let e : c.sum-tabs.result ≡ count_by (λ b. b == 9) bs =
    sum_by_from_yields_List one bs c.map.result c.sum-tabs.result c.sum-tabs.ensures.ran (YieldsList-from_map _ one (YieldsList-from_slice bs cc) c.map.ensures.closure (λ x r q k. search (rules, tests))) in
    omega (arith, e, c.saturating_add.ensures, length-slice_split (λ b. b == 9) bs)
