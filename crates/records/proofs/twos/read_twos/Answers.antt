use Rattle.std.proofs.Common.{◌≤◌, map, length, ap, ◌∙◌, arith}
use Rattle.std.proofs.lemmas.List.{map_push, length_push}
use Rattle.text.specs.Fields.{fields_left}
use Rattle.rules.specs.Fews.{listed}
use Rattle.records.specs.Names.{named}
use Rattle.records.proofs.Taking.{length_others, two_added}
use Rattle.records.proofs.twos.read_twos.Goals as goal

pub loop-first-preserved : goal.loop-first-preserved
loop-first-preserved g c =
    let h : 1 ≤ length (fields_left c.loop-first.left) = omega (arith, ap length c.in-Some.ensures.steps) in
    let room = c.loop-first.invariant.2 h in
    let one = ap length c.in-Some.ensures.steps in
    let two = ap length c.next_field-second.ensures.left in
    let least = length_others (fields_left c.next.new.self) in
    let more = ap length c.in-Ok.ensures.1 ∙ length_push (listed c.loop-first.items) c.in_ok-item.item in (
      two_added (g.T.Item.reads (named c.args.names) c.args.line) c.loop-first.field _ _ _ _ _ _ _ c.in-Some.ensures.steps c.next_field-second.ensures.field c.next_field-second.ensures.left c.loop-first.invariant.0 _ _ (c.in_ok-item.ensures ∙ ap (λ ts. g.T.Item.reads (named c.args.names) c.args.line c.loop-first.field (map g.T.Item.shows ts) c.in-Some.first.now c.next_field-second.result.now) c.as_slice.ensures) (ap (map g.T.Item.shows) c.in-Ok.ensures.1 ∙ map_push g.T.Item.shows _ _),
      omega arith,
      (λ l. omega arith),
      omega (arith, c.loop-first.invariant.3),
    )
