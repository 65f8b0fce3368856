use Rattle.std.proofs.Common.{◌≡◌, ℕ, ◌+◌, ◌-◌, ◌<◌, ◌≤◌, List, [], ◌∷◌, map, length, take, drop, Some, Err, sym, ap, ◌∙◌, subst, ap₂, ⊎_elim, arith, length-set}
use native.Mathlib.Nat.{sub-zero}
use Rattle.std.proofs.lemmas.List.{map-set, length-map, take-map, take_more_set}
use Rattle.std.proofs.lemmas.Result.{err_from_is_err_and}
use Rattle.sheets.specs.declared.fault.SheetFault.TheVariants.{Full}
use Rattle.records.specs.declared.places.PlaceRow.{PlaceRow}
use Rattle.sheets.specs.declared.title.SpanKind.{SpanKind}
use Rattle.records.specs.Places.{place_shown, place_line}
use Rattle.readings.specs.Lines.{whole, lines_left}
use Rattle.readings.specs.Readings.{rules_from, place_room, rule_room}
use Rattle.readings.specs.Tables.{places_ahead, PlacesFilled}
use Rattle.readings.proofs.Turning.{rest_more}
use Rattle.readings.proofs.Placing.{Held, PlaceLine, next_is_place, next_is_none, place_refused, places_full, place_added}
use Rattle.readings.proofs.filling.fill_places.Goals as goal
use Rattle.readings.proofs.filling.fill_places.Goals.{After-next_place, In-Some}

-- what the loop holds, whatever room there is for rules
held : (c : After-next_place) (rules : ℕ) → Held c.args.kind (place_room (length (map place_shown c.args.places.now))) (rule_room rules) c.loop-line.lines.read c.loop-line.count (map place_shown c.loop-line.places) (map place_shown c.args.places.now) (lines_left c.loop-line.lines) (places_ahead c.args.kind (length (map place_shown c.args.places.now)) rules c.args.lines.now)
held c rules = record { inv = c.loop-line.invariant.0 rules; rest = c.loop-line.invariant.1; some = simp length-map c.loop-line.invariant.2 }

-- the line of a turn is a place line, the first of those that were left
line_at : (c : In-Some) → PlaceLine (lines_left c.loop-line.lines) c.loop-line.lines.read c.in-Some.line.now
line_at c = next_is_place _ _ _ c.in-Some.ensures.answer

first_at : (c : In-Some) → lines_left c.loop-line.lines ≡ whole c.in-Some.line.now ∷ lines_left c.next_place.new.lines
first_at c = (line_at c).first ∙ ap (λ ls. whole c.in-Some.line.now ∷ ls) (sym c.next_place.ensures.left)

-- the places as they are lent
lent : (kind : SpanKind) (rows : List PlaceRow) (count line : ℕ) (bytes : List ℕ) → place_line kind (map place_shown (take (count - 0) rows)) line bytes ≡ place_line kind (take count (map place_shown rows)) line bytes
lent kind rows count line bytes = ap (λ n. place_line kind (map place_shown (take n rows)) line bytes) (sub-zero count) ∙ ap (λ ps. place_line kind ps line bytes) (sym (take-map place_shown count rows))

pub returns-in_err-place : goal.returns-in_err-place
returns-in_err-place c rules =
    let at = goal.at.returns-in_err-place c in
    let d = at.In-Some in
    let p = err_from_is_err_and c.from_residual.result c.from_residual.ensures.1 in
    let line_is = c.read.ensures ∙ c.next_place.ensures.read ∙ (line_at d).count in
    let s = place_refused (held at.After-next_place rules) _ _ _ (first_at d) (line_at d).place line_is _ (c.in_err-place.ensures ∙ lent c.args.kind c.loop-line.places c.loop-line.count c.read.result c.in-Some.line.now) in
    subst (λ r. PlacesFilled c.args.kind rules (map place_shown c.args.places.now) c.args.lines.now r (map place_shown c.loop-line.places) c.next_place.new.lines) (sym (p.1 ∙ ap Err p.2)) (s.fault_is, s.no_rules, s.places_are)

pub returns-then-count-places : goal.returns-then-count-places
returns-then-count-places c rules =
    let at = goal.at.returns-then-count-places c in
    let d = at.In-Some in
    let l = length-map c.args.places.now place_shown in
    let full : place_room (length (map place_shown c.args.places.now)) ≤ c.loop-line.count = ⊎_elim (λ h. omega (arith, c.loop-line.invariant.3)) (λ h. omega (arith, h.1)) c.then-count-places.either in
    let line_is = c.read.ensures ∙ c.next_place.ensures.read ∙ (line_at d).count in
    let s = places_full (held at.After-next_place rules) _ _ _ (first_at d) (line_at d).place line_is _ (c.in_ok-place.ensures ∙ lent c.args.kind c.loop-line.places c.loop-line.count c.read.result c.in-Some.line.now) full in
    (s.fault_is ∙ ap (λ n. Some (Full n)) (c.read.ensures ∙ sym c.read-then-count-places.ensures), s.no_rules, s.places_are)

pub loop-line-preserved : goal.loop-line-preserved
loop-line-preserved c =
    let at = goal.at.loop-line-preserved c in
    let d = at.In-Some in
    let xs = map place_shown c.loop-line.places in
    let l = length-map c.args.places.now place_shown in
    let room : c.loop-line.count < length xs = simp length-map c.if-count-places.false in
    let free : c.loop-line.count < place_room (length (map place_shown c.args.places.now)) = omega (arith, c.if-count-places.false, c.if-count-ge-MOST_PLACES.false, c.loop-line.invariant.3) in
    let line_is = c.read.ensures ∙ c.next_place.ensures.read ∙ (line_at d).count in
    let written = map-set place_shown c.loop-line.places c.loop-line.count c.in_ok-place.place in (
      (λ rules. place_added (held at.After-next_place rules) _ _ _ (first_at d) (line_at d).place line_is _ _ _ c.read.ensures (c.in_ok-place.ensures ∙ lent c.args.kind c.loop-line.places c.loop-line.count c.read.result c.in-Some.line.now) free (ap (take (c.loop-line.count + 1)) written ∙ take_more_set xs c.loop-line.count _ room)),
      ap (drop (c.loop-line.count + 1)) written ∙ rest_more xs _ c.loop-line.count (omega (arith, room)) c.loop-line.invariant.1 _,
      simp length-set (omega (arith, c.if-count-places.false)),
      length-set _ _ _ ∙ c.loop-line.invariant.3,
      omega (arith, c.if-count-ge-MOST_PLACES.false),
    )

pub returns : goal.returns
returns c rules =
    let h = held (goal.at.returns c).After-next_place rules in
    let n = next_is_none c.args.kind (place_room (length (map place_shown c.args.places.now))) (rule_room rules) (lines_left c.loop-line.lines) c.loop-line.lines.read (take c.loop-line.count (map place_shown c.loop-line.places)) c.in_default.ensures.answer in
    let l = length-map c.args.places.now place_shown in (
      sym h.inv ∙ n.on
          ∙ ap₂ (λ m ls. rules_from c.args.kind (rule_room rules) (take c.loop-line.count (map place_shown c.loop-line.places)) m [] ls) (sym (c.next_place.ensures.read ∙ n.count)) (sym (c.next_place.ensures.left ∙ n.left)),
      omega (arith, c.loop-line.invariant.2, c.loop-line.invariant.3, c.loop-line.invariant.4),
      h.rest,
    )
