use Rattle.std.proofs.Common.{◌≡◌, ◌≤◌, [], map, length, take, Err, sym, ap, ◌∙◌, subst, ap₂, arith, rules}
use Rattle.std.proofs.lemmas.List.{length-map, length-take-le}
use Rattle.std.proofs.lemmas.Result.{err_from_is_err_and}
use Rattle.records.specs.Names.{named}
use Rattle.records.specs.Places.{place_shown}
use Rattle.readings.specs.Lines.{lines_left}
use Rattle.readings.specs.Readings.{game_read, place_some, rule_room}
use Rattle.readings.specs.Tables.{Filled, places_ahead, rules_ahead, laid}
use Rattle.readings.proofs.Turning.{laid_first}
use Rattle.readings.proofs.Beginning.{game_begun, game_not_begun, filled_none, filled_places, filled_rules, filled_wanting, filled_all, rules_places, told_fault, told_none, lent_names}
use Rattle.readings.proofs.reading.fill_game.Given.{Over}
use Rattle.readings.proofs.reading.fill_game.Goals as goal
use Rattle.readings.proofs.reading.fill_game.Goals.{In_ok-read_title, In_ok-place_count, After-fill_rules}

-- behind the title
begun-at : (g : Over) (c : In_ok-read_title g) → game_read g.R.RuleRow.sheets (length c.args.places.now) (length c.args.rules.now) c.args.sheet.now ≡ place_some (places_ahead c.kind-kind.result (length (map place_shown c.args.places.now)) (length c.args.rules.now) c.read_title.new.lines)
begun-at g c = game_begun g.R.RuleRow.sheets c.kind-kind.result (length c.args.places.now) (length c.args.rules.now) (length (map place_shown c.args.places.now)) c.args.sheet.now c.new-lines.result c.read_title.new.lines c.kind-kind.ensures (length-map c.args.places.now place_shown) c.in_ok-check_sheet.ensures c.new-lines.ensures.read c.new-lines.ensures.left c.in_ok-read_title.ensures.answer c.in_ok-read_title.ensures.left c.in_ok-read_title.ensures.read

pub returns-in_err-read_title : goal.returns-in_err-read_title
returns-in_err-read_title g c =
    let p = err_from_is_err_and c.from_residual-in_err-read_title.result c.from_residual-in_err-read_title.ensures.1 in
    let all = game_read g.R.RuleRow.sheets (length c.args.places.now) (length c.args.rules.now) c.args.sheet.now in
    let e = game_not_begun g.R.RuleRow.sheets c.kind-kind.result (length c.args.places.now) (length c.args.rules.now) (length (map place_shown c.args.places.now)) c.args.sheet.now c.new-lines.result c.read_title.new.lines c.kind-kind.ensures (length-map c.args.places.now place_shown) c.in_ok-check_sheet.ensures c.new-lines.ensures.read c.new-lines.ensures.left _ c.in_err-read_title.ensures.answer in
    subst (λ r. Filled all r (map place_shown c.args.places.now) (map g.R.RuleRow.holds c.args.rules.now) (map place_shown c.args.places.now) (map g.R.RuleRow.holds c.args.rules.now)) (sym (p.1 ∙ ap Err p.2)) (filled_none all _ _ _ e)

pub returns-in_err-place_count : goal.returns-in_err-place_count
returns-in_err-place_count g c =
    let p = err_from_is_err_and c.from_residual-in_err-place_count.result c.from_residual-in_err-place_count.ensures.1 in
    let all = game_read g.R.RuleRow.sheets (length c.args.places.now) (length c.args.rules.now) c.args.sheet.now in
    let w = c.in_err-place_count.ensures (length c.args.rules.now) in
    subst (λ r. Filled all r (map place_shown c.args.places.now) (map g.R.RuleRow.holds c.args.rules.now) (map place_shown c.fill_places.new.places) (map g.R.RuleRow.holds c.args.rules.now)) (sym (p.1 ∙ ap Err p.2))
    (filled_places all (places_ahead c.kind-kind.result (length (map place_shown c.args.places.now)) (length c.args.rules.now) c.read_title.new.lines) _ _ _ _ (begun-at g (goal.at.returns-in_err-place_count g c).In_ok-read_title) w.0 w.1 w.2)

-- the places are as many as there is room for, and no more than 254
few-at : (g : Over) (c : In_ok-place_count g) → (c.in_ok-place_count.place_count ≤ length c.fill_places.new.places) × (c.in_ok-place_count.place_count ≤ 254)
few-at g c =
    let w = c.in_ok-place_count.ensures (length c.args.rules.now) in
    let l = length-map c.args.places.now place_shown in
    let k : length c.fill_places.new.places ≡ length c.args.places.now = search rules in
    (omega (arith, w.1), omega (arith, w.1))

pub slice_bounds-new-end : goal.slice_bounds-new-end
slice_bounds-new-end g c = let h = few-at g (goal.at.slice_bounds-new-end g c).In_ok-place_count in let k = h.0 in search rules

-- the names that rules may use are those of the places read
names_at : (g : Over) (c : After-fill_rules g) → c.in_ok-place_count.place_count ≤ 254 → named c.new-names.result ≡ take c.in_ok-place_count.place_count (map place_shown c.fill_places.new.places)
names_at g c few = c.new-names.ensures ∙ lent_names c.fill_places.new.places c.in_ok-place_count.place_count few

-- what was read of the places and rules is what was read of the rules behind those places
rules-at : (g : Over) (c : After-fill_rules g) → c.in_ok-place_count.place_count ≤ 254 → places_ahead c.kind-kind.result (length (map place_shown c.args.places.now)) (length c.args.rules.now) c.read_title.new.lines ≡ rules_ahead g.R.RuleRow.sheets (length c.args.rules.now) (named c.new-names.result) c.fill_places.new.lines
rules-at g c few =
    (c.in_ok-place_count.ensures (length c.args.rules.now)).0
    ∙ ap₂ (λ k ps. rules_ahead k (length c.args.rules.now) ps c.fill_places.new.lines) c.kind-kind.ensures (sym (names_at g c few))

-- the table of places
table_at : (g : Over) (c : After-fill_rules g) → c.in_ok-place_count.place_count ≤ length c.fill_places.new.places → c.in_ok-place_count.place_count ≤ 254 → map place_shown c.fill_places.new.places ≡ laid (named c.new-names.result) (map place_shown c.args.places.now)
table_at g c room few =
    let xs = map place_shown c.fill_places.new.places in
    laid_first xs (map place_shown c.args.places.now) c.in_ok-place_count.place_count (simp length-map room) (c.in_ok-place_count.ensures (length c.args.rules.now)).2
    ∙ ap (λ ps. laid ps (map place_shown c.args.places.now)) (sym (names_at g c few))

-- how many places were read
count_at : (g : Over) (c : After-fill_rules g) → c.in_ok-place_count.place_count ≤ length c.fill_places.new.places → c.in_ok-place_count.place_count ≤ 254 → c.in_ok-place_count.place_count ≡ length (named c.new-names.result)
count_at g c room few = sym (ap length (names_at g c few) ∙ length-take-le c.in_ok-place_count.place_count (map place_shown c.fill_places.new.places) (simp length-map room))

pub returns-in_err-rule_count : goal.returns-in_err-rule_count
returns-in_err-rule_count g c =
    let at = goal.at.returns-in_err-rule_count g c in
    let d = at.After-fill_rules in
    let few = few-at g at.In_ok-place_count in
    let p = err_from_is_err_and c.from_residual-in_err-rule_count.result c.from_residual-in_err-rule_count.ensures.1 in
    let all = game_read g.R.RuleRow.sheets (length c.args.places.now) (length c.args.rules.now) c.args.sheet.now in
    let b = rules_ahead g.R.RuleRow.sheets (length c.args.rules.now) (named c.new-names.result) c.fill_places.new.lines in
    subst (λ r. Filled all r (map place_shown c.args.places.now) (map g.R.RuleRow.holds c.args.rules.now) (map place_shown c.fill_places.new.places) (map g.R.RuleRow.holds c.fill_rules.new.rules)) (sym (p.1 ∙ ap Err p.2))
    (filled_rules all (places_ahead c.kind-kind.result (length (map place_shown c.args.places.now)) (length c.args.rules.now) c.read_title.new.lines) b (named c.new-names.result) _ _ _ _ (begun-at g at.In_ok-read_title) (rules-at g d few.1) (rules_places g.R.RuleRow.sheets (rule_room (length c.args.rules.now)) (named c.new-names.result) c.fill_places.new.lines.read [] (lines_left c.fill_places.new.lines)) (table_at g d few.0 few.1) c.in_err-rule_count.ensures.rules _ (told_fault (length b.rules) b.fault _ c.in_err-rule_count.ensures.answer))

pub returns-then-place_count-eq0 : goal.returns-then-place_count-eq0
returns-then-place_count-eq0 g c =
    let at = goal.at.returns-then-place_count-eq0 g c in
    let d = at.After-fill_rules in
    let few = few-at g at.In_ok-place_count in
    let all = game_read g.R.RuleRow.sheets (length c.args.places.now) (length c.args.rules.now) c.args.sheet.now in
    let b = rules_ahead g.R.RuleRow.sheets (length c.args.rules.now) (named c.new-names.result) c.fill_places.new.lines in
    let t = told_none (length b.rules) _ b.fault c.in_ok-rule_count.ensures.answer in
    let none = names_at g d few.1 ∙ ap (λ n. take n (map place_shown c.fill_places.new.places)) c.if-place_count-eq0.true in
    filled_wanting all (places_ahead c.kind-kind.result (length (map place_shown c.args.places.now)) (length c.args.rules.now) c.read_title.new.lines) b (named c.new-names.result) _ _ _ _ (begun-at g at.In_ok-read_title) (rules-at g d few.1) (rules_places g.R.RuleRow.sheets (rule_room (length c.args.rules.now)) (named c.new-names.result) c.fill_places.new.lines.read [] (lines_left c.fill_places.new.lines)) (table_at g d few.0 few.1) c.in_ok-rule_count.ensures.rules _ t.0 none (c.read.ensures ∙ c.in_ok-rule_count.ensures.read)

pub returns : goal.returns
returns g c =
    let at = goal.at.returns g c in
    let d = at.After-fill_rules in
    let few = few-at g at.In_ok-place_count in
    let all = game_read g.R.RuleRow.sheets (length c.args.places.now) (length c.args.rules.now) c.args.sheet.now in
    let b = rules_ahead g.R.RuleRow.sheets (length c.args.rules.now) (named c.new-names.result) c.fill_places.new.lines in
    let t = told_none (length b.rules) _ b.fault c.in_ok-rule_count.ensures.answer in
    let count = count_at g d few.0 few.1 in
    filled_all all (places_ahead c.kind-kind.result (length (map place_shown c.args.places.now)) (length c.args.rules.now) c.read_title.new.lines) b (named c.new-names.result) _ _ _ _ (begun-at g at.In_ok-read_title) (rules-at g d few.1) (rules_places g.R.RuleRow.sheets (rule_room (length c.args.rules.now)) (named c.new-names.result) c.fill_places.new.lines.read [] (lines_left c.fill_places.new.lines)) (table_at g d few.0 few.1) c.in_ok-rule_count.ensures.rules _ _ t.0 (omega (arith, c.if-place_count-eq0.false, count)) count t.1
