-- A sheet is read without a fault exactly if it is places and rules written out. Assumes what holds of one line.
use Rattle.std.proofs.Common.{◌≡◌, ℕ, ◌+◌, ◌<◌, ◌≤◌, Bool, true, false, cond, ◌↔◌, List, [], ◌∷◌, ◌++◌, map, length, None, Ok, Err, Result, sym, refl, ap, ◌∙◌, subst, arith}
use Rattle.std.proofs.lemmas.List.{append-nil, append_assoc, length-append, length_push}
use Rattle.std.proofs.lemmas.Bool.{cond-true, cond-false, le-ltb, and_parts, and_from}
use Rattle.std.specs.List.{AllByRecursion}
use Rattle.text.specs.Lines.{Lined}
use Rattle.sheets.specs.declared.fault.SheetFault.{SheetFault}
use Rattle.sheets.specs.declared.title.SpanKind.{SpanKind}
use Rattle.records.specs.declared.kind.SheetKind.{SheetKind}
use Rattle.records.specs.declared.kind.SheetKind.TheVariants.{Game, Expansion}
use Rattle.records.specs.Places.{Place, place_line}
use Rattle.records.specs.Rules.{Rule, Row}
use Rattle.records.specs.RuleLines.{rule_line_of}
use Rattle.records.specs.Titles.{title_checked}
use Rattle.readings.specs.Lines.{Line, whole, long, unended, lines_of}
use Rattle.readings.specs.Readings.{Reading, rule_of, rules_from, is_place_line, place_of, places_from, place_some, titled, place_room, rule_room, sized, game_read, expansion_read}
use Rattle.readings.specs.Written.{title_written, place_written, rule_written, game_lines, expansion_lines}
use Rattle.readings.specs.Proper.{is_place, are_places}
use Rattle.readings.specs.Laws.{row_for, Reads, GameOf, ExpansionOf}
use Rattle.readings.proofs.Spelled.{title_from, title_to, place_from, place_to, rule_from, rule_to}
use Rattle.readings.proofs.Lining.{lined_from, lined_to}
use Rattle.readings.proofs.Unfaulted.{ProperRule, AllRead, RuleLines, PlaceLines, rules_after, places_after, title_then, fits_from, fits_to, sized_from, some_place_from, some_place_to, same_reads}

-- a line that is read as a rule is whole and is the rule's, and there is room for the rule
rule_of_from : (kind : SpanKind) (room : ℕ) (ps : List Place) (line : ℕ) (rows : List Row) (l : Line) (row : Row) → rule_of kind room ps line rows l ≡ Ok row
    → (length rows < room) × (rule : Rule) × (row ≡ row_for (length ps) rule) × ProperRule kind ps rule × (l ≡ whole (rule_written ps rule))
rule_of_from kind room ps line rows (whole bytes) row e =
    let f = fits_from (rule_line_of kind ps line bytes) room (length rows) line row e in
    let r = rule_from kind ps line bytes row f.1 in
    (f.0, r.0, r.1, r.2, ap whole r.3)
rule_of_from kind room ps line rows long row e = let z : ◌≡◌ {A = ℕ} 0 1 = cc in absurd (omega arith)
rule_of_from kind room ps line rows unended row e = let z : ◌≡◌ {A = ℕ} 0 1 = cc in absurd (omega arith)

-- lines that are read without a fault are those of rules
rules_from_lem : (kind : SpanKind) (room : ℕ) (ps : List Place) (n : ℕ) (rows : List Row) (lines : List Line) → length rows ≤ room → (rules_from kind room ps n rows lines).fault ≡ None
    → RuleLines kind room ps rows lines (rules_from kind room ps n rows lines)
rules_from_lem kind room ps n rows [] h e = record {
  stated = [];
  proper = tt;
  written = refl;
  few = omega arith;
  reads = (refl, sym (append-nil rows), refl);
}
rules_from_lem kind room ps n rows (l ∷ ls) h e = go (rule_of kind room ps (n + 1) rows l) refl (λ row. rules_from_lem kind room ps (n + 1) (rows ++ (row ∷ [])) ls) e
  where
    go : (r : Result Row SheetFault) → rule_of kind room ps (n + 1) rows l ≡ r
        → ((row : Row) → let on = rules_from kind room ps (n + 1) (rows ++ (row ∷ [])) ls in length (rows ++ (row ∷ [])) ≤ room → on.fault ≡ None → RuleLines kind room ps (rows ++ (row ∷ [])) ls on)
        → (rules_after kind room ps n rows ls r).fault ≡ None → RuleLines kind room ps rows (l ∷ ls) (rules_after kind room ps n rows ls r)
    go (Err f) is next e = let z : ◌≡◌ {A = ℕ} 0 1 = cc in absurd (omega arith)
    go (Ok row) is next e =
        let one = rule_of_from kind room ps (n + 1) rows l row is in
        let rest = next row (omega (arith, length_push rows row, one.0)) e in
        record {
          stated = one.1 ∷ rest.stated;
          proper = (one.3, rest.proper);
          written = cc (one.4, rest.written);
          few = omega (arith, length_push rows row, rest.few);
          reads = (rest.reads.0, rest.reads.1 ∙ append_assoc rows (row ∷ []) _ ∙ ap (λ r. rows ++ (r ∷ map (row_for (length ps)) rest.stated)) one.2, rest.reads.2);
        }

-- the lines of rules are read without a fault
rules_to : (kind : SpanKind) (room : ℕ) (ps : List Place) (n : ℕ) (rows : List Row) (rules : List Rule) → are_places kind [] ps ≡ true → AllByRecursion (ProperRule kind ps) rules → length rows + length rules ≤ room
    → AllRead (rules_from kind room ps n rows (map whole (map (rule_written ps) rules))) ps (rows ++ map (row_for (length ps)) rules)
rules_to kind room ps n rows [] places proper h = (refl, sym (append-nil rows), refl)
rules_to kind room ps n rows (rule ∷ rules) places proper h =
    let row = row_for (length ps) rule in
    let ls = map whole (map (rule_written ps) rules) in
    let one = fits_to (rule_line_of kind ps (n + 1) (rule_written ps rule)) room (length rows) (n + 1) row (rule_to kind ps (n + 1) rule places proper.0).1 (omega arith) in
    let rest = rules_to kind room ps (n + 1) (rows ++ (row ∷ [])) rules places proper.1 (omega (arith, length_push rows row)) in
    subst (λ r. AllRead (rules_after kind room ps n rows ls r) ps (rows ++ (row ∷ map (row_for (length ps)) rules))) (sym one)
    (rest.0, rest.1 ∙ append_assoc rows (row ∷ []) _, rest.2)

-- a line that is read as a place is whole and is the place's, and there is room for the place
place_of_from : (kind : SpanKind) (room line : ℕ) (ps : List Place) (l : Line) (p : Place) → is_place_line l ≡ true → place_of kind room line ps l ≡ Ok p
    → (length ps < room) × (is_place kind ps p ≡ true) × (l ≡ whole (place_written p))
place_of_from kind room line ps (whole bytes) p word e =
    let f = fits_from (place_line kind ps line bytes) room (length ps) line p e in
    let r = place_from kind ps line bytes p word f.1 in
    (f.0, r.0, ap whole r.1)
place_of_from kind room line ps long p word e = let z : ◌≡◌ {A = ℕ} 0 1 = cc in absurd (omega arith)
place_of_from kind room line ps unended p word e = let z : ◌≡◌ {A = ℕ} 0 1 = cc in absurd (omega arith)

-- no place follows those given
places_end : (kind : SpanKind) (places rules n : ℕ) (ps : List Place) (lines : List Line) → length ps ≤ places → (rules_from kind rules ps n [] lines).fault ≡ None
    → PlaceLines kind places rules ps lines (rules_from kind rules ps n [] lines)
places_end kind places rules n ps lines h e =
    let r = rules_from_lem kind rules ps n [] lines (omega arith) e in
    record {
      more = [];
      all = ps;
      stated = r.stated;
      is = sym (append-nil ps);
      proper_places = refl;
      proper_rules = r.proper;
      written = r.written;
      few_places = h;
      few_rules = omega (arith, r.few);
      reads = r.reads;
    }

-- lines that are read without a fault are those of places and then those of rules
places_from_lem : (kind : SpanKind) (places rules n : ℕ) (ps : List Place) (lines : List Line) → length ps ≤ places → (places_from kind places rules n ps lines).fault ≡ None
    → PlaceLines kind places rules ps lines (places_from kind places rules n ps lines)
places_from_lem kind places rules n ps [] h e = places_end kind places rules n ps [] h e
places_from_lem kind places rules n ps (l ∷ ls) h e = go (is_place_line l) refl (one (place_of kind places (n + 1) ps l) refl (λ p. places_from_lem kind places rules (n + 1) (ps ++ (p ∷ [])) ls)) e
  where
    one : (r : Result Place SheetFault) → place_of kind places (n + 1) ps l ≡ r
        → ((p : Place) → let on = places_from kind places rules (n + 1) (ps ++ (p ∷ [])) ls in length (ps ++ (p ∷ [])) ≤ places → on.fault ≡ None → PlaceLines kind places rules (ps ++ (p ∷ [])) ls on)
        → is_place_line l ≡ true → (places_after kind places rules n ps ls r).fault ≡ None → PlaceLines kind places rules ps (l ∷ ls) (places_after kind places rules n ps ls r)
    one (Err f) is next word e = let z : ◌≡◌ {A = ℕ} 0 1 = cc in absurd (omega arith)
    one (Ok p) is next word e =
        let first = place_of_from kind places (n + 1) ps l p word is in
        let rest = next p (omega (arith, length_push ps p, first.0)) e in
        record {
          more = p ∷ rest.more;
          all = rest.all;
          stated = rest.stated;
          is = rest.is ∙ append_assoc ps (p ∷ []) rest.more;
          proper_places = and_from _ _ first.1 rest.proper_places;
          proper_rules = rest.proper_rules;
          written = cc (first.2, rest.written);
          few_places = rest.few_places;
          few_rules = rest.few_rules;
          reads = rest.reads;
        }

    go : (t : Bool) → is_place_line l ≡ t → let here = places_after kind places rules n ps ls (place_of kind places (n + 1) ps l) in let there = rules_from kind rules ps n [] (l ∷ ls) in
        (is_place_line l ≡ true → here.fault ≡ None → PlaceLines kind places rules ps (l ∷ ls) here) → (cond t here there).fault ≡ None → PlaceLines kind places rules ps (l ∷ ls) (cond t here there)
    go true word first e = first word e
    go false word first e = places_end kind places rules n ps (l ∷ ls) h e

-- the lines of places and then of rules are read without a fault
places_to : (kind : SpanKind) (places rules n : ℕ) (ps more all : List Place) (rs : List Rule) → all ≡ ps ++ more → are_places kind ps more ≡ true → are_places kind [] all ≡ true
    → AllByRecursion (ProperRule kind all) rs → length all ≤ places → length rs ≤ rules
    → Reads (places_from kind places rules n ps (map whole (map place_written more ++ map (rule_written all) rs))) all rs
places_to kind places rules n ps [] all rs is after proper proper_rules few_places few_rules =
    subst (λ (qs : List Place). Reads (places_from kind places rules n qs (map whole (map (rule_written all) rs))) all rs) (is ∙ append-nil ps)
    (go rs proper_rules (rules_to kind rules all n [] rs proper proper_rules (omega arith)))
  where
    go : (rs : List Rule) → AllByRecursion (ProperRule kind all) rs → let lines = map whole (map (rule_written all) rs) in Reads (rules_from kind rules all n [] lines) all rs → Reads (places_from kind places rules n all lines) all rs
    go [] h r = r
    go (rule ∷ rs) h r = subst (λ reading. Reads reading all (rule ∷ rs)) (sym (cond-false _ _ _ (rule_to kind all n rule proper h.0).0)) r
places_to kind places rules n ps (p ∷ more) all rs is after proper proper_rules few_places few_rules =
    let h = and_parts (is_place kind ps p) (are_places kind (ps ++ (p ∷ [])) more) after in
    let line = whole (place_written p) in
    let ls = map whole (map place_written more ++ map (rule_written all) rs) in
    let word = (place_to kind ps (n + 1) p h.0).0 in
    let one = fits_to (place_line kind ps (n + 1) (place_written p)) places (length ps) (n + 1) p (place_to kind ps (n + 1) p h.0).1 (omega (arith, ap length is, length-append ps (p ∷ more))) in
    subst (λ reading. Reads reading all rs) (sym (cond-true _ (places_after kind places rules n ps ls (place_of kind places (n + 1) ps line)) (rules_from kind rules ps n [] (line ∷ ls)) word))
    (subst (λ r. Reads (places_after kind places rules n ps ls r) all rs) (sym one)
    (places_to kind places rules (n + 1) (ps ++ (p ∷ [])) more all rs (is ∙ sym (append_assoc ps (p ∷ []) more)) h.1 proper proper_rules few_places few_rules))

-- lines that are read without a fault begin with the title
titled_from : (title : SheetKind) (kind : SpanKind) (ps : List Place) (lines : List Line) (next : List Line → Reading) → (titled title kind ps lines next).fault ≡ None
    → (ls : List Line) × (lines ≡ whole (title_written title kind) ∷ ls) × (titled title kind ps lines next ≡ next ls)
titled_from title kind ps [] next e = let z : ◌≡◌ {A = ℕ} 0 1 = cc in absurd (omega arith)
titled_from title kind ps (long ∷ ls) next e = let z : ◌≡◌ {A = ℕ} 0 1 = cc in absurd (omega arith)
titled_from title kind ps (unended ∷ ls) next e = let z : ◌≡◌ {A = ℕ} 0 1 = cc in absurd (omega arith)
titled_from title kind ps (whole bytes ∷ ls) next e = go (title_checked title kind bytes) refl e
  where
    go : (r : Result (Unit {0}) SheetFault) → title_checked title kind bytes ≡ r → (title_then ps ls next r).fault ≡ None
        → (ms : List Line) × (whole bytes ∷ ls ≡ whole (title_written title kind) ∷ ms) × (title_then ps ls next r ≡ next ms)
    go (Err f) is e = let z : ◌≡◌ {A = ℕ} 0 1 = cc in absurd (omega arith)
    go (Ok t) is e = (ls, ap (λ (bs : List ℕ). whole bs ∷ ls) (title_from title kind bytes is), refl)

module _ (title : SheetKind) (kind : SpanKind) (ps : List Place) (sheet : List ℕ) (next : List Line → Reading) where
  -- what is read of a sheet with the title
  abbrev read_on : Reading
  read_on = sized ps sheet (λ ls. titled title kind ps ls next)

  -- a sheet that is read without a fault is not too big, and is the title and the lines that are read on
  sheet_from : read_on.fault ≡ None → (length sheet ≤ 65535) × (ls : List Line) × (lines_of sheet ≡ whole (title_written title kind) ∷ ls) × (read_on ≡ next ls)
  sheet_from e =
      let size = sized_from ps sheet (λ ls. titled title kind ps ls next) e in
      let t = titled_from title kind ps (lines_of sheet) next (ap (λ (r : Reading). r.fault) (sym size.1) ∙ e) in
      (size.0, t.0, t.1, size.1 ∙ t.2)

  -- the lines behind the title are read on
  sheet_to : (lines : List (List ℕ)) → Lined sheet (title_written title kind ∷ lines) → read_on ≡ next (map whole lines)
  sheet_to lines l =
      cond-false _ _ (titled title kind ps (lines_of sheet) next) (le-ltb 65535 (length sheet) l.small)
      ∙ ap (λ (ls : List Line). titled title kind ps ls next) (lined_to sheet (title_written title kind ∷ lines) l)
      ∙ ap (title_then ps (map whole lines) next) (title_to title kind)

module _ (kind : SpanKind) (places rules : ℕ) (sheet : List ℕ) where
  abbrev game : Reading
  game = game_read kind places rules sheet

  abbrev game_on : List Line → Reading
  game_on ls = places_from kind (place_room places) (rule_room rules) 1 [] ls

  -- a game that is read without a fault, and what it is
  game_from : game.fault ≡ None → (ps : List Place) × (rs : List Rule) × Reads game ps rs × GameOf kind places rules sheet ps rs
  game_from e =
      let on = sheet_from Game kind [] sheet (λ ls. place_some (game_on ls)) e in
      let some = some_place_from (game_on on.1) (ap (λ (r : Reading). r.fault) (sym on.3) ∙ e) in
      let lines = places_from_lem kind (place_room places) (rule_room rules) 1 [] on.1 (omega arith) some.0 in
      let ps = lines.all in
      let rs = lines.stated in
      let written : on.1 ≡ map whole (map place_written ps ++ map (rule_written ps) rs) = lines.written ∙ ap (λ (qs : List Place). map whole (map place_written qs ++ map (rule_written ps) rs)) (sym lines.is) in (
        ps,
        rs,
        subst (λ r. Reads r ps rs) (sym (on.3 ∙ some.2)) lines.reads,
        record {
          written = lined_from sheet (game_lines kind ps rs) on.0 (on.2 ∙ ap (λ (ls : List Line). whole (title_written Game kind) ∷ ls) written);
          some_place = subst (λ (qs : List Place). 1 ≤ length qs) lines.reads.0 some.1;
          few_places = lines.few_places;
          proper_places = subst (λ (qs : List Place). are_places kind [] qs ≡ true) (sym lines.is) lines.proper_places;
          few_rules = lines.few_rules;
          proper_rules = lines.proper_rules;
        },
      )

  -- the parts of the law of games that hold of sheets without a fault
  pub game_reads : (ps : List Place) (rs : List Rule) → Reads game ps rs ↔ GameOf kind places rules sheet ps rs
  game_reads ps rs = (from, to)
    where
      from : Reads game ps rs → GameOf kind places rules sheet ps rs
      from r =
          let g = game_from r.2 in
          let same = same_reads game g.0 ps g.1 rs g.2 r in
          subst (λ (qs : List Place). GameOf kind places rules sheet qs rs) same.0 (subst (λ (ss : List Rule). GameOf kind places rules sheet g.0 ss) same.1 g.3)

      to : GameOf kind places rules sheet ps rs → Reads game ps rs
      to g =
          let lines = map place_written ps ++ map (rule_written ps) rs in
          let on = sheet_to Game kind [] sheet (λ ls. place_some (game_on ls)) lines g.written in
          let r = places_to kind (place_room places) (rule_room rules) 1 [] ps ps rs refl g.proper_places g.proper_places g.proper_rules g.few_places g.few_rules in
          let some = some_place_to (game_on (map whole lines)) r.2 (subst (λ (qs : List Place). 1 ≤ length qs) (sym r.0) g.some_place) in
          subst (λ reading. Reads reading ps rs) (sym (on ∙ some)) r

  pub game_unfaulted : game.fault ≡ None → (ps : List Place) × (rs : List Rule) × Reads game ps rs
  game_unfaulted e = let g = game_from e in (g.0, g.1, g.2)

module _ (kind : SpanKind) (ps : List Place) (rules : ℕ) (sheet : List ℕ) where
  abbrev expansion : Reading
  expansion = expansion_read kind ps rules sheet

  abbrev expansion_on : List Line → Reading
  expansion_on ls = rules_from kind (rule_room rules) ps 1 [] ls

  -- an expansion that is read without a fault, and what it is
  expansion_from : expansion.fault ≡ None → (rs : List Rule) × Reads expansion ps rs × ExpansionOf kind ps rules sheet rs
  expansion_from e =
      let on = sheet_from Expansion kind ps sheet expansion_on e in
      let lines = rules_from_lem kind (rule_room rules) ps 1 [] on.1 (omega arith) (ap (λ (r : Reading). r.fault) (sym on.3) ∙ e) in
      let rs = lines.stated in (
        rs,
        subst (λ r. Reads r ps rs) (sym on.3) lines.reads,
        record {
          written = lined_from sheet (expansion_lines kind ps rs) on.0 (on.2 ∙ ap (λ (ls : List Line). whole (title_written Expansion kind) ∷ ls) lines.written);
          few_rules = omega (arith, lines.few);
          proper_rules = lines.proper;
        },
      )

  -- the same parts of the law of expansions
  pub expansion_reads : are_places kind [] ps ≡ true → (rs : List Rule) → Reads expansion ps rs ↔ ExpansionOf kind ps rules sheet rs
  expansion_reads places rs = (from, to)
    where
      from : Reads expansion ps rs → ExpansionOf kind ps rules sheet rs
      from r =
          let x = expansion_from r.2 in
          subst (λ (ss : List Rule). ExpansionOf kind ps rules sheet ss) (same_reads expansion ps ps x.0 rs x.1 r).1 x.2

      to : ExpansionOf kind ps rules sheet rs → Reads expansion ps rs
      to x =
          let on = sheet_to Expansion kind ps sheet expansion_on (map (rule_written ps) rs) x.written in
          subst (λ reading. Reads reading ps rs) (sym on) (rules_to kind (rule_room rules) ps 1 [] rs places x.proper_rules (omega (arith, x.few_rules)))

  pub expansion_unfaulted : expansion.fault ≡ None → (rs : List Rule) × Reads expansion ps rs
  expansion_unfaulted e = let x = expansion_from e in (x.0, x.1)
