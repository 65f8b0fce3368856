-- The fault of a sheet is at the first line that breaks a check. Assumes nothing.
use Rattle.std.proofs.Common.{◌≡◌, ℕ, suc, ◌+◌, ◌≤◌, Bool, true, false, ◌⊎◌, List, [], ◌∷◌, ◌++◌, length, Some, None, Ok, Err, Option, Result, sym, refl, ap, ◌∙◌, subst, inl, inr, arith}
use Rattle.std.proofs.lemmas.List.{length_push}
use Rattle.text.specs.declared.fault.TextFault.TheVariants.{Unended, TooLong}
use Rattle.sheets.specs.declared.fault.SheetFault.{SheetFault}
use Rattle.sheets.specs.declared.fault.SheetFault.TheVariants as fault
use Rattle.sheets.specs.declared.title.SpanKind.{SpanKind}
use Rattle.records.specs.declared.kind.SheetKind.{SheetKind}
use Rattle.records.specs.declared.kind.SheetKind.TheVariants.{Game, Expansion}
use Rattle.sheets.specs.Faults.{sheet_told}
use Rattle.records.specs.Places.{Place}
use Rattle.records.specs.Rules.{Row}
use Rattle.records.specs.RuleLines.{rule_line_of}
use Rattle.records.specs.Titles.{title_checked}
use Rattle.records.proofs.Going.{then_ok}
use Rattle.readings.specs.Laws.{Unfaulted, First, no_line, no_place, in_line}
use Rattle.readings.specs.Lines.{Line, whole, long, unended}
use Rattle.readings.specs.Readings.{Reading, stopped, fits, text_fault, rule_of, rules_from, is_place_line, place_of, places_from, place_some, titled, place_room, rule_room, game_of, expansion_of}
use Rattle.readings.proofs.Telling.{rule_tells, place_tells, title_tells}
use Rattle.readings.proofs.Using.{rule_line_place}

abbrev places_in : Reading → List Place
places_in r = r.places

abbrev rules_in : Reading → List Row
rules_in r = r.rules

abbrev fault_in : Reading → Option SheetFault
fault_in r = r.fault

-- where lines that follow n others are read to a fault: it lies in one of them
record Stops (read : List Line → Reading) (n : ℕ) (lines : List Line) (fault : SheetFault) : Type 0 where
  before : List Line
  line : Line
  after : List Line
  split : lines ≡ before ++ (line ∷ after)
  told : (sheet_told fault).line ≡ n + suc (length before)
  clean : Unfaulted (read before).fault
  places : (more : List Line) → (read (before ++ (line ∷ more))).places ≡ (read before).places
  rules : (more : List Line) → (read (before ++ (line ∷ more))).rules ≡ (read before).rules
  always : (more : List Line) → (read (before ++ (line ∷ more))).fault ≡ Some fault

-- in the first line
stops_here : (read : List Line → Reading) (n : ℕ) (l : Line) (ls : List Line) (f : SheetFault)
    → (read []).fault ≡ None → ((xs : List Line) → read (l ∷ xs) ≡ stopped (read []).places (read []).rules n f)
    → (sheet_told f).line ≡ n + 1 → Stops read n (l ∷ ls) f
stops_here read n l ls f none stop tells = record {
  before = [];
  line = l;
  after = ls;
  split = refl;
  told = tells;
  clean = inl none;
  places = λ more. ap places_in (stop more);
  rules = λ more. ap rules_in (stop more);
  always = λ more. ap fault_in (stop more);
}

-- or in a later line, where the first is read and the rest read on
stops_later : (read next : List Line → Reading) (n : ℕ) (l : Line) (ls : List Line) (f : SheetFault)
    → ((xs : List Line) → read (l ∷ xs) ≡ next xs) → Stops next (n + 1) ls f → Stops read n (l ∷ ls) f
stops_later read next n l ls f on s = record {
  before = l ∷ s.before;
  line = s.line;
  after = s.after;
  split = ap (λ xs. l ∷ xs) s.split;
  told = s.told ∙ omega arith;
  clean = subst (λ (r : Reading). Unfaulted r.fault) (sym (on s.before)) s.clean;
  places = λ more. ap places_in (on (s.before ++ (s.line ∷ more))) ∙ s.places more ∙ sym (ap places_in (on s.before));
  rules = λ more. ap rules_in (on (s.before ++ (s.line ∷ more))) ∙ s.rules more ∙ sym (ap rules_in (on s.before));
  always = λ more. ap fault_in (on (s.before ++ (s.line ∷ more))) ∙ s.always more;
}

-- rules after n lines
module _ (kind : SpanKind) (room : ℕ) (ps : List Place) where
  abbrev rules_at : ℕ → List Row → List Line → Reading
  rules_at n rs = rules_from kind room ps n rs

  -- a rule is read and the lines after it are read on, or its fault is the end
  abbrev onward : ℕ → List Row → List Line → Result Row SheetFault → Reading
  onward n rs ls (Ok r) = rules_at (n + 1) (rs ++ (r ∷ [])) ls
  onward n rs ls (Err f) = stopped ps rs n f

  rules_more : (n : ℕ) (rs : List Row) (l : Line) (r : Row) → rule_of kind room ps (n + 1) rs l ≡ Ok r → (ls : List Line) → rules_at n rs (l ∷ ls) ≡ rules_at (n + 1) (rs ++ (r ∷ [])) ls
  rules_more n rs l r e ls = ap (onward n rs ls) e

  rules_end : (n : ℕ) (rs : List Row) (l : Line) (f : SheetFault) → rule_of kind room ps (n + 1) rs l ≡ Err f → (ls : List Line) → rules_at n rs (l ∷ ls) ≡ stopped ps rs n f
  rules_end n rs l f e ls = ap (onward n rs ls) e

  -- one more line, in what reads a rule there
  rules_step : (read : List Line → Reading) (n : ℕ) (rs : List Row) (l : Line) (ls : List Line) (f : SheetFault)
      → read [] ≡ rules_at n rs [] → ((xs : List Line) → read (l ∷ xs) ≡ rules_at n rs (l ∷ xs))
      → ((r : Row) → (rules_at (n + 1) (rs ++ (r ∷ [])) ls).fault ≡ Some f → Stops (rules_at (n + 1) (rs ++ (r ∷ []))) (n + 1) ls f)
      → (rules_at n rs (l ∷ ls)).fault ≡ Some f → Stops read n (l ∷ ls) f
  rules_step read n rs l ls f none on later e = go (rule_of kind room ps (n + 1) rs l) refl
    where
      go : (r : Result Row SheetFault) → rule_of kind room ps (n + 1) rs l ≡ r → Stops read n (l ∷ ls) f
      go (Ok r) is = stops_later read (rules_at (n + 1) (rs ++ (r ∷ []))) n l ls f (λ xs. on xs ∙ rules_more n rs l r is xs) (later r (ap fault_in (sym (rules_more n rs l r is ls)) ∙ e))
      go (Err g) is =
          let same : g ≡ f = cc (ap fault_in (rules_end n rs l g is ls)) in
          stops_here read n l ls f (ap fault_in none)
          (λ xs. on xs ∙ rules_end n rs l f (is ∙ ap Err same) xs ∙ ap (λ (x : Reading). stopped x.places x.rules n f) (sym none))
          ((rule_tells kind room ps (n + 1) rs l).tells f (is ∙ ap Err same))

  rules_stop : (n : ℕ) (rs : List Row) (lines : List Line) (f : SheetFault) → (rules_at n rs lines).fault ≡ Some f → Stops (rules_at n rs) n lines f
  rules_stop n rs [] f e = let z : ◌≡◌ {A = ℕ} 0 1 = cc in absurd (omega arith)
  rules_stop n rs (l ∷ ls) f e = rules_step (rules_at n rs) n rs l ls f refl (λ xs. refl) (λ r. rules_stop (n + 1) (rs ++ (r ∷ [])) ls f) e

  -- rules leave the places as they are, and there is none without a place
  rules_places : (n : ℕ) (rs : List Row) (lines : List Line) → (rules_at n rs lines).places ≡ ps
  rules_places n rs [] = refl
  rules_places n rs (l ∷ ls) = go (rule_of kind room ps (n + 1) rs l) (λ r. rules_places (n + 1) (rs ++ (r ∷ [])) ls)
    where
      go : (r : Result Row SheetFault) → ((r : Row) → (rules_at (n + 1) (rs ++ (r ∷ [])) ls).places ≡ ps) → (onward n rs ls r).places ≡ ps
      go (Ok r) later = later r
      go (Err f) later = refl

  rules_want : (n : ℕ) (rs : List Row) (l : Line) (ls : List Line) → (rules_at n rs (l ∷ ls)).fault ≡ None → 1 ≤ length ps
  rules_want n rs l ls e = go (rule_of kind room ps (n + 1) rs l) (ruled l) e
    where
      ruled : (l : Line) (r : Row) → rule_of kind room ps (n + 1) rs l ≡ Ok r → 1 ≤ length ps
      ruled (whole bytes) r e =
          let p = then_ok (rule_line_of kind ps (n + 1) bytes) (fits room (length rs) (n + 1)) r e in
          rule_line_place ps (n + 1) kind bytes p.value p.read
      ruled long r e = let z : ◌≡◌ {A = ℕ} 0 1 = cc in absurd (omega arith)
      ruled unended r e = let z : ◌≡◌ {A = ℕ} 0 1 = cc in absurd (omega arith)

      go : (r : Result Row SheetFault) → ((row : Row) → r ≡ Ok row → 1 ≤ length ps) → (onward n rs ls r).fault ≡ None → 1 ≤ length ps
      go (Ok row) some e = some row refl
      go (Err f) some e = let z : ◌≡◌ {A = ℕ} 0 1 = cc in absurd (omega arith)

-- places after n lines, and then rules
module _ (kind : SpanKind) (room rules : ℕ) where
  abbrev places_at : ℕ → List Place → List Line → Reading
  places_at n ps = places_from kind room rules n ps

  places_more : (n : ℕ) (ps : List Place) (l : Line) (p : Place) → is_place_line l ≡ true → place_of kind room (n + 1) ps l ≡ Ok p → (ls : List Line) → places_at n ps (l ∷ ls) ≡ places_at (n + 1) (ps ++ (p ∷ [])) ls
  places_more n ps l p t e ls = rw (t, e)

  places_end : (n : ℕ) (ps : List Place) (l : Line) (f : SheetFault) → is_place_line l ≡ true → place_of kind room (n + 1) ps l ≡ Err f → (ls : List Line) → places_at n ps (l ∷ ls) ≡ stopped ps [] n f
  places_end n ps l f t e ls = rw (t, e)

  places_past : (n : ℕ) (ps : List Place) (l : Line) → is_place_line l ≡ false → (ls : List Line) → places_at n ps (l ∷ ls) ≡ rules_from kind rules ps n [] (l ∷ ls)
  places_past n ps l t ls = rw t

  places_stop : (n : ℕ) (ps : List Place) (lines : List Line) (f : SheetFault) → (places_at n ps lines).fault ≡ Some f → Stops (places_at n ps) n lines f
  places_stop n ps [] f e = let z : ◌≡◌ {A = ℕ} 0 1 = cc in absurd (omega arith)
  places_stop n ps (l ∷ ls) f e = go (is_place_line l) refl (λ p. places_stop (n + 1) (ps ++ (p ∷ [])) ls f)
    where
      Later : Type 0
      Later = (p : Place) → (places_at (n + 1) (ps ++ (p ∷ [])) ls).fault ≡ Some f → Stops (places_at (n + 1) (ps ++ (p ∷ []))) (n + 1) ls f

      placed : is_place_line l ≡ true → Later → (r : Result Place SheetFault) → place_of kind room (n + 1) ps l ≡ r → Stops (places_at n ps) n (l ∷ ls) f
      placed t later (Ok p) is = stops_later (places_at n ps) (places_at (n + 1) (ps ++ (p ∷ []))) n l ls f (places_more n ps l p t is) (later p (ap fault_in (sym (places_more n ps l p t is ls)) ∙ e))
      placed t later (Err g) is =
          let same : g ≡ f = cc (ap fault_in (places_end n ps l g t is ls)) in
          stops_here (places_at n ps) n l ls f refl (places_end n ps l f t (is ∙ ap Err same)) ((place_tells kind room (n + 1) ps l).tells f (is ∙ ap Err same))

      go : (t : Bool) → is_place_line l ≡ t → Later → Stops (places_at n ps) n (l ∷ ls) f
      go true t later = placed t later (place_of kind room (n + 1) ps l) refl
      go false t later = rules_step kind rules ps (places_at n ps) n [] l ls f refl (places_past n ps l t) (λ r. rules_stop kind rules ps (n + 1) (r ∷ []) ls f) (ap fault_in (sym (places_past n ps l t ls)) ∙ e)

  -- the places stay, and others come behind them
  places_stay : (n : ℕ) (ps : List Place) (lines : List Line) → length ps ≤ length (places_at n ps lines).places
  places_stay n ps [] = omega arith
  places_stay n ps (l ∷ ls) = go (is_place_line l) refl (λ p. places_stay (n + 1) (ps ++ (p ∷ [])) ls)
    where
      Later : Type 0
      Later = (p : Place) → length (ps ++ (p ∷ [])) ≤ length (places_at (n + 1) (ps ++ (p ∷ [])) ls).places

      placed : is_place_line l ≡ true → Later → (r : Result Place SheetFault) → place_of kind room (n + 1) ps l ≡ r → length ps ≤ length (places_at n ps (l ∷ ls)).places
      placed t later (Ok p) is = omega (arith, length_push ps p, later p, ap (λ (x : Reading). length x.places) (places_more n ps l p t is ls))
      placed t later (Err g) is = omega (arith, ap (λ (x : Reading). length x.places) (places_end n ps l g t is ls))

      go : (t : Bool) → is_place_line l ≡ t → Later → length ps ≤ length (places_at n ps (l ∷ ls)).places
      go true t later = placed t later (place_of kind room (n + 1) ps l) refl
      go false t later = omega (arith, ap (λ (x : Reading). length x.places) (places_past n ps l t ls), ap length (rules_places kind rules ps n [] (l ∷ ls)))

  -- lines that are read without a fault have a place, unless there is none
  places_want : (n : ℕ) (lines : List Line) → (places_at n [] lines).fault ≡ None → (places_at n [] lines).places ≡ [] → lines ≡ []
  places_want n [] e none = refl
  places_want n (l ∷ ls) e none = go (is_place_line l) refl
    where
      placed : is_place_line l ≡ true → (r : Result Place SheetFault) → place_of kind room (n + 1) [] l ≡ r → ⊥
      placed t (Ok p) is = omega (arith, places_stay (n + 1) (p ∷ []) ls, ap (λ (x : Reading). length x.places) (places_more n [] l p t is ls), ap length none)
      placed t (Err g) is = let z : ◌≡◌ {A = ℕ} 0 1 = cc (ap fault_in (places_end n [] l g t is ls)) in omega arith

      go : (t : Bool) → is_place_line l ≡ t → l ∷ ls ≡ []
      go true t = absurd (placed t (place_of kind room (n + 1) [] l) refl)
      go false t = absurd (omega (arith, rules_want kind rules [] n [] l ls (ap fault_in (sym (places_past n [] l t ls)) ∙ e)))

-- that a game wants a place changes only the fault of a reading without one
record Wanting (r : Reading) : Type 0 where
  places : (place_some r).places ≡ r.places
  rules : (place_some r).rules ≡ r.rules
  clean : Unfaulted r.fault → Unfaulted (place_some r).fault
  faulted : (f : SheetFault) → r.fault ≡ Some f → (place_some r).fault ≡ Some f
  either : (f : SheetFault) → (place_some r).fault ≡ Some f → (r.fault ≡ Some f) ⊎ ((r.fault ≡ None) × (r.places ≡ []) × (f ≡ fault.NoPlace r.lines))

wanting : (r : Reading) → Wanting r
wanting r = go r.places r.rules r.lines r.fault
  where
    go : (ps : List Place) (rs : List Row) (n : ℕ) (o : Option SheetFault) → Wanting (record { places = ps; rules = rs; lines = n; fault = o })
    go ps rs n (Some g) = record { places = refl; rules = refl; clean = λ u. u; faulted = λ f e. e; either = λ f e. inl e }
    go [] rs n None = record {
      places = refl;
      rules = refl;
      clean = λ u. inr (n, refl);
      faulted = λ f e. (let z : ◌≡◌ {A = ℕ} 0 1 = cc in absurd (omega arith));
      either = λ f e. inr (refl, refl, (let s : f ≡ fault.NoPlace n = cc in s));
    }
    go (p ∷ ps) rs n None = record { places = refl; rules = refl; clean = λ u. u; faulted = λ f e. e; either = λ f e. inl e }

-- so a fault of the lines is one of the game
stops_some : (read : List Line → Reading) (n : ℕ) (lines : List Line) (f : SheetFault) → Stops read n lines f → Stops (λ ls. place_some (read ls)) n lines f
stops_some read n lines f s = record {
  before = s.before;
  line = s.line;
  after = s.after;
  split = s.split;
  told = s.told;
  clean = (wanting (read s.before)).clean s.clean;
  places = λ more. (wanting (read (s.before ++ (s.line ∷ more)))).places ∙ s.places more ∙ sym (wanting (read s.before)).places;
  rules = λ more. (wanting (read (s.before ++ (s.line ∷ more)))).rules ∙ s.rules more ∙ sym (wanting (read s.before)).rules;
  always = λ more. (wanting (read (s.before ++ (s.line ∷ more)))).faulted f (s.always more);
}

-- what follows a title ends with a fault in one of its lines; or there is nothing, where a game wants a place
abbrev Follows : (List Line → Reading) → List Line → SheetFault → Type 0
Follows next ls f = Stops next 1 ls f ⊎ ((ls ≡ []) × (f ≡ fault.NoPlace 1) × ((next ls).places ≡ []) × ((next ls).rules ≡ []))

-- the first fault of lines that begin with a title
module _ (sheet : SheetKind) (kind : SpanKind) (ps : List Place) (next : List Line → Reading) where
  abbrev read : List Line → Reading
  read lines = titled sheet kind ps lines next

  -- the title is refused
  title_here : (l : Line) (ls : List Line) (f : SheetFault) → ((xs : List Line) → read (l ∷ xs) ≡ stopped ps [] 0 f) → (sheet_told f).line ≡ 1 → First read (l ∷ ls) f
  title_here l ls f stop tells = in_line [] l ls refl (record {
    told = tells;
    clean = λ some. absurd (some refl);
    places = ap places_in (stop ls);
    rules = ap rules_in (stop ls);
    always = λ more. ap fault_in (stop more);
  })

  -- the title is passed
  title_past : (l : Line) (ls : List Line) (f : SheetFault) → ((xs : List Line) → read (l ∷ xs) ≡ next xs) → Follows next ls f → First read (l ∷ ls) f
  title_past l ls f on (inl s) =
      let t = stops_later read next 0 l ls f on s in
      in_line t.before t.line t.after t.split (record {
        told = t.told ∙ omega arith;
        clean = λ some. t.clean;
        places = t.places t.after;
        rules = t.rules t.after;
        always = t.always;
      })
  title_past l ls f on (inr a) = no_place (omega (arith, ap length a.0)) a.1 (ap places_in (on ls) ∙ a.2) (ap rules_in (on ls) ∙ a.3)

  -- a title that is read, and what comes of it
  abbrev entitled : List Line → Result (Unit {0}) SheetFault → Reading
  entitled ls (Ok t) = next ls
  entitled ls (Err f) = stopped ps [] 0 f

  titled_first : (lines : List Line) (f : SheetFault) → ((ls : List Line) → (next ls).fault ≡ Some f → Follows next ls f) → (read lines).fault ≡ Some f → First read lines f
  titled_first [] f follows e = no_line refl (let s : f ≡ fault.Title = cc in s)
  titled_first (whole bytes ∷ ls) f follows e = go (title_checked sheet kind bytes) refl
    where
      go : (r : Result (Unit {0}) SheetFault) → title_checked sheet kind bytes ≡ r → First read (whole bytes ∷ ls) f
      go (Ok t) is = title_past (whole bytes) ls f (λ xs. ap (entitled xs) is) (follows ls (ap fault_in (sym (ap (entitled ls) is)) ∙ e))
      go (Err g) is =
          let same : g ≡ f = cc (ap fault_in (ap (entitled ls) is)) in
          title_here (whole bytes) ls f (λ xs. ap (entitled xs) (is ∙ ap Err same)) ((title_tells sheet kind bytes).tells f (is ∙ ap Err same))
  titled_first (long ∷ ls) f follows e =
      let same : text_fault (TooLong 1) ≡ f = cc in
      title_here long ls f (λ xs. ap (stopped ps [] 0) same) (ap (λ g. (sheet_told g).line) (sym same))
  titled_first (unended ∷ ls) f follows e =
      let same : text_fault (Unended 1) ≡ f = cc in
      title_here unended ls f (λ xs. ap (stopped ps [] 0) same) (ap (λ g. (sheet_told g).line) (sym same))

pub game_first : (kind : SpanKind) (places rules : ℕ) (lines : List Line) (fault : SheetFault) → (game_of kind places rules lines).fault ≡ Some fault → First (game_of kind places rules) lines fault
game_first kind places rules lines f e = titled_first Game kind [] (λ ls. place_some (found ls)) lines f follows e
  where
    found : List Line → Reading
    found ls = places_from kind (place_room places) (rule_room rules) 1 [] ls

    follows : (ls : List Line) → (place_some (found ls)).fault ≡ Some f → Follows (λ ls. place_some (found ls)) ls f
    follows ls e = elim ((wanting (found ls)).either f e) [
      | inl faulted ↦ inl (stops_some found 1 ls f (places_stop kind (place_room places) (rule_room rules) 1 [] ls f faulted))
      | inr w ↦ inr (alone ls (places_want kind (place_room places) (rule_room rules) 1 ls w.0 w.1) w)
    ]
      where
        alone : (ls : List Line) → ls ≡ [] → (((found ls).fault ≡ None) × ((found ls).places ≡ []) × (f ≡ fault.NoPlace (found ls).lines))
            → (ls ≡ []) × (f ≡ fault.NoPlace 1) × ((place_some (found ls)).places ≡ []) × ((place_some (found ls)).rules ≡ [])
        alone [] is w = (refl, w.2, refl, refl)
        alone (l ∷ ls) is w = let z : ◌≡◌ {A = ℕ} 0 1 = cc in absurd (omega arith)

pub expansion_first : (kind : SpanKind) (ps : List Place) (rules : ℕ) (lines : List Line) (fault : SheetFault) → (expansion_of kind ps rules lines).fault ≡ Some fault → First (expansion_of kind ps rules) lines fault
expansion_first kind ps rules lines f e = titled_first Expansion kind ps (rules_from kind (rule_room rules) ps 1 []) lines f follows e
  where
    follows : (ls : List Line) → (rules_from kind (rule_room rules) ps 1 [] ls).fault ≡ Some f → Follows (rules_from kind (rule_room rules) ps 1 []) ls f
    follows ls e = inl (rules_stop kind (rule_room rules) ps 1 [] ls f e)
