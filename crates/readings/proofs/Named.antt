-- Places by their names, and words. Assumes nothing.
use Rattle.std.proofs.Common.{◌≡◌, ℕ, zero, suc, ◌+◌, ◌<◌, Bool, true, false, cond, not, ◌&&◌, ◌||◌, eqb, ltb, List, [], ◌∷◌, ◌++◌, length, Some, None, Ok, codes, Option, Result, sym, refl, ap, ◌∙◌, subst, arith}
use Rattle.std.proofs.lemmas.Slice.Eq.{bytes_eq-Decides}
use Rattle.std.proofs.lemmas.Bool.{and_parts, or_parts, not-true, ltb-true, cond-true, cond-false}
use Rattle.std.specs.Str.{bytes_eq}
use Rattle.rules.specs.ChoiceTests.{two_places_test}
use Rattle.text.specs.declared.fault.At.{At}
use Rattle.text.specs.Names.{name_test, name_at, same_name}
use Rattle.text.specs.Parts.{Lacks}
use Rattle.sheets.specs.declared.fault.SheetFault.{SheetFault}
use Rattle.sheets.specs.declared.title.SpanKind.{SpanKind}
use Rattle.records.specs.declared.record.Word.{Word}
use Rattle.records.specs.declared.record.Word.TheVariants as word
use Rattle.records.specs.Between.{two_places}
use Rattle.records.specs.Places.{Place, declares}
use Rattle.records.specs.Names.{position_after, known, known_place}
use Rattle.records.specs.Steps.{at, then}
use Rattle.records.specs.Words.{word_of}
use Rattle.records.proofs.Going.{then_ok, raised_ok, passed_false, known_ok}
use Rattle.records.proofs.Pairing.{are_two}
use Rattle.readings.specs.Proper.{is_opening, is_place, are_places}
use Rattle.readings.specs.Written.{name_of}
use Rattle.readings.proofs.Fielded.{then_to, raised_to, name_lacks, name_from, name_to, same_from, same_to}

-- the place that is found has the name
position_from : (n : ℕ) (ps : List Place) (name : List ℕ) (p : ℕ) → position_after n ps name ≡ Some p → (k : ℕ) × (p ≡ n + k) × (name ≡ name_of ps k)
position_from n [] name p e = let z : ◌≡◌ {A = ℕ} 0 1 = cc in absurd (omega arith)
position_from n (q ∷ ps) name p e = go (same_name q.name name) refl (position_from (n + 1) ps name p) e
  where
    go : (t : Bool) → same_name q.name name ≡ t → (position_after (n + 1) ps name ≡ Some p → (k : ℕ) × (p ≡ n + 1 + k) × (name ≡ name_of ps k))
        → cond t (Some n) (position_after (n + 1) ps name) ≡ Some p → (k : ℕ) × (p ≡ n + k) × (name ≡ name_of (q ∷ ps) k)
    go true s f e = let same : n ≡ p = cc in (0, omega arith, sym (same_from q.name name s))
    go false s f e = let r = f e in (suc r.0, omega (arith, r.1), r.2)

pub known_from : (ps : List Place) (at : At) (field : List ℕ) (p : ℕ) → known_place ps at field ≡ Ok p → field ≡ name_of ps p
known_from ps at field p e =
    let r = raised_ok (name_at at field) (λ name. known at (position_after 0 ps name)) p e in
    let k = position_from 0 ps r.value p (known_ok at (position_after 0 ps r.value) p r.rest) in
    let same : k.0 ≡ p = omega (arith, k.1) in
    (name_from at field r.value r.read).1 ∙ k.2 ∙ ap (name_of ps) same

-- a name that places and one more behind them lack
declares_push : (ps : List Place) (p : Place) (name : List ℕ) → declares (ps ++ (p ∷ [])) name ≡ false → (declares ps name ≡ false) × (same_name p.name name ≡ false)
declares_push [] p name e = (refl, (or_parts (same_name p.name name) false e).0)
declares_push (q ∷ ps) p name e =
    let s = or_parts (same_name q.name name) (declares (ps ++ (p ∷ [])) name) e in
    let r = declares_push ps p name s.1 in
    (ap (λ t. t || declares ps name) s.0 ∙ r.0, r.1)

-- what makes a place, one by one
pub record Proper (kind : SpanKind) (before : List Place) (p : Place) : Type 0 where
  pub named : name_test p.name ≡ true
  pub new : declares before p.name ≡ false
  pub opens : is_opening kind p.opening ≡ true

pub place_parts : (kind : SpanKind) (before : List Place) (p : Place) → is_place kind before p ≡ true → Proper kind before p
place_parts kind before p e =
    let s = and_parts (name_test p.name && not (declares before p.name)) (is_opening kind p.opening) e in
    let r = and_parts (name_test p.name) (not (declares before p.name)) s.0 in
    record { named = r.0; new = not-true _ r.1; opens = s.1 }

-- the names of places are names, and new
pub names_new : (kind : SpanKind) (before ps : List Place) (k : ℕ) → are_places kind before ps ≡ true → k < length ps → (name_test (name_of ps k) ≡ true) × (declares before (name_of ps k) ≡ false)
names_new kind before [] k e h = absurd (omega arith)
names_new kind before (p ∷ ps) zero e h =
    let r = place_parts kind before p (and_parts (is_place kind before p) (are_places kind (before ++ (p ∷ [])) ps) e).0 in
    (r.named, r.new)
names_new kind before (p ∷ ps) (suc k) e h =
    let r = names_new kind (before ++ (p ∷ [])) ps k (and_parts (is_place kind before p) (are_places kind (before ++ (p ∷ [])) ps) e).1 (omega arith) in
    (r.0, (declares_push before p (name_of ps k) r.1).0)

-- a place is found by its name
position_to : (kind : SpanKind) (before ps : List Place) (n k : ℕ) → are_places kind before ps ≡ true → k < length ps → position_after n ps (name_of ps k) ≡ Some (n + k)
position_to kind before [] n k e h = absurd (omega arith)
position_to kind before (p ∷ ps) n zero e h = cond-true _ _ _ (same_to p.name) ∙ ap Some (omega arith)
position_to kind before (p ∷ ps) n (suc k) e h =
    let rest = (and_parts (is_place kind before p) (are_places kind (before ++ (p ∷ [])) ps) e).1 in
    let new = (names_new kind (before ++ (p ∷ [])) ps k rest (omega arith)).1 in
    cond-false _ _ _ (declares_push before p (name_of ps k) new).1 ∙ position_to kind (before ++ (p ∷ [])) ps (n + 1) k rest (omega arith) ∙ ap Some (omega arith)

pub known_to : (kind : SpanKind) (ps : List Place) (at : At) (p : ℕ) → are_places kind [] ps ≡ true → p < length ps → known_place ps at (name_of ps p) ≡ Ok p
known_to kind ps at p e h =
    raised_to (name_at at (name_of ps p)) (λ name. known at (position_after 0 ps name)) (name_of ps p) p (name_to at (name_of ps p) (names_new kind [] ps p e h).0)
    (ap (known at) (position_to kind [] ps 0 p e h ∙ ap Some (omega arith)))

-- two places are read exactly if they are two places of a board, by their names
pub two_from : {B : Type 0} (ps : List Place) (line : ℕ) (first second : List ℕ) (b : B) (next : ℕ → ℕ → Result B SheetFault) → then (two_places ps line first second) (λ two. next two.first two.second) ≡ Ok b
    → (p : ℕ) × (q : ℕ) × (two_places_test (length ps) p q ≡ true) × (first ≡ name_of ps p) × (second ≡ name_of ps q) × (next p q ≡ Ok b)
two_from ps line first second b next e =
    let t = then_ok (two_places ps line first second) _ b e in
    let r = then_ok (known_place ps (at line 1) first) _ t.value t.read in
    let q = then_ok (known_place ps (at line 2) second) _ t.value r.rest in
    let d = passed_false (eqb r.value q.value) _ _ t.value q.rest in
    let one : r.value ≡ t.value.first = cc d.1 in
    let two : q.value ≡ t.value.second = cc d.1 in (
      t.value.first,
      t.value.second,
      are_two ps line first second t.value (sym t.read),
      known_from ps (at line 1) first r.value r.read ∙ ap (name_of ps) one,
      known_from ps (at line 2) second q.value q.read ∙ ap (name_of ps) two,
      t.rest,
    )

module _ (kind : SpanKind) (ps : List Place) (p q : ℕ) (places : are_places kind [] ps ≡ true) (both : two_places_test (length ps) p q ≡ true) where
  two_parts : (p < length ps) × (q < length ps) × (eqb p q ≡ false)
  two_parts =
      let s = and_parts (ltb p (length ps) && ltb q (length ps)) (not (eqb p q)) both in
      let r = and_parts (ltb p (length ps)) (ltb q (length ps)) s.0 in
      (ltb-true p (length ps) r.0, ltb-true q (length ps) r.1, not-true _ s.1)

  pub two_to : (line : ℕ) → two_places ps line (name_of ps p) (name_of ps q) ≡ Ok (record { first = p; second = q })
  two_to line =
      let s = two_parts in
      then_to (known_place ps (at line 1) (name_of ps p)) _ p _ (known_to kind ps (at line 1) p places s.0)
      (then_to (known_place ps (at line 2) (name_of ps q)) _ q _ (known_to kind ps (at line 2) q places s.1) (cond-false (eqb p q) _ _ s.2))

  pub two_lack : Lacks 9 (name_of ps p) × Lacks 9 (name_of ps q)
  two_lack =
      let s = two_parts in
      (name_lacks (name_of ps p) (names_new kind [] ps p places s.0).0, name_lacks (name_of ps q) (names_new kind [] ps q places s.1).0)

-- how a line's word is spelled, where that is not a title's
abbrev pub Spells : Word → List ℕ → Type 0
Spells word.Title field = Unit {0}
Spells word.Place field = field ≡ codes "place"
Spells word.Sum field = field ≡ codes "sum"
Spells word.Pair field = field ≡ codes "pair"
Spells word.Apart field = field ≡ codes "apart"

pub word_from : (field : List ℕ) (w : Word) → word_of field ≡ Some w → Spells w field
word_from field w e =
    step (codes "game") word.Title _ (λ s. tt)
    (step (codes "expansion") word.Title _ (λ s. tt)
    (step (codes "place") word.Place _ (λ s. s)
    (step (codes "sum") word.Sum _ (λ s. s)
    (step (codes "pair") word.Pair _ (λ s. s)
    (step (codes "apart") word.Apart None (λ s. s) (λ n. (let z : ◌≡◌ {A = ℕ} 0 1 = cc in absurd (omega arith)))))))) e
  where
    step : (name : List ℕ) (v : Word) (r : Option Word) → (field ≡ name → Spells v field) → (r ≡ Some w → Spells w field) → cond (bytes_eq field name) (Some v) r ≡ Some w → Spells w field
    step name v r here later e = go (bytes_eq field name) refl e
      where
        go : (t : Bool) → bytes_eq field name ≡ t → cond t (Some v) r ≡ Some w → Spells w field
        go true s e = let same : v ≡ w = cc in subst (λ u. Spells u field) same (here ((bytes_eq-Decides field name).0 s))
        go false s e = later e
