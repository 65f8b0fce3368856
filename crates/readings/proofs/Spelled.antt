-- A line is read without a fault exactly if it is a proper record, written out. Assumes nothing.
use Rattle.std.proofs.Common.{◌≡◌, ℕ, suc, ◌+◌, ◌-◌, ◌*◌, ◌%◌, ◌≤◌, Bool, true, false, cond, ◌&&◌, eqb, ltb, leb, List, [], ◌∷◌, length, pos, negsuc, Some, None, Ok, Err, codes, Option, Result, sym, refl, ap, ◌∙◌, subst, arith}
use lib.Signed.{le_z}
use Rattle.std.proofs.lemmas.Slice.Eq.{bytes_eq-Decides}
use Rattle.std.proofs.lemmas.List.{nil_from_length}
use Rattle.std.proofs.lemmas.Bool.{and_parts, and_from, not_from_false, cond-true, cond-false, eqb-true, eq-eqb, lt-ltb, ltb-true, leb-true, le-leb}
use Rattle.std.specs.Fmt.{signed_decimal}
use Rattle.std.specs.List.{AllByRecursion}
use Rattle.std.specs.Str.{bytes_eq}
use Rattle.spans.specs.Bounds.{bounded}
use Rattle.rules.specs.declared.sums.term.Relation.{Relation}
use Rattle.rules.specs.declared.sums.term.Relation.TheVariants.{AtMost, AtLeast, Equal}
use Rattle.rules.specs.ChoiceTests.{two_places_test, is_pair_row}
use Rattle.rules.specs.SumTerms.{bound_test, terms_test}
use Rattle.text.specs.declared.fault.At.{At}
use Rattle.text.specs.declared.fault.FieldFault.{FieldFault}
use Rattle.text.specs.declared.fault.FieldFault.TheVariants.{Malformed}
use Rattle.text.specs.Fields.{fields_of, others}
use Rattle.text.specs.Names.{name_test, name_at}
use Rattle.text.specs.Numbers.{number_in}
use Rattle.text.specs.Parts.{Lacks}
use Rattle.sheets.specs.declared.fault.SheetFault.TheVariants as fault
use Rattle.sheets.specs.declared.title.SpanKind.{SpanKind}
use Rattle.sheets.specs.declared.title.SpanKind.TheVariants.{Amounts, Choices}
use Rattle.records.specs.declared.kind.SheetKind.{SheetKind}
use Rattle.records.specs.declared.kind.SheetKind.TheVariants.{Game, Expansion}
use Rattle.records.specs.declared.places.Opening.{Opening}
use Rattle.records.specs.declared.places.Opening.TheVariants.{Amount, Tokens}
use Rattle.records.specs.declared.record.Word.{Word}
use Rattle.records.specs.declared.record.Word.TheVariants as word
use Rattle.records.specs.Between.{two_places, tokens_from}
use Rattle.records.specs.Numbers.{count_within}
use Rattle.records.specs.Places.{Place, declares, least, most, opening_of, place_record, place_line}
use Rattle.records.specs.Records.{Fielded, head, record_of, counted, word_then}
use Rattle.records.specs.RuleLines.{sum_record, pair_record, apart_record, sum_line_of, pair_line_of, apart_line_of, rule_by, rule_line_of}
use Rattle.records.specs.Rules.{Rule, Row, sum, pair, apart}
use Rattle.records.specs.Steps.{at, unless_fault}
use Rattle.records.specs.Sums.{relation_at, terms_from}
use Rattle.records.specs.Titles.{sheet_word, span_word, title_record, title_checked}
use Rattle.records.specs.Words.{word_of, by_twos, field_count_fits}
use Rattle.records.proofs.Going.{then_ok, raised_ok, passed_false, passed_true, same_ok}
use Rattle.records.proofs.Summing.{sum_ok}
use Rattle.records.proofs.Taking.{length_others}
use Rattle.readings.specs.Laws.{row_for}
use Rattle.readings.specs.Proper.{is_opening, is_place, are_places, all_tokens, is_rule}
use Rattle.readings.specs.Readings.{is_place_word}
use Rattle.readings.specs.Written.{tabbed, sheet_name, span_name, title_written, opening_written, place_written, relation_written, name_of, terms_written, tokens_written, rule_written}
use Rattle.readings.proofs.Fielded.{then_to, raised_to, line_from, line_to, counted_from, some_field, one_field, two_fields, three_fields, le_trans, small_within, signed_lacks, Small, number_from, number_to, count_from, count_to, count_small, name_lacks, name_from, name_to}
use Rattle.readings.proofs.Named.{place_parts, two_from, two_to, two_lack, word_from}
use Rattle.readings.proofs.Twofold.{tokens_from_lem, tokens_to, tokens_lack, tokens_length, terms_from_lem, terms_to, terms_lack, terms_length}

-- the two words of a title
sheet_from : (sheet : SheetKind) (field : List ℕ) → sheet_word sheet field ≡ true → field ≡ sheet_name sheet
sheet_from Game field e = (bytes_eq-Decides field (codes "game")).0 e
sheet_from Expansion field e = (bytes_eq-Decides field (codes "expansion")).0 e

span_from : (kind : SpanKind) (field : List ℕ) → span_word kind field ≡ true → field ≡ span_name kind
span_from Amounts field e = (bytes_eq-Decides field (codes "amounts")).0 e
span_from Choices field e = (bytes_eq-Decides field (codes "choices")).0 e

pub title_from : (sheet : SheetKind) (kind : SpanKind) (bytes : List ℕ) → title_checked sheet kind bytes ≡ Ok tt → bytes ≡ title_written sheet kind
title_from sheet kind bytes e = go (word_of (head (fields_of bytes))) e
  where
    refused : (t : Bool) (r : Fielded) → title_record sheet kind (Some r) ≡ Err fault.Title → title_record sheet kind (cond t (Some r) None) ≡ Ok tt → bytes ≡ title_written sheet kind
    refused t r f e =
        let p = counted_from (title_record sheet kind) fault.Title refl t r tt e in
        let z : ◌≡◌ {A = ℕ} 0 1 = cc in absurd (omega arith)

    go : (o : Option Word) → title_record sheet kind (word_then kind o (fields_of bytes)) ≡ Ok tt → bytes ≡ title_written sheet kind
    go None e = let z : ◌≡◌ {A = ℕ} 0 1 = cc in absurd (omega arith)
    go (Some word.Title) e =
        let fs = fields_of bytes in
        let p = counted_from (title_record sheet kind) fault.Title refl (eqb (length fs) 2) (record_of word.Title fs) tt e in
        let q = passed_true (sheet_word sheet (head fs) && span_word kind (head (others fs))) fault.Title (Ok tt) tt p.1 in
        let s = and_parts (sheet_word sheet (head fs)) (span_word kind (head (others fs))) q.0 in
        line_from bytes (sheet_name sheet ∷ span_name kind ∷ [])
        (two_fields fs (sheet_name sheet) (span_name kind) (eqb-true (length fs) 2 p.0) (sheet_from sheet (head fs) s.0) (span_from kind (head (others fs)) s.1))
    go (Some word.Place) e = refused (field_count_fits word.Place kind (length (fields_of bytes))) _ refl e
    go (Some word.Sum) e = refused (field_count_fits word.Sum kind (length (fields_of bytes))) _ refl e
    go (Some word.Pair) e = refused (field_count_fits word.Pair kind (length (fields_of bytes))) _ refl e
    go (Some word.Apart) e = refused (field_count_fits word.Apart kind (length (fields_of bytes))) _ refl e

pub title_to : (sheet : SheetKind) (kind : SpanKind) → title_checked sheet kind (title_written sheet kind) ≡ Ok tt
title_to Game Amounts = refl
title_to Game Choices = refl
title_to Expansion Amounts = refl
title_to Expansion Choices = refl

-- how many numbers a place line has
abbrev numbers_of : SpanKind → ℕ
numbers_of Amounts = 2
numbers_of Choices = 1

-- an opening that is read may be one, and is its numbers written out
opening_from : (kind : SpanKind) (line : ℕ) (ns : List (List ℕ)) (o : Opening) → length ns ≡ numbers_of kind → opening_of kind line ns ≡ Ok o → (is_opening kind o ≡ true) × (ns ≡ opening_written o)
opening_from Amounts line ns o l e =
    let r = then_ok (number_in least most (at line 2) (head ns)) _ o e in
    let q = then_ok (number_in r.value most (at line 3) (head (others ns))) _ o r.rest in
    let f = number_from least most (at line 2) (head ns) r.value r.read in
    let c = number_from r.value most (at line 3) (head (others ns)) q.value q.read in
    let ok : bounded r.value q.value ≡ true = and_from _ _ (and_from (le_z least r.value) (le_z r.value q.value) f.1.0 c.1.0) c.1.1 in
    let written : ns ≡ signed_decimal r.value ∷ signed_decimal q.value ∷ [] = two_fields ns _ _ l f.0 c.0 in
    subst (λ (x : Opening). (is_opening Amounts x ≡ true) × (ns ≡ opening_written x)) (same_ok q.rest) (ok, written)
opening_from Choices line ns o l e =
    let r = then_ok (count_within 1 64 (at line 2) (head ns)) _ o e in
    let c = count_from 1 64 (at line 2) (head ns) r.value r.read in
    let ok : (leb 1 r.value && leb r.value 64) ≡ true = and_from _ _ (le-leb 1 r.value c.1) (le-leb r.value 64 c.2) in
    let written : ns ≡ signed_decimal (pos r.value) ∷ [] = one_field ns _ l c.0 in
    subst (λ (x : Opening). (is_opening Choices x ≡ true) × (ns ≡ opening_written x)) (same_ok r.rest) (ok, written)

-- and an opening that may be one is read from its numbers
record Opens (kind : SpanKind) (line : ℕ) (o : Opening) : Type 0 where
  lack : AllByRecursion (Lacks 9) (opening_written o)
  count : length (opening_written o) ≡ numbers_of kind
  read : opening_of kind line (opening_written o) ≡ Ok o

opening_to : (kind : SpanKind) (line : ℕ) (o : Opening) → is_opening kind o ≡ true → Opens kind line o
opening_to Amounts line (Amount floor ceiling) e =
    let p = and_parts (le_z least floor && le_z floor ceiling) (le_z ceiling most) e in
    let q = and_parts (le_z least floor) (le_z floor ceiling) p.0 in
    let h = le_trans floor ceiling most q.1 p.1 in
    let f : Small floor = small_within least most floor refl refl (q.0, h) in
    let c : Small ceiling = small_within least most ceiling refl refl (le_trans least floor ceiling q.0 q.1, p.1) in
    record {
      lack = (signed_lacks floor f, (signed_lacks ceiling c, tt));
      count = refl;
      read =
          then_to (number_in least most (at line 2) (signed_decimal floor)) _ floor (Amount floor ceiling) (number_to least most (at line 2) floor f (q.0, h))
          (then_to (number_in floor most (at line 3) (signed_decimal ceiling)) _ ceiling (Amount floor ceiling) (number_to floor most (at line 3) ceiling c (q.1, p.1)) refl);
    }
opening_to Amounts line (Tokens count) e = let z : ◌≡◌ {A = ℕ} 0 1 = cc in absurd (omega arith)
opening_to Choices line (Amount floor ceiling) e = let z : ◌≡◌ {A = ℕ} 0 1 = cc in absurd (omega arith)
opening_to Choices line (Tokens count) e =
    let p = and_parts (leb 1 count) (leb count 64) e in
    let l = leb-true 1 count p.0 in
    let h = leb-true count 64 p.1 in
    record {
      lack = (signed_lacks (pos count) (count_small count (omega arith)), tt);
      count = refl;
      read = then_to (count_within 1 64 (at line 2) (signed_decimal (pos count))) _ count (Tokens count) (count_to 1 64 (at line 2) count (omega arith) l h) refl;
    }

-- a place line has a word, a name and the numbers
place_count_lem : (kind : SpanKind) (n : ℕ) → field_count_fits word.Place kind n ≡ true → n ≡ suc (suc (numbers_of kind))
place_count_lem Amounts n e = eqb-true n 4 e
place_count_lem Choices n e = eqb-true n 3 e

count_place : (kind : SpanKind) → field_count_fits word.Place kind (suc (suc (numbers_of kind))) ≡ true
count_place Amounts = refl
count_place Choices = refl

place_word : (o : Option Word) → is_place_word o ≡ true → o ≡ Some word.Place
place_word None e = let z : ◌≡◌ {A = ℕ} 0 1 = cc in absurd (omega arith)
place_word (Some word.Title) e = let z : ◌≡◌ {A = ℕ} 0 1 = cc in absurd (omega arith)
place_word (Some word.Place) e = refl
place_word (Some word.Sum) e = let z : ◌≡◌ {A = ℕ} 0 1 = cc in absurd (omega arith)
place_word (Some word.Pair) e = let z : ◌≡◌ {A = ℕ} 0 1 = cc in absurd (omega arith)
place_word (Some word.Apart) e = let z : ◌≡◌ {A = ℕ} 0 1 = cc in absurd (omega arith)

pub place_from : (kind : SpanKind) (ps : List Place) (line : ℕ) (bytes : List ℕ) (p : Place) → is_place_word (word_of (head (fields_of bytes))) ≡ true → place_line kind ps line bytes ≡ Ok p → (is_place kind ps p ≡ true) × (bytes ≡ place_written p)
place_from kind ps line bytes p w e =
    let fs = fields_of bytes in
    let c = counted_from (place_record kind ps line) (fault.Count line) refl (field_count_fits word.Place kind (length fs)) (record_of word.Place fs) p e in
    let n = raised_ok (name_at (at line 1) (head (others fs))) _ p c.1 in
    let d = passed_false (declares ps n.value) _ _ p n.rest in
    let o = raised_ok (opening_of kind line (others (others fs))) _ p d.1 in
    let count = place_count_lem kind (length fs) c.0 in
    let l = length_others fs in
    let m = length_others (others fs) in
    let name = name_from (at line 1) (head (others fs)) n.value n.read in
    let opening = opening_from kind line (others (others fs)) o.value (omega arith) o.read in
    let fields : fs ≡ codes "place" ∷ n.value ∷ opening_written o.value =
    some_field fs _ _ (omega arith) (word_from (head fs) word.Place (place_word _ w)) (some_field (others fs) _ _ (omega arith) name.1 opening.1) in
    let proper : is_place kind ps (record { name = n.value; opening = o.value }) ≡ true =
    and_from _ _ (and_from _ _ (subst (λ f. name_test f ≡ true) name.1 name.0) (not_from_false _ d.0)) opening.0 in
    subst (λ (q : Place). (is_place kind ps q ≡ true) × (bytes ≡ place_written q)) (same_ok o.rest)
    (proper, line_from bytes (codes "place" ∷ n.value ∷ opening_written o.value) fields)

pub place_to : (kind : SpanKind) (ps : List Place) (line : ℕ) (p : Place) → is_place kind ps p ≡ true → (is_place_word (word_of (head (fields_of (place_written p)))) ≡ true) × (place_line kind ps line (place_written p) ≡ Ok p)
place_to kind ps line p e =
    let s = place_parts kind ps p e in
    let o = opening_to kind line p.opening s.opens in
    let fs : List (List ℕ) = codes "place" ∷ p.name ∷ opening_written p.opening in
    let fields : fields_of (place_written p) ≡ fs = line_to (codes "place") (p.name ∷ opening_written p.opening) (name_lacks (codes "place") refl) (name_lacks p.name s.named, o.lack) in
    let fits : field_count_fits word.Place kind (length fs) ≡ true = ap (λ n. field_count_fits word.Place kind (suc (suc n))) o.count ∙ count_place kind in (
      ap (λ (gs : List (List ℕ)). is_place_word (word_of (head gs))) fields,
      ap (λ (gs : List (List ℕ)). place_record kind ps line (counted kind word.Place gs)) fields
          ∙ ap (place_record kind ps line) (cond-true _ _ _ fits)
          ∙ raised_to (name_at (at line 1) p.name) _ p.name p (name_to (at line 1) p.name s.named)
          (cond-false (declares ps p.name) _ _ s.new ∙ raised_to (opening_of kind line (opening_written p.opening)) _ p.opening p o.read refl),
    )

-- a relation is read exactly if it is written out
relation_from : (a : At) (field : List ℕ) (r : Relation) → relation_at a field ≡ Ok r → field ≡ relation_written r
relation_from a field r e =
    step (codes "<=") AtMost _ refl (step (codes ">=") AtLeast _ refl (step (codes "=") Equal (Err (Malformed a)) refl (λ n. (let z : ◌≡◌ {A = ℕ} 0 1 = cc in absurd (omega arith))))) e
  where
    step : (name : List ℕ) (s : Relation) (other : Result Relation FieldFault) → name ≡ relation_written s → (other ≡ Ok r → field ≡ relation_written r) → cond (bytes_eq field name) (Ok s) other ≡ Ok r → field ≡ relation_written r
    step name s other here later e = go (bytes_eq field name) refl e
      where
        go : (t : Bool) → bytes_eq field name ≡ t → cond t (Ok s) other ≡ Ok r → field ≡ relation_written r
        go true h e = (bytes_eq-Decides field name).0 h ∙ here ∙ ap relation_written (same_ok e)
        go false h e = later e

relation_to : (a : At) (r : Relation) → relation_at a (relation_written r) ≡ Ok r
relation_to a AtMost = refl
relation_to a AtLeast = refl
relation_to a Equal = refl

relation_lacks : (r : Relation) → Lacks 9 (relation_written r)
relation_lacks AtMost = name_lacks (codes "<=") refl
relation_lacks AtLeast = name_lacks (codes ">=") refl
relation_lacks Equal = name_lacks (codes "=") refl

-- three fields, and then some two by two
twos_count : (most n : ℕ) → by_twos most n ≡ true → (5 ≤ n) × (n ≤ most)
twos_count most n e =
    let p = and_parts (leb 5 n && leb n most) (eqb (n % 2) 1) e in
    let q = and_parts (leb 5 n) (leb n most) p.0 in
    (leb-true 5 n q.0, leb-true n most q.1)

count_twos : (most n k : ℕ) → n ≡ 2 * k → 1 ≤ k → n + 3 ≤ most → by_twos most (suc (suc (suc n))) ≡ true
count_twos most n k e some few =
    and_from _ _ (and_from _ _ (le-leb 5 _ (omega arith)) (le-leb _ most (omega arith))) (eq-eqb _ 1 (omega arith))

-- a line is that of a rule, written out
abbrev Ruled : SpanKind → List Place → List ℕ → Row → Type 0
Ruled kind ps bytes row = (rule : Rule) × (row ≡ row_for (length ps) rule) × (is_rule kind (length ps) rule ≡ true) × (bytes ≡ rule_written ps rule)

-- the fields that sum lines, pair lines and apart lines have behind their word
module _ (ps : List Place) (line : ℕ) (bytes : List ℕ) (row : Row) where
  abbrev fields : List (List ℕ)
  fields = fields_of bytes

  rest_length : length (others (others (others fields))) ≡ length fields - 3
  rest_length = omega (arith, length_others fields, length_others (others fields), length_others (others (others fields)))

  apart_from : head fields ≡ codes "apart" → apart_line_of ps line fields ≡ Ok row → Ruled Choices ps bytes row
  apart_from w e =
      let c = counted_from (apart_record ps line) (fault.Count line) refl (eqb (length fields) 3) (record_of word.Apart fields) row e in
      let l = eqb-true (length fields) 3 c.0 in
      let t = two_from ps line (head (others fields)) (head (others (others fields))) row (λ p q. Ok (row_for (length ps) (apart p q))) c.1 in (
        apart t.0 t.1,
        sym (same_ok t.5),
        t.2,
        line_from bytes (codes "apart" ∷ name_of ps t.0 ∷ name_of ps t.1 ∷ [])
            (three_fields fields _ _ _ _ (omega arith) w t.3 t.4 (nil_from_length _ (omega (arith, rest_length)))),
      )

  pair_from : head fields ≡ codes "pair" → pair_line_of ps line fields ≡ Ok row → Ruled Choices ps bytes row
  pair_from w e =
      let c = counted_from (pair_record ps line) (fault.Count line) refl (by_twos 203 (length fields)) (record_of word.Pair fields) row e in
      let l = twos_count 203 (length fields) c.0 in
      let rest = others (others (others fields)) in
      let t = two_from ps line (head (others fields)) (head (others (others fields))) row (λ p q. unless_fault (tokens_from line 3 [] rest) (λ ts. Ok (row_for (length ps) (pair p q ts)))) c.1 in
      let r = raised_ok (tokens_from line 3 [] rest) _ row t.5 in
      let k = tokens_from_lem line rest r.value r.read in
      let n : 2 * length r.value ≡ length fields - 3 = sym (tokens_length r.value) ∙ ap length (sym k.0) ∙ rest_length in (
        pair t.0 t.1 r.value,
        sym (same_ok r.rest),
        and_from _ _ (and_from _ _ (and_from _ _ t.2 (lt-ltb 0 (length r.value) (omega arith))) (le-leb (length r.value) 100 (omega arith))) k.1,
        line_from bytes (codes "pair" ∷ name_of ps t.0 ∷ name_of ps t.1 ∷ tokens_written r.value)
            (three_fields fields _ _ _ _ (omega arith) w t.3 t.4 k.0),
      )

  sum_from : head fields ≡ codes "sum" → sum_line_of ps line fields ≡ Ok row → Ruled Amounts ps bytes row
  sum_from w e =
      let c = counted_from (sum_record ps line) (fault.Count line) refl (by_twos 35 (length fields)) (record_of word.Sum fields) row e in
      let l = twos_count 35 (length fields) c.0 in
      let rest = others (others (others fields)) in
      let relation = raised_ok (relation_at (at line 1) (head (others fields))) _ row c.1 in
      let bound = raised_ok (number_in (negsuc 999_999_999_999) (pos 1_000_000_000_000) (at line 2) (head (others (others fields)))) _ row relation.rest in
      let terms = then_ok (terms_from ps line 3 [] rest) _ row bound.rest in
      let k = terms_from_lem ps line rest terms.value terms.read in
      let n : 2 * length terms.value ≡ length fields - 3 = sym (terms_length ps terms.value) ∙ ap length (sym k) ∙ rest_length in (
        sum relation.value bound.value terms.value,
        sym (same_ok terms.rest),
        sum_ok ps line (at line 2) (head (others (others fields))) bound.value rest terms.value (sym bound.read) (sym terms.read) (omega (arith, rest_length)) (omega arith),
        line_from bytes (codes "sum" ∷ relation_written relation.value ∷ signed_decimal bound.value ∷ terms_written ps terms.value)
            (three_fields fields _ _ _ _ (omega arith) w (relation_from (at line 1) (head (others fields)) relation.value relation.read)
            (number_from (negsuc 999_999_999_999) (pos 1_000_000_000_000) (at line 2) (head (others (others fields))) bound.value bound.read).0 k),
      )

pub rule_from : (kind : SpanKind) (ps : List Place) (line : ℕ) (bytes : List ℕ) (row : Row) → rule_line_of kind ps line bytes ≡ Ok row → (rule : Rule) × (row ≡ row_for (length ps) rule) × (is_rule kind (length ps) rule ≡ true) × (bytes ≡ rule_written ps rule)
rule_from kind ps line bytes row e = go kind (word_of (head (fields_of bytes))) refl e
  where
    go : (k : SpanKind) (o : Option Word) → word_of (head (fields_of bytes)) ≡ o → rule_by k ps line (fields_of bytes) o ≡ Ok row → Ruled k ps bytes row
    go Amounts None w e = let z : ◌≡◌ {A = ℕ} 0 1 = cc in absurd (omega arith)
    go Amounts (Some word.Title) w e = let z : ◌≡◌ {A = ℕ} 0 1 = cc in absurd (omega arith)
    go Amounts (Some word.Place) w e = let z : ◌≡◌ {A = ℕ} 0 1 = cc in absurd (omega arith)
    go Amounts (Some word.Sum) w e = sum_from ps line bytes row (word_from (head (fields_of bytes)) word.Sum w) e
    go Amounts (Some word.Pair) w e = let z : ◌≡◌ {A = ℕ} 0 1 = cc in absurd (omega arith)
    go Amounts (Some word.Apart) w e = let z : ◌≡◌ {A = ℕ} 0 1 = cc in absurd (omega arith)
    go Choices None w e = let z : ◌≡◌ {A = ℕ} 0 1 = cc in absurd (omega arith)
    go Choices (Some word.Title) w e = let z : ◌≡◌ {A = ℕ} 0 1 = cc in absurd (omega arith)
    go Choices (Some word.Place) w e = let z : ◌≡◌ {A = ℕ} 0 1 = cc in absurd (omega arith)
    go Choices (Some word.Sum) w e = let z : ◌≡◌ {A = ℕ} 0 1 = cc in absurd (omega arith)
    go Choices (Some word.Pair) w e = pair_from ps line bytes row (word_from (head (fields_of bytes)) word.Pair w) e
    go Choices (Some word.Apart) w e = apart_from ps line bytes row (word_from (head (fields_of bytes)) word.Apart w) e

-- a line of such fields is read as this row, and is no place's
module _ (kind : SpanKind) (ps : List Place) (line : ℕ) (row : Row) (f : List ℕ) (fs : List (List ℕ)) (f-lacks : Lacks 9 f) (fs-lack : AllByRecursion (Lacks 9) fs)
    (rules : is_place_word (word_of f) ≡ false) (read : rule_by kind ps line (f ∷ fs) (word_of f) ≡ Ok row) where
  fields_to : (is_place_word (word_of (head (fields_of (tabbed (f ∷ fs))))) ≡ false) × (rule_line_of kind ps line (tabbed (f ∷ fs)) ≡ Ok row)
  fields_to =
      let e = line_to f fs f-lacks fs-lack in
      (ap (λ (gs : List (List ℕ)). is_place_word (word_of (head gs))) e ∙ rules, ap (λ (gs : List (List ℕ)). rule_by kind ps line gs (word_of (head gs))) e ∙ read)

pub rule_to : (kind : SpanKind) (ps : List Place) (line : ℕ) (rule : Rule) → are_places kind [] ps ≡ true → is_rule kind (length ps) rule ≡ true → (is_place_word (word_of (head (fields_of (rule_written ps rule)))) ≡ false) × (rule_line_of kind ps line (rule_written ps rule) ≡ Ok (row_for (length ps) rule))
rule_to Amounts ps line (sum relation bound terms) places e =
    let n = length ps in
    let s = and_parts (bound_test bound && leb 1 (length terms) && leb (length terms) 16) (terms_test n terms) e in
    let q = and_parts (bound_test bound && leb 1 (length terms)) (leb (length terms) 16) s.0 in
    let b = and_parts (bound_test bound) (leb 1 (length terms)) q.0 in
    let small : Small bound = and_parts (le_z (negsuc 999_999_999_999) bound) (le_z bound (pos 1_000_000_000_000)) b.0 in
    let fits = count_twos 35 (length (terms_written ps terms)) (length terms) (terms_length ps terms) (leb-true 1 (length terms) b.1) (omega (arith, terms_length ps terms, leb-true (length terms) 16 q.1)) in
    fields_to Amounts ps line (row_for n (sum relation bound terms)) (codes "sum") (relation_written relation ∷ signed_decimal bound ∷ terms_written ps terms)
    (name_lacks (codes "sum") refl) (relation_lacks relation, (signed_lacks bound small, terms_lack ps Amounts places terms s.1))
    refl
    (ap (sum_record ps line) (cond-true _ _ _ fits)
    ∙ raised_to (relation_at (at line 1) (relation_written relation)) _ relation _ (relation_to (at line 1) relation)
    (raised_to (number_in (negsuc 999_999_999_999) (pos 1_000_000_000_000) (at line 2) (signed_decimal bound)) _ bound _ (number_to (negsuc 999_999_999_999) (pos 1_000_000_000_000) (at line 2) bound small small)
    (then_to (terms_from ps line 3 [] (terms_written ps terms)) _ terms _ (terms_to ps Amounts places terms s.1 line) refl)))
rule_to Amounts ps line (pair first second pairs) places e = let z : ◌≡◌ {A = ℕ} 0 1 = cc in absurd (omega arith)
rule_to Amounts ps line (apart first second) places e = let z : ◌≡◌ {A = ℕ} 0 1 = cc in absurd (omega arith)
rule_to Choices ps line (sum relation bound terms) places e = let z : ◌≡◌ {A = ℕ} 0 1 = cc in absurd (omega arith)
rule_to Choices ps line (pair first second pairs) places e =
    let n = length ps in
    let s = and_parts (is_pair_row n first second (length pairs)) (all_tokens pairs) e in
    let q = and_parts (two_places_test n first second && ltb 0 (length pairs)) (leb (length pairs) 100) s.0 in
    let b = and_parts (two_places_test n first second) (ltb 0 (length pairs)) q.0 in
    let two = two_lack Choices ps first second places b.0 in
    let fits = count_twos 203 (length (tokens_written pairs)) (length pairs) (tokens_length pairs) (omega (arith, ltb-true 0 (length pairs) b.1)) (omega (arith, tokens_length pairs, leb-true (length pairs) 100 q.1)) in
    fields_to Choices ps line (row_for n (pair first second pairs)) (codes "pair") (name_of ps first ∷ name_of ps second ∷ tokens_written pairs)
    (name_lacks (codes "pair") refl) (two.0, (two.1, tokens_lack pairs s.1))
    refl
    (ap (pair_record ps line) (cond-true _ _ _ fits)
    ∙ then_to (two_places ps line (name_of ps first) (name_of ps second)) _ _ _ (two_to Choices ps first second places b.0 line)
    (raised_to (tokens_from line 3 [] (tokens_written pairs)) _ pairs _ (tokens_to line pairs s.1) refl))
rule_to Choices ps line (apart first second) places e =
    let two = two_lack Choices ps first second places e in
    fields_to Choices ps line (row_for (length ps) (apart first second)) (codes "apart") (name_of ps first ∷ name_of ps second ∷ [])
    (name_lacks (codes "apart") refl) (two.0, (two.1, tt))
    refl
    (then_to (two_places ps line (name_of ps first) (name_of ps second)) _ _ _ (two_to Choices ps first second places e line) refl)
