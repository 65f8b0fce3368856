-- A rule line that is read uses the name of a place. Assumes nothing.
use Rattle.std.proofs.Common.{◌≡◌, ℕ, ◌%◌, ◌≤◌, Bool, true, false, cond, not, ◌&&◌, eqb, ltb, leb, List, [], ◌∷◌, map, length, pos, negsuc, Some, None, Ok, Option, Result, refl, arith}
use Rattle.std.proofs.lemmas.Bool.{and_parts, leb-true, ltb-true}
use Rattle.books.specs.Boards.{has}
use Rattle.rules.specs.declared.sums.term.Term.{Term}
use Rattle.rules.specs.SumTerms as terms
use Rattle.rules.specs.SumTerms.{is_coefficient, term_test, terms_test}
use Rattle.text.specs.declared.fault.At.{At}
use Rattle.text.specs.Fields.{fields_of, others}
use Rattle.text.specs.Numbers.{number_in}
use Rattle.sheets.specs.declared.fault.SheetFault.{SheetFault}
use Rattle.sheets.specs.declared.title.SpanKind.{SpanKind}
use Rattle.sheets.specs.declared.title.SpanKind.TheVariants.{Amounts, Choices}
use Rattle.records.specs.declared.record.Word.{Word}
use Rattle.records.specs.declared.record.Word.TheVariants as word
use Rattle.records.specs.Between.{two_places, pair_fields, apart_fields}
use Rattle.records.specs.Names.{known_place}
use Rattle.records.specs.Places.{Place}
use Rattle.records.specs.Records.{head, record_of}
use Rattle.records.specs.Rules.{Row}
use Rattle.records.specs.RuleLines.{sum_record, pair_record, apart_record, sum_line_of, pair_line_of, apart_line_of, rule_by, rule_line_of}
use Rattle.records.specs.Steps.{at, then}
use Rattle.records.specs.Sums.{relation_at, term_of, terms_from, sum_fields}
use Rattle.records.specs.Words.{word_of, by_twos}
use Rattle.records.proofs.Going.{then_ok, raised_ok}
use Rattle.records.proofs.Summing.{place_below, terms_ok}
use Rattle.records.proofs.Taking.{length_others, twos_some}

-- terms over so many places: there is one, so there is a place
term_place : (n : ℕ) (ts : List Term) → terms_test n ts ≡ true → 1 ≤ length ts → 1 ≤ n
term_place n [] e h = absurd (omega arith)
term_place n (t ∷ ts) e h =
    let s = and_parts (term_test n t && not (has t.place (map terms.place_of ts))) (terms_test n ts) e in
    let q = and_parts (term_test n t) (not (has t.place (map terms.place_of ts))) s.0 in
    let p = and_parts (is_coefficient t.coefficient) (ltb t.place n) q.0 in
    omega (arith, ltb-true t.place n p.1)

module _ (ps : List Place) (line : ℕ) where
  -- a sum whose terms have a field
  sum_place : (relation bound : List ℕ) (fs : List (List ℕ)) (row : Row) → 1 ≤ length fs → sum_fields ps line relation bound fs ≡ Ok row → 1 ≤ length ps
  sum_place relation bound fs row some e =
      let r = raised_ok (relation_at (at line 1) relation) _ row e in
      let b = raised_ok (number_in (negsuc 999_999_999_999) (pos 1_000_000_000_000) (at line 2) bound) _ row r.rest in
      let ts = then_ok (terms_from ps line 3 [] fs) _ row b.rest in
      term_place (length ps) ts.value (terms_ok ps line fs ts.value ts.read) (twos_some (term_of ps line) 3 fs ts.value ts.read some)

  -- a name that is known, whatever comes of it
  name_place : {B : Type 0} (a : At) (name : List ℕ) (next : ℕ → Result B SheetFault) (b : B) → then (known_place ps a name) next ≡ Ok b → 1 ≤ length ps
  name_place a name next b e =
      let r = then_ok (known_place ps a name) next b e in
      omega (arith, place_below ps a name r.value r.read)

  pair_place : (first second : List ℕ) (pairs : List (List ℕ)) (row : Row) → pair_fields ps line first second pairs ≡ Ok row → 1 ≤ length ps
  pair_place first second pairs row e =
      let r = then_ok (two_places ps line first second) _ row e in
      name_place (at line 1) first _ r.value r.read

  apart_place : (first second : List ℕ) (row : Row) → apart_fields ps line first second ≡ Ok row → 1 ≤ length ps
  apart_place first second row e =
      let r = then_ok (two_places ps line first second) _ row e in
      name_place (at line 1) first _ r.value r.read

  -- lines by their fields, where the count of a sum line's leaves some for the terms
  module _ (fs : List (List ℕ)) (row : Row) where
    sum_line_place : sum_line_of ps line fs ≡ Ok row → 1 ≤ length ps
    sum_line_place e = go (by_twos 35 (length fs)) refl e
      where
        go : (t : Bool) → by_twos 35 (length fs) ≡ t → sum_record ps line (cond t (Some (record_of word.Sum fs)) None) ≡ Ok row → 1 ≤ length ps
        go true t e =
            let s = and_parts (leb 5 (length fs) && leb (length fs) 35) (eqb (length fs % 2) 1) t in
            let h = leb-true 5 (length fs) (and_parts (leb 5 (length fs)) (leb (length fs) 35) s.0).0 in
            sum_place (head (others fs)) (head (others (others fs))) (others (others (others fs))) row (omega (arith, length_others fs, length_others (others fs), length_others (others (others fs)))) e
        go false t e = let z : ◌≡◌ {A = ℕ} 0 1 = cc in absurd (omega arith)

    pair_line_place : pair_line_of ps line fs ≡ Ok row → 1 ≤ length ps
    pair_line_place e = go (by_twos 203 (length fs)) e
      where
        go : (t : Bool) → pair_record ps line (cond t (Some (record_of word.Pair fs)) None) ≡ Ok row → 1 ≤ length ps
        go true e = pair_place (head (others fs)) (head (others (others fs))) (others (others (others fs))) row e
        go false e = let z : ◌≡◌ {A = ℕ} 0 1 = cc in absurd (omega arith)

    apart_line_place : apart_line_of ps line fs ≡ Ok row → 1 ≤ length ps
    apart_line_place e = go (eqb (length fs) 3) e
      where
        go : (t : Bool) → apart_record ps line (cond t (Some (record_of word.Apart fs)) None) ≡ Ok row → 1 ≤ length ps
        go true e = apart_place (head (others fs)) (head (others (others fs))) row e
        go false e = let z : ◌≡◌ {A = ℕ} 0 1 = cc in absurd (omega arith)

  pub rule_line_place : (kind : SpanKind) (bytes : List ℕ) (row : Row) → rule_line_of kind ps line bytes ≡ Ok row → 1 ≤ length ps
  rule_line_place kind bytes row e = go kind (word_of (head (fields_of bytes))) e
    where
      go : (kind : SpanKind) (w : Option Word) → rule_by kind ps line (fields_of bytes) w ≡ Ok row → 1 ≤ length ps
      go kind None e = let z : ◌≡◌ {A = ℕ} 0 1 = cc in absurd (omega arith)
      go kind (Some word.Title) e = let z : ◌≡◌ {A = ℕ} 0 1 = cc in absurd (omega arith)
      go kind (Some word.Place) e = let z : ◌≡◌ {A = ℕ} 0 1 = cc in absurd (omega arith)
      go Amounts (Some word.Sum) e = sum_line_place (fields_of bytes) row e
      go Amounts (Some word.Pair) e = let z : ◌≡◌ {A = ℕ} 0 1 = cc in absurd (omega arith)
      go Amounts (Some word.Apart) e = let z : ◌≡◌ {A = ℕ} 0 1 = cc in absurd (omega arith)
      go Choices (Some word.Sum) e = let z : ◌≡◌ {A = ℕ} 0 1 = cc in absurd (omega arith)
      go Choices (Some word.Pair) e = pair_line_place (fields_of bytes) row e
      go Choices (Some word.Apart) e = apart_line_place (fields_of bytes) row e
