-- The faults of a line tell its number. Assumes nothing.
use Rattle.std.proofs.Common.{◌≡◌, ℕ, ◌+◌, Bool, true, false, cond, ◌&&◌, eqb, ltb, List, [], ◌∷◌, ◌++◌, length, ℤ, pos, negsuc, Some, None, Ok, Err, codes, Option, Result, refl, subst, arith}
use lib.Signed.{le_z}
use Rattle.std.specs.Str.{bytes_eq}
use Rattle.rules.specs.declared.sums.term.Term.{Term}
use Rattle.rules.specs.SumRows.{uses}
use Rattle.text.specs.declared.fault.At.{At}
use Rattle.text.specs.declared.fault.TextFault.TheVariants.{Unended, TooLong}
use Rattle.text.specs.declared.fault.FieldFault.{FieldFault}
use Rattle.text.specs.declared.fault.FieldFault.TheVariants.{Malformed, OutOfRange}
use Rattle.text.specs.declared.fault.Told.{Told}
use Rattle.text.specs.Faults.{field_told}
use Rattle.text.specs.Fields.{fields_of, others}
use Rattle.text.specs.Names.{name_test, name_at}
use Rattle.text.specs.Numbers.{number_of, within, number_in}
use Rattle.sheets.specs.declared.fault.SheetFault.{SheetFault}
use Rattle.sheets.specs.declared.fault.SheetFault.TheVariants as fault
use Rattle.sheets.specs.declared.title.SpanKind.{SpanKind}
use Rattle.sheets.specs.declared.title.SpanKind.TheVariants.{Amounts, Choices}
use Rattle.records.specs.declared.kind.SheetKind.{SheetKind}
use Rattle.records.specs.declared.record.Word.{Word}
use Rattle.records.specs.declared.record.Word.TheVariants as word
use Rattle.records.specs.Between.{two_places, tokens_at, tokens_from, pair_fields, apart_fields}
use Rattle.sheets.specs.Faults.{sheet_told}
use Rattle.records.specs.Names.{position_after, known, known_place}
use Rattle.records.specs.Numbers.{sized, count_within}
use Rattle.records.specs.Places as places
use Rattle.records.specs.Places.{Place, declares, opening_of, place_record, place_line}
use Rattle.records.specs.Records.{Fielded, title, place, sum, pair, apart, head, counted, record_of_line}
use Rattle.records.specs.Rules.{Row}
use Rattle.records.specs.RuleLines.{sum_record, pair_record, apart_record, rule_by, rule_line_of}
use Rattle.records.specs.Steps.{at, then, unless_fault}
use Rattle.records.specs.Sums.{is_zero, relation_at, coefficient_at, term_of, terms_from, sum_fields}
use Rattle.records.specs.Titles.{sheet_word, span_word, title_record, title_checked}
use Rattle.records.specs.Twos.{twos_from}
use Rattle.records.specs.Words.{word_of}
use Rattle.readings.specs.Lines.{Line, whole, long, unended}
use Rattle.readings.specs.Readings.{fits, text_fault, rule_of, place_of}

-- where a result is a fault, the fault tells the line
pub record Tells {A E : Type 0} (told : E → Told) (line : ℕ) (r : Result A E) : Type 0 where
  pub tells : (f : E) → r ≡ Err f → (told f).line ≡ line

-- in steps: what is read, a fault, one result after another, and one of two results
module _ {E : Type 0} {told : E → Told} {line : ℕ} where
  pub ok_tells : {A : Type 0} (a : A) → Tells told line (Ok a)
  ok_tells a = record { tells = λ f e. (let z : ◌≡◌ {A = ℕ} 0 1 = cc in absurd (omega arith)) }

  pub err_tells : {A : Type 0} (f : E) → (told f).line ≡ line → Tells {A = A} told line (Err f)
  err_tells f is = record { tells = λ g e. (let same : f ≡ g = cc in subst (λ x. (told x).line ≡ line) same is) }

  pub then_tells : {A B : Type 0} (r : Result A E) (next : A → Result B E) → Tells told line r → ((a : A) → Tells told line (next a)) → Tells told line (then r next)
  then_tells (Ok a) next one more = more a
  then_tells (Err f) next one more = err_tells f (one.tells f refl)

  pub cond_tells : {A : Type 0} (t : Bool) {r s : Result A E} → Tells told line r → Tells told line s → Tells told line (cond t r s)
  cond_tells true one two = one
  cond_tells false one two = two

  -- fields two by two
  pub twos_tells : {T : Type 0} (read : ℕ → List T → List ℕ → List ℕ → Result T E) → ((f : ℕ) (ts : List T) (a b : List ℕ) → Tells told line (read f ts a b))
      → (f : ℕ) (ts : List T) (fs : List (List ℕ)) → Tells told line (twos_from read f ts fs)
  twos_tells read each f ts [] = ok_tells ts
  twos_tells read each f ts (a ∷ []) = then_tells (read f ts a []) _ (each f ts a []) (λ t. ok_tells (ts ++ (t ∷ [])))
  twos_tells read each f ts (a ∷ (b ∷ fs)) = then_tells (read f ts a b) _ (each f ts a b) (λ t. twos_tells read each (f + 2) (ts ++ (t ∷ [])) fs)

-- a fault of a field that rises to one of the sheet
pub raised_tells : {line : ℕ} {A B : Type 0} (r : Result A FieldFault) (next : A → Result B SheetFault) → Tells field_told line r → ((a : A) → Tells sheet_told line (next a)) → Tells sheet_told line (unless_fault r next)
raised_tells (Ok a) next one more = more a
raised_tells (Err f) next one more = err_tells (fault.Field f) (one.tells f refl)

-- fields
module _ (a : At) (field : List ℕ) where
  name_tells : Tells field_told a.line (name_at a field)
  name_tells = cond_tells (name_test field) (ok_tells field) (err_tells (Malformed a) refl)

  number_tells : (low high : ℤ) → Tells field_told a.line (number_in low high a field)
  number_tells low high = go (number_of field)
    where
      go : (o : Option ℤ) → Tells field_told a.line (within low high a o)
      go None = err_tells (Malformed a) refl
      go (Some z) = cond_tells (le_z low z && le_z z high) (ok_tells z) (err_tells (OutOfRange a) refl)

  count_tells : (low high : ℕ) → Tells field_told a.line (count_within low high a field)
  count_tells low high = go (number_in (pos low) (pos high) a field) (number_tells (pos low) (pos high))
    where
      go : (r : Result ℤ FieldFault) → Tells field_told a.line r → Tells field_told a.line (sized r)
      go (Ok z) t = ok_tells _
      go (Err f) t = err_tells f (t.tells f refl)

  known_tells : (ps : List Place) → Tells sheet_told a.line (known_place ps a field)
  known_tells ps = raised_tells (name_at a field) _ name_tells (λ name. go (position_after 0 ps name))
    where
      go : (o : Option ℕ) → Tells sheet_told a.line (known a o)
      go None = err_tells (fault.Name a) refl
      go (Some p) = ok_tells p

  relation_tells : Tells field_told a.line (relation_at a field)
  relation_tells =
      cond_tells (bytes_eq field (codes "<=")) (ok_tells _)
      (cond_tells (bytes_eq field (codes ">=")) (ok_tells _)
      (cond_tells (bytes_eq field (codes "=")) (ok_tells _) (err_tells (Malformed a) refl)))

  coefficient_tells : Tells field_told a.line (coefficient_at a field)
  coefficient_tells =
      then_tells (number_in (negsuc 9_999) (pos 10_000) a field) _ (number_tells (negsuc 9_999) (pos 10_000))
      (λ c. cond_tells (is_zero c) (err_tells (OutOfRange a) refl) (ok_tells c))

-- the fields of a line
module _ (ps : List Place) (line : ℕ) where
  term_tells : (f : ℕ) (ts : List Term) (coefficient name : List ℕ) → Tells sheet_told line (term_of ps line f ts coefficient name)
  term_tells f ts coefficient name =
      raised_tells (coefficient_at (at line f) coefficient) _ (coefficient_tells (at line f) coefficient)
      (λ a. then_tells (known_place ps (at line (f + 1)) name) _ (known_tells (at line (f + 1)) name ps)
      (λ p. cond_tells (uses ts p) (err_tells (fault.Name (at line (f + 1))) refl) (ok_tells _)))

  sum_tells : (relation bound : List ℕ) (terms : List (List ℕ)) → Tells sheet_told line (sum_fields ps line relation bound terms)
  sum_tells relation bound terms =
      raised_tells (relation_at (at line 1) relation) _ (relation_tells (at line 1) relation)
      (λ r. raised_tells (number_in (negsuc 999_999_999_999) (pos 1_000_000_000_000) (at line 2) bound) _ (number_tells (at line 2) bound (negsuc 999_999_999_999) (pos 1_000_000_000_000))
      (λ b. then_tells (terms_from ps line 3 [] terms) _ (twos_tells (term_of ps line) term_tells 3 [] terms) (λ ts. ok_tells _)))

  two_places_tell : (first second : List ℕ) → Tells sheet_told line (two_places ps line first second)
  two_places_tell first second =
      then_tells (known_place ps (at line 1) first) _ (known_tells (at line 1) first ps)
      (λ p. then_tells (known_place ps (at line 2) second) _ (known_tells (at line 2) second ps)
      (λ q. cond_tells (eqb p q) (err_tells (fault.Name (at line 2)) refl) (ok_tells _)))

  tokens_tell : (f : ℕ) (first second : List ℕ) → Tells field_told line (tokens_at line f first second)
  tokens_tell f first second =
      then_tells (count_within 0 63 (at line f) first) _ (count_tells (at line f) first 0 63)
      (λ t. then_tells (count_within 0 63 (at line (f + 1)) second) _ (count_tells (at line (f + 1)) second 0 63) (λ u. ok_tells _))

  pair_tells : (first second : List ℕ) (pairs : List (List ℕ)) → Tells sheet_told line (pair_fields ps line first second pairs)
  pair_tells first second pairs =
      then_tells (two_places ps line first second) _ (two_places_tell first second)
      (λ two. raised_tells (tokens_from line 3 [] pairs) _ (twos_tells (λ g us. tokens_at line g) (λ g us. tokens_tell g) 3 [] pairs) (λ ts. ok_tells _))

  apart_tells : (first second : List ℕ) → Tells sheet_told line (apart_fields ps line first second)
  apart_tells first second = then_tells (two_places ps line first second) _ (two_places_tell first second) (λ two. ok_tells _)

  -- records: each of the others is fault 8, of the line
  sum_record_tells : (o : Option Fielded) → Tells sheet_told line (sum_record ps line o)
  sum_record_tells None = err_tells (fault.Count line) refl
  sum_record_tells (Some (sum relation bound terms)) = sum_tells relation bound terms
  sum_record_tells (Some (title sheet span)) = err_tells (fault.Count line) refl
  sum_record_tells (Some (place name numbers)) = err_tells (fault.Count line) refl
  sum_record_tells (Some (pair first second pairs)) = err_tells (fault.Count line) refl
  sum_record_tells (Some (apart first second)) = err_tells (fault.Count line) refl

  pair_record_tells : (o : Option Fielded) → Tells sheet_told line (pair_record ps line o)
  pair_record_tells None = err_tells (fault.Count line) refl
  pair_record_tells (Some (pair first second pairs)) = pair_tells first second pairs
  pair_record_tells (Some (title sheet span)) = err_tells (fault.Count line) refl
  pair_record_tells (Some (place name numbers)) = err_tells (fault.Count line) refl
  pair_record_tells (Some (sum relation bound terms)) = err_tells (fault.Count line) refl
  pair_record_tells (Some (apart first second)) = err_tells (fault.Count line) refl

  apart_record_tells : (o : Option Fielded) → Tells sheet_told line (apart_record ps line o)
  apart_record_tells None = err_tells (fault.Count line) refl
  apart_record_tells (Some (apart first second)) = apart_tells first second
  apart_record_tells (Some (title sheet span)) = err_tells (fault.Count line) refl
  apart_record_tells (Some (place name numbers)) = err_tells (fault.Count line) refl
  apart_record_tells (Some (sum relation bound terms)) = err_tells (fault.Count line) refl
  apart_record_tells (Some (pair first second pairs)) = err_tells (fault.Count line) refl

  -- a rule line
  rule_line_tells : (kind : SpanKind) (bytes : List ℕ) → Tells sheet_told line (rule_line_of kind ps line bytes)
  rule_line_tells kind bytes = go kind (word_of (head (fields_of bytes)))
    where
      go : (kind : SpanKind) (w : Option Word) → Tells sheet_told line (rule_by kind ps line (fields_of bytes) w)
      go kind None = err_tells (fault.Word line) refl
      go kind (Some word.Title) = err_tells (fault.Word line) refl
      go kind (Some word.Place) = err_tells (fault.Word line) refl
      go Amounts (Some word.Sum) = sum_record_tells (counted Amounts word.Sum (fields_of bytes))
      go Amounts (Some word.Pair) = err_tells (fault.Word line) refl
      go Amounts (Some word.Apart) = err_tells (fault.Word line) refl
      go Choices (Some word.Sum) = err_tells (fault.Word line) refl
      go Choices (Some word.Pair) = pair_record_tells (counted Choices word.Pair (fields_of bytes))
      go Choices (Some word.Apart) = apart_record_tells (counted Choices word.Apart (fields_of bytes))

-- a place line
opening_tells : (kind : SpanKind) (line : ℕ) (numbers : List (List ℕ)) → Tells field_told line (opening_of kind line numbers)
opening_tells Amounts line numbers =
    then_tells (number_in places.least places.most (at line 2) (head numbers)) _ (number_tells (at line 2) (head numbers) places.least places.most)
    (λ floor. then_tells (number_in floor places.most (at line 3) (head (others numbers))) _ (number_tells (at line 3) (head (others numbers)) floor places.most)
    (λ ceiling. ok_tells _))
opening_tells Choices line numbers = then_tells (count_within 1 64 (at line 2) (head numbers)) _ (count_tells (at line 2) (head numbers) 1 64) (λ count. ok_tells _)

place_line_tells : (kind : SpanKind) (ps : List Place) (line : ℕ) (bytes : List ℕ) → Tells sheet_told line (place_line kind ps line bytes)
place_line_tells kind ps line bytes = go (counted kind word.Place (fields_of bytes))
  where
    go : (o : Option Fielded) → Tells sheet_told line (place_record kind ps line o)
    go None = err_tells (fault.Count line) refl
    go (Some (place field numbers)) =
        raised_tells (name_at (at line 1) field) _ (name_tells (at line 1) field)
        (λ name. cond_tells (declares ps name) (err_tells (fault.Name (at line 1)) refl)
        (raised_tells (opening_of kind line numbers) _ (opening_tells kind line numbers) (λ opening. ok_tells _)))
    go (Some (title sheet span)) = err_tells (fault.Count line) refl
    go (Some (sum relation bound terms)) = err_tells (fault.Count line) refl
    go (Some (pair first second pairs)) = err_tells (fault.Count line) refl
    go (Some (apart first second)) = err_tells (fault.Count line) refl

-- a line of a sheet that is to be a rule or a place, where a table may be full
fits_tells : {X : Type 0} (room count line : ℕ) (x : X) → Tells sheet_told line (fits room count line x)
fits_tells room count line x = cond_tells (ltb count room) (ok_tells x) (err_tells (fault.Full line) refl)

pub rule_tells : (kind : SpanKind) (room : ℕ) (ps : List Place) (line : ℕ) (rs : List Row) (l : Line) → Tells sheet_told line (rule_of kind room ps line rs l)
rule_tells kind room ps line rs (whole bytes) = then_tells (rule_line_of kind ps line bytes) (fits room (length rs) line) (rule_line_tells ps line kind bytes) (fits_tells room (length rs) line)
rule_tells kind room ps line rs long = err_tells (text_fault (TooLong line)) refl
rule_tells kind room ps line rs unended = err_tells (text_fault (Unended line)) refl

pub place_tells : (kind : SpanKind) (room : ℕ) (line : ℕ) (ps : List Place) (l : Line) → Tells sheet_told line (place_of kind room line ps l)
place_tells kind room line ps (whole bytes) = then_tells (place_line kind ps line bytes) (fits room (length ps) line) (place_line_tells kind ps line bytes) (fits_tells room (length ps) line)
place_tells kind room line ps long = err_tells (text_fault (TooLong line)) refl
place_tells kind room line ps unended = err_tells (text_fault (Unended line)) refl

-- a title is the first line
pub title_tells : (sheet : SheetKind) (kind : SpanKind) (bytes : List ℕ) → Tells sheet_told 1 (title_checked sheet kind bytes)
title_tells sheet kind bytes = go (record_of_line kind bytes)
  where
    go : (o : Option Fielded) → Tells sheet_told 1 (title_record sheet kind o)
    go None = err_tells fault.Title refl
    go (Some (title a b)) = cond_tells (sheet_word sheet a && span_word kind b) (ok_tells _) (err_tells fault.Title refl)
    go (Some (place name numbers)) = err_tells fault.Title refl
    go (Some (sum relation bound terms)) = err_tells fault.Title refl
    go (Some (pair first second pairs)) = err_tells fault.Title refl
    go (Some (apart first second)) = err_tells fault.Title refl
