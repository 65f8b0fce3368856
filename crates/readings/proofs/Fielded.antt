-- Lines by their fields, and the numbers and names that fields spell. Assumes nothing.
use Rattle.std.proofs.Common.{◌≡◌, ℕ, ◌≤◌, Bool, true, false, cond, not, ◌&&◌, eqb, leb, List, [], ◌∷◌, length, ℤ, pos, negsuc, Some, None, Ok, Err, Option, Result, sym, refl, ap, ◌∙◌, subst, arith, rules}
use borrow.Author.Differences.{ints}
use lib.Signed.{le_z}
use Rattle.std.proofs.lemmas.Slice.Eq.{compares_Decides}
use Rattle.std.proofs.lemmas.List.{nil_from_length}
use Rattle.std.proofs.lemmas.Bool.{and_parts, and_from, cond-true, leb-true, le-leb, eqb-true}
use Rattle.std.specs.Fmt.{signed_decimal}
use Rattle.std.specs.List.{AllByRecursion}
use Rattle.text.specs.declared.fault.At.{At}
use Rattle.text.specs.declared.fault.FieldFault.{FieldFault}
use Rattle.text.specs.declared.fault.FieldFault.TheVariants.{Malformed, OutOfRange}
use Rattle.text.specs.Fields.{fields_of, others}
use Rattle.text.specs.Names.{plain_bytes, name_test, name_at, same_name}
use Rattle.text.specs.Numbers.{is_digit, all_digits, decimal_value, plain_size, unsigned_of, negated, unnegated, negative_of, positive_of, number_of, Short, within, number_in}
use Rattle.text.specs.Parts.{Lacks}
use Rattle.text.proofs.Cutting.{cut_joined, joined_cut}
use Rattle.text.proofs.Spelling.{number_law}
use Rattle.sheets.specs.declared.fault.SheetFault.{SheetFault}
use Rattle.records.specs.Numbers.{size, sized, count_within}
use Rattle.records.specs.Records.{Fielded, head}
use Rattle.records.specs.Steps.{then, unless_fault}
use Rattle.records.proofs.Going.{passed_true}
use Rattle.records.proofs.Taking.{length_others}
use Rattle.readings.specs.Written.{tabbed}

-- checks that are passed one after the other
pub then_to : {A B E : Type 0} (r : Result A E) (next : A → Result B E) (a : A) (b : B) → r ≡ Ok a → next a ≡ Ok b → then r next ≡ Ok b
then_to r next a b e f = ap (λ x. then x next) e ∙ f

pub raised_to : {A B : Type 0} (r : Result A FieldFault) (next : A → Result B SheetFault) (a : A) (b : B) → r ≡ Ok a → next a ≡ Ok b → unless_fault r next ≡ Ok b
raised_to r next a b e f = ap (λ x. unless_fault x next) e ∙ f

-- a line with the fields given is those fields, written out
pub line_from : (bytes : List ℕ) (fs : List (List ℕ)) → fields_of bytes ≡ fs → bytes ≡ tabbed fs
line_from bytes fs e = sym (cut_joined 9 bytes) ∙ ap tabbed e

-- fields without a tab are those of the line that they make
pub line_to : (f : List ℕ) (fs : List (List ℕ)) → Lacks 9 f → AllByRecursion (Lacks 9) fs → fields_of (tabbed (f ∷ fs)) ≡ f ∷ fs
line_to f fs l ls = joined_cut 9 f fs l ls

-- a record that is read has a right count of fields
module _ {A E : Type 0} (read : Option Fielded → Result A E) (fault : E) (none : read None ≡ Err fault) where
  pub counted_from : (t : Bool) (r : Fielded) (a : A) → read (cond t (Some r) None) ≡ Ok a → (t ≡ true) × (read (Some r) ≡ Ok a)
  counted_from true r a e = (refl, e)
  counted_from false r a e = let z : ◌≡◌ {A = ℕ} 0 1 = cc in absurd (omega arith)

-- fields of which there are enough, one by one
pub some_field : (fs : List (List ℕ)) (a : List ℕ) (gs : List (List ℕ)) → 1 ≤ length fs → head fs ≡ a → others fs ≡ gs → fs ≡ a ∷ gs
some_field [] a gs h e o = absurd (omega arith)
some_field (f ∷ fs) a gs h e o = cc

pub one_field : (fs : List (List ℕ)) (a : List ℕ) → length fs ≡ 1 → head fs ≡ a → fs ≡ a ∷ []
one_field fs a h e = some_field fs a [] (omega arith) e (nil_from_length (others fs) (omega (arith, length_others fs)))

pub two_fields : (fs : List (List ℕ)) (a b : List ℕ) → length fs ≡ 2 → head fs ≡ a → head (others fs) ≡ b → fs ≡ a ∷ b ∷ []
two_fields fs a b h e f = some_field fs a (b ∷ []) (omega arith) e (one_field (others fs) b (omega (arith, length_others fs)) f)

pub three_fields : (fs : List (List ℕ)) (a b c : List ℕ) (gs : List (List ℕ)) → 3 ≤ length fs → head fs ≡ a → head (others fs) ≡ b → head (others (others fs)) ≡ c → others (others (others fs)) ≡ gs → fs ≡ a ∷ b ∷ c ∷ gs
three_fields fs a b c gs h e f g o =
    let l = length_others fs in
    let m = length_others (others fs) in
    some_field fs a (b ∷ c ∷ gs) (omega arith) e (some_field (others fs) b (c ∷ gs) (omega arith) f (some_field (others (others fs)) c gs (omega arith) g o))

-- digits are no tabs
digits_lack : (ds : List ℕ) → all_digits ds ≡ true → Lacks 9 ds
digits_lack [] e = tt
digits_lack (d ∷ ds) e =
    let p = and_parts (is_digit d) (all_digits ds) e in
    let q = and_parts (leb 48 d) (leb d 57) p.0 in
    ((λ z. omega (arith, leb-true 48 d q.0)), digits_lack ds p.1)

unsigned_lacks : (ds : List ℕ) (n : ℕ) → unsigned_of ds ≡ Some n → Lacks 9 ds
unsigned_lacks ds n e = go (plain_size ds) (all_digits ds) refl e
  where
    go : (s t : Bool) → all_digits ds ≡ t → cond s (cond t (Some (decimal_value ds)) None) None ≡ Some n → Lacks 9 ds
    go true true a e = digits_lack ds a
    go true false a e = let z : ◌≡◌ {A = ℕ} 0 1 = cc in absurd (omega arith)
    go false t a e = let z : ◌≡◌ {A = ℕ} 0 1 = cc in absurd (omega arith)

-- a field that spells a number has no tab
number_lacks : (bs : List ℕ) (z : ℤ) → number_of bs ≡ Some z → Lacks 9 bs
number_lacks [] z e = tt
number_lacks (b ∷ bs) z e = go (eqb b 45) refl e
  where
    minus : (o : Option ℕ) → unsigned_of bs ≡ o → negated o ≡ Some z → Lacks 9 bs
    minus None u e = let z : ◌≡◌ {A = ℕ} 0 1 = cc in absurd (omega arith)
    minus (Some n) u e = unsigned_lacks bs n u

    plain : (o : Option ℕ) → unsigned_of (b ∷ bs) ≡ o → unnegated o ≡ Some z → Lacks 9 (b ∷ bs)
    plain None u e = let z : ◌≡◌ {A = ℕ} 0 1 = cc in absurd (omega arith)
    plain (Some n) u e = unsigned_lacks (b ∷ bs) n u

    go : (t : Bool) → eqb b 45 ≡ t → cond t (negative_of bs) (positive_of (b ∷ bs)) ≡ Some z → Lacks 9 (b ∷ bs)
    go true m e = ((λ n. omega (arith, eqb-true b 45 m)), minus (unsigned_of bs) refl e)
    go false m e = plain (unsigned_of (b ∷ bs)) refl e

-- a number within a range
abbrev pub Within : ℤ → ℤ → ℤ → Type 0
Within low high z = (le_z low z ≡ true) × (le_z z high ≡ true)

-- all numbers of a sheet are at most a million millions
abbrev lowest : ℤ
lowest = negsuc 999_999_999_999

abbrev highest : ℤ
highest = pos 1_000_000_000_000

abbrev pub Small : ℤ → Type 0
Small z = Within lowest highest z

small_short : (z : ℤ) → Small z → Short z
small_short (pos n) h = omega (arith, leb-true n 1_000_000_000_000 h.1)
small_short (negsuc n) h = omega (arith, leb-true n 999_999_999_999 h.0)

-- one number is at most another, which is at most a third
pub le_trans : (x y z : ℤ) → le_z x y ≡ true → le_z y z ≡ true → le_z x z ≡ true
le_trans x y z p q = grind (arith, ints)

pub small_within : (low high z : ℤ) → le_z lowest low ≡ true → le_z high highest ≡ true → Within low high z → Small z
small_within low high z l h w = (le_trans lowest low z l w.0, le_trans z high highest w.1 h)

pub signed_lacks : (z : ℤ) → Small z → Lacks 9 (signed_decimal z)
signed_lacks z h = number_lacks (signed_decimal z) z ((number_law (signed_decimal z) z).1 (refl, small_short z h))

-- a field is granted as a number exactly if it is the number written out, which lies in the range
pub number_from : (low high : ℤ) (at : At) (field : List ℕ) (z : ℤ) → number_in low high at field ≡ Ok z → (field ≡ signed_decimal z) × Within low high z
number_from low high at field z e = go (number_of field) refl e
  where
    go : (o : Option ℤ) → number_of field ≡ o → within low high at o ≡ Ok z → (field ≡ signed_decimal z) × Within low high z
    go None o e = let z : ◌≡◌ {A = ℕ} 0 1 = cc in absurd (omega arith)
    go (Some y) o e =
        let p = passed_true (le_z low y && le_z y high) (OutOfRange at) (Ok y) z e in
        let same : y ≡ z = cc in
        subst (λ x. (field ≡ signed_decimal x) × Within low high x) same (((number_law field y).0 o).0, and_parts (le_z low y) (le_z y high) p.0)

pub number_to : (low high : ℤ) (at : At) (z : ℤ) → Small z → Within low high z → number_in low high at (signed_decimal z) ≡ Ok z
number_to low high at z s h =
    ap (within low high at) ((number_law (signed_decimal z) z).1 (refl, small_short z s))
    ∙ cond-true _ _ _ (and_from (le_z low z) (le_z z high) h.0 h.1)

-- the same of counts
pub count_from : (low high : ℕ) (at : At) (field : List ℕ) (n : ℕ) → count_within low high at field ≡ Ok n → (field ≡ signed_decimal (pos n)) × (low ≤ n) × (n ≤ high)
count_from low high at field n e = go (number_in (pos low) (pos high) at field) (number_from (pos low) (pos high) at field) e
  where
    near : (z : ℤ) → (field ≡ signed_decimal z) × Within (pos low) (pos high) z → size z ≡ n → (field ≡ signed_decimal (pos n)) × (low ≤ n) × (n ≤ high)
    near (pos m) h s = (h.0 ∙ ap (λ k. signed_decimal (pos k)) s, omega (arith, leb-true low m h.1.0), omega (arith, leb-true m high h.1.1))
    near (negsuc m) h s = let z : ◌≡◌ {A = ℕ} 0 1 = cc h.1.0 in absurd (omega arith)

    go : (r : Result ℤ FieldFault) → ((z : ℤ) → r ≡ Ok z → (field ≡ signed_decimal z) × Within (pos low) (pos high) z) → sized r ≡ Ok n → (field ≡ signed_decimal (pos n)) × (low ≤ n) × (n ≤ high)
    go (Ok z) f e = near z (f z refl) (let s : size z ≡ n = cc in s)
    go (Err fault) f e = let z : ◌≡◌ {A = ℕ} 0 1 = cc in absurd (omega arith)

pub count_small : (n : ℕ) → n ≤ 1_000_000 → Small (pos n)
count_small n h = (refl, le-leb n 1_000_000_000_000 (omega arith))

pub count_to : (low high : ℕ) (at : At) (n : ℕ) → n ≤ 1_000_000 → low ≤ n → n ≤ high → count_within low high at (signed_decimal (pos n)) ≡ Ok n
count_to low high at n s l h = ap sized (number_to (pos low) (pos high) at (pos n) (count_small n s) (le-leb low n l, le-leb n high h))

-- names have no tab
plain_lacks : (bs : List ℕ) → plain_bytes bs ≡ true → Lacks 9 bs
plain_lacks [] e = tt
plain_lacks (b ∷ bs) e =
    let p = and_parts (leb 32 b && not (eqb b 127)) (plain_bytes bs) e in
    ((λ z. omega (arith, leb-true 32 b (and_parts (leb 32 b) (not (eqb b 127)) p.0).0)), plain_lacks bs p.1)

pub name_lacks : (field : List ℕ) → name_test field ≡ true → Lacks 9 field
name_lacks field e = plain_lacks field (and_parts (leb (length field) 24) (plain_bytes field) (and_parts (leb 1 (length field)) _ e).1).1

-- a field that is granted as a name is the name
pub name_from : (at : At) (field name : List ℕ) → name_at at field ≡ Ok name → (name_test field ≡ true) × (field ≡ name)
name_from at field name e =
    let p = passed_true (name_test field) (Malformed at) (Ok field) name e in
    let same : field ≡ name = cc in
    (p.0, same)

pub name_to : (at : At) (name : List ℕ) → name_test name ≡ true → name_at at name ≡ Ok name
name_to at name e = cond-true _ _ _ e

-- names are the same exactly if their bytes are equal
pub same_from : (a b : List ℕ) → same_name a b ≡ true → a ≡ b
same_from a b e = (compares_Decides same_name (search rules) a b).0 e

pub same_to : (a : List ℕ) → same_name a a ≡ true
same_to a = (compares_Decides same_name (search rules) a a).1 refl
