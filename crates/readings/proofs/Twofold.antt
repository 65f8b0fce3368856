-- Fields that are written and read two by two: the terms of sums, and pairs of tokens. Assumes nothing.
use Rattle.std.proofs.Common.{◌≡◌, ℕ, ◌+◌, ◌*◌, true, false, cond, not, ◌&&◌, ◌||◌, eqb, ltb, List, [], ◌∷◌, ◌++◌, map, length, ℤ, pos, negsuc, Ok, Err, Result, sym, refl, ap, ◌∙◌, subst, arith}
use lib.Signed.{le_z, lt_z}
use Rattle.std.proofs.ByRecursion.{All-push}
use Rattle.std.proofs.lemmas.List.{append-nil, append_assoc}
use Rattle.std.proofs.lemmas.Bool.{and_parts, and_from, or_parts, or_from, not-true, eqb-false, ne_eqb, cond-false, ltb-true, le-ltb, both_ways}
use Rattle.std.specs.Fmt.{signed_decimal}
use Rattle.std.specs.List.{AllByRecursion}
use Rattle.books.specs.Boards.{has}
use Rattle.rules.specs.declared.sums.term.Term.{Term}
use Rattle.rules.specs.ChoiceTests.{are_tokens}
use Rattle.rules.specs.SumRows.{uses}
use Rattle.rules.specs.SumTerms.{is_coefficient, term_test, place_of, terms_test}
use Rattle.text.specs.declared.fault.At.{At}
use Rattle.text.specs.declared.fault.FieldFault.{FieldFault}
use Rattle.text.specs.declared.fault.FieldFault.TheVariants.{OutOfRange}
use Rattle.text.specs.Numbers.{number_in}
use Rattle.text.specs.Parts.{Lacks}
use Rattle.sheets.specs.declared.title.SpanKind.{SpanKind}
use Rattle.records.specs.Between.{tokens_at, tokens_from}
use Rattle.records.specs.Names.{known_place}
use Rattle.records.specs.Numbers.{count_within}
use Rattle.records.specs.Places.{Place}
use Rattle.records.specs.Rules as rules
use Rattle.records.specs.Steps.{at}
use Rattle.records.specs.Sums.{is_zero, coefficient_at, term_of, terms_from}
use Rattle.records.specs.Twos.{twos_from}
use Rattle.records.proofs.Pairing.{are_tokens_lem}
use Rattle.records.proofs.Taking.{twos_keep}
use Rattle.records.proofs.Going.{then_ok, raised_ok, passed_false, same_ok}
use Rattle.readings.specs.Proper.{are_places, all_tokens}
use Rattle.readings.specs.Written.{name_of, terms_written, tokens_written}
use Rattle.readings.proofs.Fielded.{then_to, raised_to, Within, small_within, signed_lacks, number_from, number_to, count_from, count_to, count_small, name_lacks}
use Rattle.readings.proofs.Named.{names_new, known_from, known_to}

-- what is written as two fields each
module _ {T : Type 0} (one two : T → List ℕ) (written : List T → List (List ℕ))
    (written_none : written [] ≡ []) (written-more : (t : T) (ts : List T) → written (t ∷ ts) ≡ one t ∷ two t ∷ written ts) where
  twos_length : (ts : List T) → length (written ts) ≡ 2 * length ts
  twos_length [] = ap length written_none
  twos_length (t ∷ ts) = let l = ap length (written-more t ts) in let m = twos_length ts in omega arith

  twos_lack : (P : T → Type 0) → ((t : T) → P t → Lacks 9 (one t) × Lacks 9 (two t)) → (ts : List T) → AllByRecursion P ts → AllByRecursion (Lacks 9) (written ts)
  twos_lack P each [] h = subst (AllByRecursion (Lacks 9)) (sym written_none) tt
  twos_lack P each (t ∷ ts) h =
      let l = each t h.0 in
      subst (AllByRecursion (Lacks 9)) (sym (written-more t ts)) (l.0, (l.1, twos_lack P each ts h.1))

  module _ {E : Type 0} (read : ℕ → List T → List ℕ → List ℕ → Result T E) where
    -- what is read is what is written, where that holds of each two fields, and none is read of one field alone
    twos_from_lem : ((f : ℕ) (ts : List T) (a b : List ℕ) (t : T) → read f ts a b ≡ Ok t → (a ≡ one t) × (b ≡ two t))
        → ((f : ℕ) (ts : List T) (a : List ℕ) (t : T) → read f ts a [] ≡ Ok t → ⊥)
        → (f : ℕ) (ts : List T) (fs : List (List ℕ)) (all : List T) → twos_from read f ts fs ≡ Ok all → (us : List T) × (all ≡ ts ++ us) × (fs ≡ written us)
    twos_from_lem each none f ts [] all e = ([], sym (same_ok e) ∙ sym (append-nil ts), sym written_none)
    twos_from_lem each none f ts (a ∷ []) all e =
        let r = then_ok (read f ts a []) _ all e in
        absurd (none f ts a r.value r.read)
    twos_from_lem each none f ts (a ∷ (b ∷ fs)) all e =
        let r = then_ok (read f ts a b) _ all e in
        let w = each f ts a b r.value r.read in
        let q = twos_from_lem each none (f + 2) (ts ++ (r.value ∷ [])) fs all r.rest in
        let fields : a ∷ (b ∷ fs) ≡ one r.value ∷ two r.value ∷ written q.0 = cc (w.0, w.1, q.2) in
        (r.value ∷ q.0, q.1 ∙ append_assoc ts (r.value ∷ []) q.0, fields ∙ sym (written-more r.value q.0))

    -- what is written is read, where each is read behind those before it
    twos_to : (Proper : List T → List T → Type 0)
        → ((f : ℕ) (ts : List T) (t : T) (us : List T) → Proper ts (t ∷ us) → (read f ts (one t) (two t) ≡ Ok t) × Proper (ts ++ (t ∷ [])) us)
        → (f : ℕ) (ts us : List T) → Proper ts us → twos_from read f ts (written us) ≡ Ok (ts ++ us)
    twos_to Proper each f ts [] p = ap (twos_from read f ts) written_none ∙ ap Ok (sym (append-nil ts))
    twos_to Proper each f ts (t ∷ us) p =
        let r = each f ts t us p in
        ap (twos_from read f ts) (written-more t us)
        ∙ then_to (read f ts (one t) (two t)) (λ v. twos_from read (f + 2) (ts ++ (v ∷ [])) (written us)) t (ts ++ (t ∷ us)) r.0
        (twos_to Proper each (f + 2) (ts ++ (t ∷ [])) us r.1 ∙ ap Ok (append_assoc ts (t ∷ []) us))

-- all pairs of tokens
abbrev AreTokens : rules.Tokens → Type 0
AreTokens t = are_tokens t.first t.second ≡ true

all_tokens_from : (ts : List rules.Tokens) → all_tokens ts ≡ true → AllByRecursion AreTokens ts
all_tokens_from [] e = tt
all_tokens_from (t ∷ ts) e = let p = and_parts (are_tokens t.first t.second) (all_tokens ts) e in (p.0, all_tokens_from ts p.1)

all_tokens_to : (ts : List rules.Tokens) → AllByRecursion AreTokens ts → all_tokens ts ≡ true
all_tokens_to [] h = refl
all_tokens_to (t ∷ ts) h = and_from _ _ h.0 (all_tokens_to ts h.1)

abbrev first_token : rules.Tokens → List ℕ
first_token t = signed_decimal (pos t.first)

abbrev second_token : rules.Tokens → List ℕ
second_token t = signed_decimal (pos t.second)

module _ (line : ℕ) where
  abbrev tokens_read : ℕ → List rules.Tokens → List ℕ → List ℕ → Result rules.Tokens FieldFault
  tokens_read f ts = tokens_at line f

  tokens_each : (f : ℕ) (ts : List rules.Tokens) (a b : List ℕ) (t : rules.Tokens) → tokens_at line f a b ≡ Ok t → (a ≡ first_token t) × (b ≡ second_token t)
  tokens_each f ts a b t e =
      let r = then_ok (count_within 0 63 (at line f) a) _ t e in
      let q = then_ok (count_within 0 63 (at line (f + 1)) b) _ t r.rest in
      subst (λ (u : rules.Tokens). (a ≡ first_token u) × (b ≡ second_token u)) (same_ok q.rest)
      ((count_from 0 63 (at line f) a r.value r.read).0, (count_from 0 63 (at line (f + 1)) b q.value q.read).0)

  tokens_good : (f : ℕ) (ts : List rules.Tokens) (a b : List ℕ) (t : rules.Tokens) → tokens_at line f a b ≡ Ok t → AllByRecursion AreTokens ts → AllByRecursion AreTokens (ts ++ (t ∷ []))
  tokens_good f ts a b t e h =
      let r = then_ok (count_within 0 63 (at line f) a) _ t e in
      let q = then_ok (count_within 0 63 (at line (f + 1)) b) _ t r.rest in
      All-push AreTokens ts t h (subst AreTokens (same_ok q.rest) (are_tokens_lem (at line f) (at line (f + 1)) a b r.value q.value (sym r.read) (sym q.read)))

  tokens_none : (f : ℕ) (ts : List rules.Tokens) (a : List ℕ) (t : rules.Tokens) → tokens_at line f a [] ≡ Ok t → ⊥
  tokens_none f ts a t e =
      let r = then_ok (count_within 0 63 (at line f) a) _ t e in
      let n = r.rest in
      let z : ◌≡◌ {A = ℕ} 0 1 = cc in omega arith

  -- pairs are read exactly if they are pairs of tokens, written out
  pub tokens_from_lem : (fs : List (List ℕ)) (ts : List rules.Tokens) → tokens_from line 3 [] fs ≡ Ok ts → (fs ≡ tokens_written ts) × (all_tokens ts ≡ true)
  tokens_from_lem fs ts e =
      let r = twos_from_lem first_token second_token tokens_written refl (λ t us. refl) tokens_read tokens_each tokens_none 3 [] fs ts e in
      (r.2 ∙ ap tokens_written (sym r.1), all_tokens_to ts (twos_keep tokens_read (AllByRecursion AreTokens) tokens_good 3 [] fs ts tt e))

  pub tokens_to : (ts : List rules.Tokens) → all_tokens ts ≡ true → tokens_from line 3 [] (tokens_written ts) ≡ Ok ts
  tokens_to ts e = twos_to first_token second_token tokens_written refl (λ t us. refl) tokens_read (λ us vs. AllByRecursion AreTokens vs) each 3 [] ts (all_tokens_from ts e)
    where
      each : (f : ℕ) (us : List rules.Tokens) (t : rules.Tokens) (vs : List rules.Tokens) → AllByRecursion AreTokens (t ∷ vs) → (tokens_at line f (first_token t) (second_token t) ≡ Ok t) × AllByRecursion AreTokens vs
      each f us t vs h =
          let p = and_parts (ltb t.first 64) (ltb t.second 64) h.0 in
          let a = ltb-true t.first 64 p.0 in
          let b = ltb-true t.second 64 p.1 in (
            then_to (count_within 0 63 (at line f) (first_token t)) _ t.first t (count_to 0 63 (at line f) t.first (omega arith) (omega arith) (omega arith))
                (then_to (count_within 0 63 (at line (f + 1)) (second_token t)) _ t.second t (count_to 0 63 (at line (f + 1)) t.second (omega arith) (omega arith) (omega arith)) refl),
            h.1,
          )

pub tokens_lack : (ts : List rules.Tokens) → all_tokens ts ≡ true → AllByRecursion (Lacks 9) (tokens_written ts)
tokens_lack ts e = twos_lack first_token second_token tokens_written refl (λ t us. refl) AreTokens each ts (all_tokens_from ts e)
  where
    lacks : (n : ℕ) → ltb n 64 ≡ true → Lacks 9 (signed_decimal (pos n))
    lacks n h = signed_lacks (pos n) (count_small n (omega (arith, ltb-true n 64 h)))

    each : (t : rules.Tokens) → AreTokens t → Lacks 9 (first_token t) × Lacks 9 (second_token t)
    each t h = let p = and_parts (ltb t.first 64) (ltb t.second 64) h in (lacks t.first p.0, lacks t.second p.1)

pub tokens_length : (ts : List rules.Tokens) → length (tokens_written ts) ≡ 2 * length ts
tokens_length ts = twos_length first_token second_token tokens_written refl (λ t us. refl) ts

-- a coefficient is read exactly if it is one, written out
coefficient_from : (a : At) (field : List ℕ) (c : ℤ) → coefficient_at a field ≡ Ok c → field ≡ signed_decimal c
coefficient_from a field c e =
    let r = then_ok (number_in (negsuc 9_999) (pos 10_000) a field) (λ z. cond (is_zero z) (Err (OutOfRange a)) (Ok z)) c e in
    let p = passed_false (is_zero r.value) (OutOfRange a) (Ok r.value) c r.rest in
    (number_from (negsuc 9_999) (pos 10_000) a field r.value r.read).0 ∙ ap signed_decimal (same_ok p.1)

coefficient_parts : (c : ℤ) → is_coefficient c ≡ true → Within (negsuc 9_999) (pos 10_000) c × (is_zero c ≡ false)
coefficient_parts c e =
    let p = and_parts (le_z (negsuc 9_999) c && le_z c (pos 10_000)) (lt_z c (pos 0) || lt_z (pos 0) c) e in
    (and_parts (le_z (negsuc 9_999) c) (le_z c (pos 10_000)) p.0, some c p.1)
  where
    some : (z : ℤ) → (lt_z z (pos 0) || lt_z (pos 0) z) ≡ true → is_zero z ≡ false
    some (pos n) h = ne_eqb n 0 (λ z. both_ways (ltb n 0 || ltb 0 n) (or_from (ltb n 0) (ltb 0 n) (le-ltb n 0 (omega arith)) (le-ltb 0 n (omega arith))) h)
    some (negsuc n) h = refl

coefficient_to : (a : At) (c : ℤ) → is_coefficient c ≡ true → coefficient_at a (signed_decimal c) ≡ Ok c
coefficient_to a c e =
    let p = coefficient_parts c e in
    then_to (number_in (negsuc 9_999) (pos 10_000) a (signed_decimal c)) (λ z. cond (is_zero z) (Err (OutOfRange a)) (Ok z)) c c
    (number_to (negsuc 9_999) (pos 10_000) a c (small_within (negsuc 9_999) (pos 10_000) c refl refl p.0) p.0)
    (cond-false (is_zero c) _ _ p.1)

-- a term among terms is one, and its place is not one of those before it
has_no : (p : ℕ) (ts : List Term) (t : Term) (us : List Term) → has p (map place_of (ts ++ (t ∷ us))) ≡ false → p ≡ t.place → ⊥
has_no p [] t us e = eqb-false p t.place (or_parts (eqb p t.place) (has p (map place_of us)) e).0
has_no p (x ∷ ts) t us e = has_no p ts t us (or_parts (eqb p x.place) (has p (map place_of (ts ++ (t ∷ us)))) e).1

term_among : (n : ℕ) (ts : List Term) (t : Term) (us : List Term) → terms_test n (ts ++ (t ∷ us)) ≡ true → (term_test n t ≡ true) × (uses ts t.place ≡ false)
term_among n [] t us e =
    let s = and_parts (term_test n t && not (has t.place (map place_of us))) (terms_test n us) e in
    ((and_parts (term_test n t) (not (has t.place (map place_of us))) s.0).0, refl)
term_among n (x ∷ ts) t us e =
    let s = and_parts (term_test n x && not (has x.place (map place_of (ts ++ (t ∷ us))))) (terms_test n (ts ++ (t ∷ us))) e in
    let q = and_parts (term_test n x) (not (has x.place (map place_of (ts ++ (t ∷ us))))) s.0 in
    let r = term_among n ts t us s.1 in
    let apart : t.place ≡ x.place → ⊥ = λ z. has_no x.place ts t us (not-true _ q.1) (sym z) in
    (r.0, or_from (eqb t.place x.place) (uses ts t.place) (ne_eqb t.place x.place apart) r.1)

all_terms : (n : ℕ) (ts : List Term) → terms_test n ts ≡ true → AllByRecursion (λ t. term_test n t ≡ true) ts
all_terms n [] e = tt
all_terms n (t ∷ ts) e =
    let s = and_parts (term_test n t && not (has t.place (map place_of ts))) (terms_test n ts) e in
    ((and_parts (term_test n t) (not (has t.place (map place_of ts))) s.0).0, all_terms n ts s.1)

abbrev coefficient_field : Term → List ℕ
coefficient_field t = signed_decimal t.coefficient

module _ (ps : List Place) where
  abbrev place_field : Term → List ℕ
  place_field t = name_of ps t.place

  pub terms_length : (ts : List Term) → length (terms_written ps ts) ≡ 2 * length ts
  terms_length ts = twos_length coefficient_field place_field (terms_written ps) refl (λ t us. refl) ts

  module _ (line : ℕ) where
    term_each : (f : ℕ) (ts : List Term) (a b : List ℕ) (t : Term) → term_of ps line f ts a b ≡ Ok t → (a ≡ coefficient_field t) × (b ≡ place_field t)
    term_each f ts a b t e =
        let r = raised_ok (coefficient_at (at line f) a) _ t e in
        let q = then_ok (known_place ps (at line (f + 1)) b) _ t r.rest in
        let n = passed_false (uses ts q.value) _ _ t q.rest in
        subst (λ (u : Term). (a ≡ coefficient_field u) × (b ≡ place_field u)) (same_ok n.1)
        (coefficient_from (at line f) a r.value r.read, known_from ps (at line (f + 1)) b q.value q.read)

    term_none : (f : ℕ) (ts : List Term) (a : List ℕ) (t : Term) → term_of ps line f ts a [] ≡ Ok t → ⊥
    term_none f ts a t e =
        let r = raised_ok (coefficient_at (at line f) a) _ t e in
        let n = r.rest in
        let z : ◌≡◌ {A = ℕ} 0 1 = cc in omega arith

    -- terms are read exactly if they are terms of a sum, written out
    pub terms_from_lem : (fs : List (List ℕ)) (ts : List Term) → terms_from ps line 3 [] fs ≡ Ok ts → fs ≡ terms_written ps ts
    terms_from_lem fs ts e =
        let r = twos_from_lem coefficient_field place_field (terms_written ps) refl (λ t us. refl) (term_of ps line) term_each term_none 3 [] fs ts e in
        r.2 ∙ ap (terms_written ps) (sym r.1)

  module _ (kind : SpanKind) (places : are_places kind [] ps ≡ true) (ts : List Term) (terms : terms_test (length ps) ts ≡ true) where
    pub terms_to : (line : ℕ) → terms_from ps line 3 [] (terms_written ps ts) ≡ Ok ts
    terms_to line = twos_to coefficient_field place_field (terms_written ps) refl (λ t us. refl) (term_of ps line) (λ us vs. terms_test (length ps) (us ++ vs) ≡ true) each 3 [] ts terms
      where
        each : (f : ℕ) (us : List Term) (t : Term) (vs : List Term) → terms_test (length ps) (us ++ (t ∷ vs)) ≡ true → (term_of ps line f us (coefficient_field t) (place_field t) ≡ Ok t) × (terms_test (length ps) ((us ++ (t ∷ [])) ++ vs) ≡ true)
        each f us t vs e =
            let m = term_among (length ps) us t vs e in
            let p = and_parts (is_coefficient t.coefficient) (ltb t.place (length ps)) m.0 in (
              raised_to (coefficient_at (at line f) (coefficient_field t)) _ t.coefficient t (coefficient_to (at line f) t.coefficient p.0)
                  (then_to (known_place ps (at line (f + 1)) (place_field t)) _ t.place t (known_to kind ps (at line (f + 1)) t.place places (ltb-true t.place (length ps) p.1))
                  (cond-false (uses us t.place) _ _ m.1)),
              ap (terms_test (length ps)) (append_assoc us (t ∷ []) vs) ∙ e,
            )

    pub terms_lack : AllByRecursion (Lacks 9) (terms_written ps ts)
    terms_lack = twos_lack coefficient_field place_field (terms_written ps) refl (λ t us. refl) (λ t. term_test (length ps) t ≡ true) each ts (all_terms (length ps) ts terms)
      where
        each : (t : Term) → term_test (length ps) t ≡ true → Lacks 9 (coefficient_field t) × Lacks 9 (place_field t)
        each t e =
            let p = and_parts (is_coefficient t.coefficient) (ltb t.place (length ps)) e in
            let c = coefficient_parts t.coefficient p.0 in (
              signed_lacks t.coefficient (small_within (negsuc 9_999) (pos 10_000) t.coefficient refl refl c.0),
              name_lacks (place_field t) (names_new kind [] ps t.place places (ltb-true t.place (length ps) p.1)).0,
            )
