-- The book of rows means the rules that the rows hold. Assumes nothing.
use Rattle.std.proofs.Common.{◌≡◌, ℕ, zero, suc, ◌<◌, eqb, List, [], ◌∷◌, map, length, get_or, ℤ, sym, ap, ◌∙◌, subst, arith}
use Rattle.std.proofs.lemmas.List.{length-map}
use Rattle.std.proofs.lemmas.Bool.{eq-eqb, cond-true}
use Rattle.spans.specs.Kind.{Kind}
use Rattle.books.specs.Meaning as books
use Rattle.books.specs.Meaning.{idle}
use Rattle.rules.specs.BookCounts.{place_count}
use Rattle.rules.specs.RowBooks.{rule_in, row_book_of}
use Rattle.records.specs.Rules.{Rule, Row, apart}
use Rattle.records.specs.Meanings.{scope_of, obeys_rule, Meant}
use Rattle.readings.specs.Books.{BookLaw}
use Rattle.readings.specs.Laws.{row_for}

-- a rule of a book and a rule of a sheet have the same places, and the same holdings obey them
record Same {S : Type 0} (one : books.Rule S) (rule : Rule) : Type 0 where
  scope : one.scope ≡ scope_of rule
  holdings : (h : List ℤ) → one.obeys h ≡ obeys_rule rule h

module _ {S R : Type 0} (kind : Kind S) (boards : R → ℕ) (meant : R → books.Rule S) (holds : R → Row) (each : (row : R) → Meant (boards row) (meant row) (holds row)) where
  -- in a book of the places that a row is for, the row's rule is the one that it holds
  row_means : (n places : ℕ) → n ≡ places → (row : R) (rule : Rule) → holds row ≡ row_for places rule → Same (rule_in kind boards meant n row) rule
  row_means n places n-is row rule e =
      let is = each row in
      let fits : boards row ≡ n = is.boards ∙ ap (λ (x : Row). x.places) e ∙ sym n-is in
      subst (λ (one : books.Rule S). Same one rule) (sym (cond-true (eqb (boards row) n) (meant row) (idle kind (0 ∷ [])) (eq-eqb (boards row) n fits)))
      (record { scope = is.scope ∙ ap (λ (x : Row). scope_of x.rule) e; holdings = λ h. is.holdings h ∙ ap (λ (x : Row). obeys_rule x.rule h) e })

  numbered : (n places : ℕ) → n ≡ places → (rows : List R) (rs : List Rule) → map holds rows ≡ map (row_for places) rs → (r : ℕ) → r < length rs
      → Same (get_or (map (rule_in kind boards meant n) rows) r (idle kind (0 ∷ []))) (get_or rs r (apart 0 0))
  numbered n places n-is rows [] e r h = absurd (omega arith)
  numbered n places n-is [] (rule ∷ rs) e r h = let z : ◌≡◌ {A = ℕ} 0 1 = cc in absurd (omega arith)
  numbered n places n-is (row ∷ rows) (rule ∷ rs) e zero h = row_means n places n-is row rule (let s : holds row ≡ row_for places rule = cc in s)
  numbered n places n-is (row ∷ rows) (rule ∷ rs) e (suc r) h = numbered n places n-is rows rs (let s : map holds rows ≡ map (row_for places) rs = cc in s) r (omega arith)

  pub rows_mean : (places : ℕ) (rows : List R) → BookLaw places (map holds rows) (row_book_of kind boards meant places rows)
  rows_mean places rows rs e some few_places few_rules =
      let n-is : place_count places ≡ places = omega arith in
      record {
        places_are = n-is;
        rules_are = omega (arith, length-map rows holds, length-map rs (row_for places), ap length e);
        scopes = λ r h. (numbered (place_count places) places n-is rows rs e r h).scope;
        holdings = λ r held h. (numbered (place_count places) places n-is rows rs e r h).holdings held;
      }
