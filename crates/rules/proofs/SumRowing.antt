-- How the rows of sums are made. Assumes nothing.
use Rattle.std.proofs.Common.{◌≡◌, ℕ, Bool, ◌||◌, eqb, List, [], ◌∷◌, length, take, drop, replicate, refl, ap, ◌∙◌, ap₂}
use Rattle.std.specs.List.{list_any}
use Rattle.std.proofs.lemmas.List.{take_at}
use Rattle.rules.specs.SumRows.{uses, blank, padded, terms_of}
use Rattle.rules.specs.declared.sums.term.Term.{Term}
use Rattle.rules.specs.declared.sums.row.SumRow.{SumRow}

-- some term passes the test of its place exactly if that place is used
pub any_uses : (p : ℕ) (ts : List Term) → list_any (λ t. eqb p t.place) ts ≡ uses ts p
any_uses p [] = refl
any_uses p (t ∷ ts) = ap (λ (u : Bool). eqb p t.place || u) (any_uses p ts)

-- a row that is made holds the terms that were given
pub made_terms : (row : SumRow) (ts : List Term) → row.terms.count ≡ length ts → row.terms.held ≡ padded ts → terms_of row ≡ ts
made_terms row ts p q = ap₂ take p q ∙ take_at ts (drop (length ts) (replicate 16 blank)) (length ts) refl
