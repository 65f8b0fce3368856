-- Rules over choices keep the laws, and settled boards are arc consistent. Assumes nothing.
use Rattle.std.proofs.Common.{length, ◌≡◌, ℕ, ◌<◌, Bool, true, false, not, ◌&&◌, T, eqb, ltb, leb, subst, ltb→lt}
use lib.Dec.{eqb_refl}
use Rattle.spans.specs.Bools.{both}
use Rattle.spans.specs.ChoiceKind.{choices}
use Rattle.books.specs.Meaning.{Sound}
use Rattle.rules.specs.declared.choices.row.ChoiceRow.{ChoiceRow}
use Rattle.rules.specs.declared.choices.row.ChoiceRow.TheVariants.{Pair, Apart}
use Rattle.rules.specs.ChoiceTests.{two_places_test}
use Rattle.rules.specs.ChoiceRows.{pairs_of, places_of}
use Rattle.rules.specs.ChoiceRules.{link_of}
use Rattle.rules.specs.ChoiceBooks.{rule_of}
use Rattle.rules.specs.ArcConsistency.{ArcLaw}
use Rattle.rules.proofs.Links.{link_sound, arc_consistent}
use Rattle.rules.proofs.Partners.{row_partnered}

-- two different places of a board of so many
pub record TwoPlaces (places first second : ℕ) : Type 0 where
  pub one : first < places
  pub two : second < places
  pub differ : first ≡ second → ⊥

two_places_lem : (places first second : ℕ) → T (two_places_test places first second) → TwoPlaces places first second
two_places_lem places first second t =
    let s = both (ltb first places && ltb second places) (not (eqb first second)) t in
    let r = both (ltb first places) (ltb second places) s.0 in
    record { one = ltb→lt first places r.0; two = ltb→lt second places r.1; differ = λ e. unlike (eqb first second) s.1 (subst (λ (n : ℕ). T (eqb first n)) e (eqb_refl first)) }
  where
    unlike : (b : Bool) → T (not b) → T b → ⊥
    unlike true t u = t
    unlike false t u = u

-- the places of a row
pub row_places : (row : ChoiceRow) → TwoPlaces (places_of row) (link_of row).first (link_of row).second
row_places (Pair row) =
    let two = two_places_test row.places row.first row.second in
    let count = length (pairs_of row) in
    two_places_lem row.places row.first row.second (both two (ltb 0 count) (both (two && ltb 0 count) (leb count 100) row.ok).0).0
row_places (Apart row) = two_places_lem row.places row.first row.second row.ok

-- each row keeps the laws of rules on the boards that it is for
pub row_sound : (row : ChoiceRow) → Sound choices (places_of row) (rule_of row)
row_sound row = let p = row_places row in link_sound (places_of row) (link_of row) (row_partnered row) p.differ p.one p.two

pub arc_law : ArcLaw
arc_law row board f = let p = row_places row in arc_consistent (places_of row) (link_of row) (row_partnered row) p.differ p.one p.two board f
