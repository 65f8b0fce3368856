-- Two lawful books, joined, are lawful. Assumes nothing.
use Rattle.std.proofs.Common.{◌≡◌, ℕ, ◌+◌, ◌-◌, ◌<◌, ◌≤◌, Bool, true, false, cond, eqb, ltb, leb, Ok, Err, Result, sym, refl, subst, arith}
use Rattle.std.proofs.lemmas.Bool.{cond_both, ltb-true, ltb-false, leb-true, eqb-true}
use Rattle.spans.specs.Kind.{Kind}
use Rattle.books.specs.declared.refusal.JoinRefusal.{JoinRefusal}
use Rattle.books.specs.declared.refusal.JoinRefusal.TheVariants.{OtherPlaces, TooManyRules}
use Rattle.books.specs.Meaning.{Meaning, Sound, Lawful}
use Rattle.books.specs.Joining.{join_checked, added, joined}

module _ {S : Type 0} (kind : Kind S) (a b : Meaning S) (p : Lawful kind a) (q : Lawful kind b) where
  -- what the check tells of the counts
  Fine : Result (Unit {0}) JoinRefusal → Type 0
  Fine r = (a.rules + added r b.rules ≤ 1000) × ((i : ℕ) → a.rules ≤ i → i < a.rules + added r b.rules → Sound kind a.places (b.rule (i - a.rules)))

  alone : (r : JoinRefusal) → Fine (Err r)
  unfolding Fine
  alone r = (omega (arith, p.few_rules), λ i h l. absurd (omega arith))

  checked : Fine (join_checked a b)
  unfolding Fine
  checked = go (eqb a.places b.places) refl (leb (a.rules + b.rules) 1000) refl
    where
      go : (s : Bool) → eqb a.places b.places ≡ s → (t : Bool) → leb (a.rules + b.rules) 1000 ≡ t → Fine (cond s (cond t (Ok tt) (Err TooManyRules)) (Err OtherPlaces))
      go false e t f = alone OtherPlaces
      go true e false f = alone TooManyRules
      go true e true f = (leb-true (a.rules + b.rules) 1000 f, λ i h l. subst (λ (n : ℕ). Sound kind n (b.rule (i - a.rules))) (sym (eqb-true a.places b.places e)) (q.each (i - a.rules) (omega arith)))

  pub joined_lawful : Lawful kind (joined a b)
  unfolding Fine
  joined_lawful = record {
    some_place = p.some_place;
    few_places = p.few_places;
    few_rules = checked.0;
    each = λ r h. cond_both (ltb r a.rules) (a.rule r) (b.rule (r - a.rules)) (λ x. Sound kind a.places x) (λ e. p.each r (ltb-true r a.rules e)) (λ e. checked.1 r (ltb-false r a.rules e) h);
  }
