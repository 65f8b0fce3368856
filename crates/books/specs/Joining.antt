-- Two books joined. Assumes nothing.
use Rattle.std.specs.Prelude.{ℕ, ◌+◌, ◌-◌, cond, Ok, Err, Result, ◌==◌, nat_le, nat_lt}
use Rattle.books.specs.declared.refusal.JoinRefusal.{JoinRefusal}
use Rattle.books.specs.declared.refusal.JoinRefusal.TheVariants.{OtherPlaces, TooManyRules}
use Rattle.books.specs.Meaning.{Meaning}

-- how many rules the second of two books adds
abbrev pub added : Result (Unit {0}) JoinRefusal → ℕ → ℕ
added (Ok x) rules = rules
added (Err refusal) rules = 0

module _ {S : Type 0} where
  -- whether two books can be joined: as many places, and at most 1,000 rules together
  abbrev pub join_checked : Meaning S → Meaning S → Result (Unit {0}) JoinRefusal
  join_checked a b = cond (a.places == b.places) (cond (nat_le (a.rules + b.rules) 1000) (Ok tt) (Err TooManyRules)) (Err OtherPlaces)

  -- the first's rules and then the second's, or the first alone where they can't be joined
  abbrev pub joined : Meaning S → Meaning S → Meaning S
  joined a b = record {
    places = a.places;
    rules = a.rules + added (join_checked a b) b.rules;
    rule = λ r. cond (nat_lt r a.rules) (a.rule r) (b.rule (r - a.rules));
  }
