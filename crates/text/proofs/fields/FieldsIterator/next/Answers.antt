use Rattle.std.proofs.Common.{◌≡◌, ◌∷◌, sym, ap, ◌∙◌, rules}
use Rattle.text.specs.Fields.{fields_of, fields_in}
use Rattle.text.proofs.Fielding.{next_field}
use Rattle.text.proofs.fields.FieldsIterator.next.Goals as goal

pub returns : goal.returns
returns c =
    let rest = c.in_ok-rest.rest.now in
    let e : fields_of rest ≡ c.split_at.result.0.now ∷ fields_in c.get-self.result =
    next_field rest _ _ _ c.length_before.ensures.value c.split_at.ensures.back c.get-self.ensures.lookup
    ∙ ap (λ field. field ∷ fields_in c.get-self.result) (sym c.split_at.ensures.front) in
    search (rules, e, ap fields_in c.in_ok-rest.was)
