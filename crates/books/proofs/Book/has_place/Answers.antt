use Rattle.std.proofs.Common.{◌≡◌, ℕ, true, false, eqb, get_or, length, refl, arith, rules}
use Rattle.std.proofs.lemmas.Iterator.{cases_from_any, YieldsList-from_range}
use Rattle.books.proofs.Places.{has_found}
use Rattle.books.proofs.Book.has_place.Goals as goal

pub returns : goal.returns
returns g c =
    let scope = ((g.Self.Book.meaning c.args.self.now).rule c.args.rule).scope in
    let test = λ (i : ℕ). eqb c.args.place (get_or scope i 0) in
    has_found c.args.place scope c.any.result
    (cases_from_any _ _ c.any.result (λ i. true ≡ test i) (λ i. false ≡ test i) c.any.ensures.ran (YieldsList-from_range 0 c.scope_len.result (length scope) refl (omega arith)) (λ i q k. search rules) (λ i q k. search rules))
