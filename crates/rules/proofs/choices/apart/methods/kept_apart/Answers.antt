use Rattle.rules.proofs.Keeping.{kept_is, many_strike, one_strikes}
use Rattle.rules.proofs.choices.apart.methods.kept_apart.Goals as goal

pub returns-in-Some : goal.returns-in-Some
returns-in-Some c =
    let one = c.in-Some.ensures in
    let admits = one_strikes c.without.result c.args.span c.args.other c.in-Some.token one.0 one.1 c.without.ensures in
    record { value = kept_is c.without.result c.args.span _ admits; admits = admits }

pub returns-in-None : goal.returns-in-None
returns-in-None c =
    let admits = many_strike c.args.span c.args.other c.in-None.ensures in
    record { value = kept_is c.args.span c.args.span _ admits; admits = admits }
