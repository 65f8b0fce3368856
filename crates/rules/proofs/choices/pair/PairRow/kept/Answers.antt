use Rattle.std.proofs.Common.{ℕ, List, pos, ap, ◌∙◌, subst}
use Rattle.spans.specs.Choices.{choice_admits, Exactly}
use Rattle.spans.specs.declared.choice.Choice.{Choice}
use Rattle.rules.specs.declared.choices.token.TokenPair.{TokenPair}
use Rattle.rules.specs.ChoiceRows.{pairs_of}
use Rattle.rules.specs.ChoiceRules.{some_pair, joins}
use Rattle.rules.proofs.Keeping.{kept_is, meet_keeps}
use Rattle.rules.proofs.choices.pair.PairRow.kept.Goals as goal

pub returns : goal.returns
returns c =
    let test = λ (t : ℕ). some_pair (joins c.args.side c.args.other t) (pairs_of c.args.self.now) in
    let some : Exactly c.joined.result test = subst (λ (pairs : List TokenPair). Exactly c.joined.result (λ t. some_pair (joins c.args.side c.args.other t) pairs)) c.as_slice.ensures c.joined.ensures in
    let admits = λ (t : ℕ). ap (λ (r : Choice). choice_admits r (pos t)) c.common.ensures ∙ meet_keeps c.args.span c.joined.result test some t in
    record { value = kept_is c.common.result c.args.span test admits; admits = admits }
