use Rattle.std.proofs.Common.{get_or, sym, ap, ◌∙◌, arith, w32, to_z, of_z}
use Rattle.rules.specs.SumRows.{blank}
use Rattle.rules.specs.Sums.{keep_at_least}
use Rattle.rules.specs.declared.sums.term.Relation.TheVariants.{AtMost, AtLeast, Equal}
use Rattle.rules.proofs.SumAnswers.{answer_is, ready, rest, row_terms}
use Rattle.rules.proofs.sums.answers.sum_answer.Goals as goal

pub offset_bounds-terms-others : goal.offset_bounds-terms-others
offset_bounds-terms-others c =
    let few = (row_terms c.args.row.now c.args.board.now c.terms-terms.result.now c.terms-terms.ensures c.requires.whole).1 in
    let r = ready c.args.row.now c.args.board.now c.terms-terms.result.now c.terms-terms.ensures c.requires.whole c.bound-bound.result c.args.place c.in-Some.others c.add_others.result c.bound-bound.ensures c.add_others.ensures c.in-Some.is in
    omega (arith, few, r.within)

pub bounds-terms-others : goal.bounds-terms-others
bounds-terms-others c =
    let r = ready c.args.row.now c.args.board.now c.terms-terms.result.now c.terms-terms.ensures c.requires.whole c.bound-bound.result c.args.place c.in-Some.others c.add_others.result c.bound-bound.ensures c.add_others.ensures c.in-Some.is in
    r.within

pub overflow_sub-under : goal.overflow_sub-under
overflow_sub-under c =
    let r = ready c.args.row.now c.args.board.now c.terms-terms.result.now c.terms-terms.ensures c.requires.whole c.bound-bound.result c.args.place c.in-Some.others c.add_others.result c.bound-bound.ensures c.add_others.ensures c.in-Some.is in
    r.below.fits

pub overflow_sub-over : goal.overflow_sub-over
overflow_sub-over c =
    let r = ready c.args.row.now c.args.board.now c.terms-terms.result.now c.terms-terms.ensures c.requires.whole c.bound-bound.result c.args.place c.in-Some.others c.add_others.result c.bound-bound.ensures c.add_others.ensures c.in-Some.is in
    r.above.fits

pub at_most-requires : goal.at_most-requires
at_most-requires c =
    let r = ready c.args.row.now c.args.board.now c.terms-terms.result.now c.terms-terms.ensures c.requires.whole c.bound-bound.result c.args.place c.in-Some.others c.add_others.result c.bound-bound.ensures c.add_others.ensures c.in-Some.is in
    record { a = r.coefficient; r = (r.below.over, r.below.under) }

pub at_least-requires : goal.at_least-requires
at_least-requires c =
    let r = ready c.args.row.now c.args.board.now c.terms-terms.result.now c.terms-terms.ensures c.requires.whole c.bound-bound.result c.args.place c.in-Some.others c.add_others.result c.bound-bound.ensures c.add_others.ensures c.in-Some.is in
    record { a = r.coefficient; r = (r.above.over, r.above.under) }

pub at_most-below-requires : goal.at_most-below-requires
at_most-below-requires c =
    let r = ready c.args.row.now c.args.board.now c.terms-terms.result.now c.terms-terms.ensures c.requires.whole c.bound-bound.result c.args.place c.in-Some.others c.add_others.result c.bound-bound.ensures c.add_others.ensures c.in-Some.is in
    record { a = r.coefficient; r = (r.below.over, r.below.under) }

pub at_least-requires-in-Equal : goal.at_least-requires-in-Equal
at_least-requires-in-Equal c =
    let r = ready c.args.row.now c.args.board.now c.terms-terms.result.now c.terms-terms.ensures c.requires.whole c.bound-bound.result c.args.place c.in-Some.others c.add_others.result c.bound-bound.ensures c.add_others.ensures c.in-Some.is in
    record { a = r.coefficient; r = (r.above.over, r.above.under) }

pub returns-in-AtMost : goal.returns-in-AtMost
returns-in-AtMost c =
    let r = ready c.args.row.now c.args.board.now c.terms-terms.result.now c.terms-terms.ensures c.requires.whole c.bound-bound.result c.args.place c.in-Some.others c.add_others.result c.bound-bound.ensures c.add_others.ensures c.in-Some.is in
    answer_is c.args.row.now c.args.board.now c.args.place c.in-Some.others.asked AtMost c.index-board-place.result c.at_most.result r.asked (sym c.relation.ensures ∙ c.in-AtMost.is) c.index-board-place.is c.requires.place
    (c.at_most.ensures ∙ r.under c.index-board-place.result)

pub returns-in-AtLeast : goal.returns-in-AtLeast
returns-in-AtLeast c =
    let r = ready c.args.row.now c.args.board.now c.terms-terms.result.now c.terms-terms.ensures c.requires.whole c.bound-bound.result c.args.place c.in-Some.others c.add_others.result c.bound-bound.ensures c.add_others.ensures c.in-Some.is in
    answer_is c.args.row.now c.args.board.now c.args.place c.in-Some.others.asked AtLeast c.index-board-place.result c.at_least.result r.asked (sym c.relation.ensures ∙ c.in-AtLeast.is) c.index-board-place.is c.requires.place
    (c.at_least.ensures ∙ r.over c.index-board-place.result)

pub returns-in-Equal : goal.returns-in-Equal
returns-in-Equal c =
    let r = ready c.args.row.now c.args.board.now c.terms-terms.result.now c.terms-terms.ensures c.requires.whole c.bound-bound.result c.args.place c.in-Some.others c.add_others.result c.bound-bound.ensures c.add_others.ensures c.in-Some.is in
    answer_is c.args.row.now c.args.board.now c.args.place c.in-Some.others.asked Equal c.index-board-place.result c.at_least-in-Equal.result r.asked (sym c.relation.ensures ∙ c.in-Equal.is) c.index-board-place.is c.requires.place
    (c.at_least-in-Equal.ensures ∙ ap (keep_at_least (to_z w32 (of_z w32 (get_or c.terms-terms.result.now c.in-Some.others.asked blank).coefficient)) (rest c.bound-bound.result c.in-Some.others.high)) (c.at_most-below.ensures ∙ r.under c.index-board-place.result) ∙ r.over _)
