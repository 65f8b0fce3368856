use Rattle.std.proofs.Common.{◌≡◌, drop, None}
use Rattle.rules.specs.Sums.{all_some, index_from, least_on, greatest_on}
use Rattle.rules.proofs.SumAdding.{Adding}
use Rattle.rules.proofs.SumIndexes.{index_in}
use Rattle.rules.proofs.sums.adding.add_others.Given as goal

-- the terms left, and what was found before, decide for all; the terms before are added, but for the place's own
abbrev pub invariant-loop-i : goal.invariant-loop-i
invariant-loop-i l =
    (all_some (drop l.i l.terms) l.board ≡ all_some l.terms l.board)
    × (index_from l.i l.place (drop l.i l.terms) l.found ≡ index_from 0 l.place l.terms None)
    × Adding (least_on l.board) (index_in l.terms l.place) l.terms l.i l.low
    × Adding (greatest_on l.board) (index_in l.terms l.place) l.terms l.i l.high
