use Rattle.std.proofs.Common.{◌≡◌, ◌+◌, ◌*◌, ◌≤◌, [], map, length}
use Rattle.text.specs.Fields.{fields_left}
use Rattle.rules.specs.Fews.{listed}
use Rattle.records.specs.Names.{named}
use Rattle.records.specs.Twos.{twos_from}
use Rattle.records.proofs.twos.read_twos.Given as goal

-- the fields that are left, behind the items that are held, come to what all fields come to; and there is room for them
abbrev pub invariant-loop-first : goal.invariant-loop-first
invariant-loop-first g l =
    (twos_from (g.T.Item.reads (named l.names) l.line) l.field (map g.T.Item.shows (listed l.items)) (fields_left l.left) ≡ twos_from (g.T.Item.reads (named l.names) l.line) 3 [] (fields_left l.fields))
    × (length (listed l.items) ≤ g.row.N)
    × (1 ≤ length (fields_left l.left) → 2 * length (listed l.items) + length (fields_left l.left) ≤ 2 * g.row.N)
    × (l.field ≡ 3 + 2 * length (listed l.items))

abbrev pub decreases-loop-first : goal.decreases-loop-first
decreases-loop-first g l = length (fields_left l.left)
