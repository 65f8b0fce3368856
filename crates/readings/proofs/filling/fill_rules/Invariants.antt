use Rattle.std.proofs.Common.{◌≡◌, ◌≤◌, map, length, take, drop}
use Rattle.records.specs.Names.{named}
use Rattle.readings.specs.Lines.{lines_left}
use Rattle.readings.specs.Readings.{rules_from, rule_room}
use Rattle.readings.specs.Tables.{rules_ahead}
use Rattle.readings.proofs.filling.fill_rules.Given as goal

-- the lines that are left, behind the rules that are written, come to what all lines come to; the entries past those stay
abbrev pub invariant-loop-line : goal.invariant-loop-line
invariant-loop-line g l =
    (rules_from g.R.RuleRow.sheets (rule_room (length l.initial.rules)) (named l.names) l.lines.read (take l.count (map g.R.RuleRow.holds l.rules)) (lines_left l.lines) ≡ rules_ahead g.R.RuleRow.sheets (length l.initial.rules) (named l.names) l.initial.lines)
    × (drop l.count (map g.R.RuleRow.holds l.rules) ≡ drop l.count (map g.R.RuleRow.holds l.initial.rules))
    × (l.count ≤ length l.rules)
    × (length l.rules ≡ length l.initial.rules)

abbrev pub decreases-loop-line : goal.decreases-loop-line
decreases-loop-line g l = length (lines_left l.lines)
