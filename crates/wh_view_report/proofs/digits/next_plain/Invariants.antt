use Rattle.std.proofs.Common.{◌≡◌, ◌-◌, ◌≤◌, length, drop}
use Rattle.wh_view_report.specs.Digits.{plain}
use Rattle.wh_view_report.proofs.digits.next_plain.Given as goal

-- only digits were skipped
abbrev pub invariant-loop-at : goal.invariant-loop-at
invariant-loop-at l = (l.at ≤ length l.text) × (plain (drop l.at l.text) ≡ plain (drop l.from l.text))

abbrev pub decreases-loop-at : goal.decreases-loop-at
decreases-loop-at l = length l.text - l.at
