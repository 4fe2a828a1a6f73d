use Rattle.std.proofs.Common.{◌≡◌, drop}
use Rattle.wh_possible_runs.specs.Shown.{all_plain_acts}
use Rattle.wh_stuck_check.proofs.plain.all_plain_acts.Given as goal

-- those so far are plain
abbrev pub invariant-loop-template : goal.invariant-loop-template
invariant-loop-template l =
    all_plain_acts (drop l.template-index l.templates) ≡ all_plain_acts l.templates
