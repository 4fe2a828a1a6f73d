use Rattle.std.proofs.Common.{◌≡◌, drop, map}
use Rattle.wh_possible_runs.specs.Shown.{with_acts}
use Rattle.wh_stuck_check.specs.Private.Seen.{name_seen}
use Rattle.wh_stuck_check.proofs.names.add_acts.Given as goal

-- the names so far with those of the rest are all
abbrev pub invariant-loop-template : goal.invariant-loop-template
invariant-loop-template l =
    with_acts (map name_seen l.names.items) (drop l.template-index l.templates)
    ≡ with_acts (map name_seen l.initial.names.items) l.templates
