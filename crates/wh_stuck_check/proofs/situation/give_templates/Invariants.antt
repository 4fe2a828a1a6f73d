use Rattle.std.proofs.Common.{◌≡◌, drop, map}
use Rattle.wh_possible_runs.specs.Configurations.{after_templates}
use Rattle.wh_stuck_check.specs.Private.Seen.{name_seen, situation_seen}
use Rattle.wh_stuck_check.proofs.situation.give_templates.Given as goal

-- the rest comes to what all come to
abbrev pub invariant-loop-template : goal.invariant-loop-template
invariant-loop-template l =
    after_templates (map name_seen l.names) (drop l.template-index l.templates) (situation_seen l.now)
    ≡ after_templates (map name_seen l.names) l.templates (situation_seen l.initial.now)
