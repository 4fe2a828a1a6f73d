use Rattle.std.proofs.Common.{List, map, subst}
use Rattle.wh_row_rules.specs.Broken.{definition}
use Rattle.wh_possible_runs.specs.Situations.{ThingName}
use Rattle.wh_possible_runs.specs.PossibleRuns.{IsStuckFree}
use Rattle.wh_possible_runs.proofs.Sound.{shown}
use Rattle.wh_stuck_check.specs.Private.Seen.{name_seen}
use Rattle.wh_stuck_check.specs.Private.Configs.{config_seen}
use Rattle.wh_stuck_check.proofs.deciding.never_gets_stuck.Goals as goal

pub returns-then-branch : goal.returns-then-branch
returns-then-branch c = λ is.
    subst (λ (names : List ThingName). IsStuckFree (definition c.args.table.now) names) c.requires.names
    (shown (definition c.args.table.now) (map name_seen c.args.rules.now.names.now) c.args.rules.now.tops
    (map config_seen c.args.found.now.configs.items) (c.in_ok-shows.ensures c.if-branch.true))
