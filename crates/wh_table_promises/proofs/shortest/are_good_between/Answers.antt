use Rattle.std.proofs.Common.{◌≡◌, true, List, map, take, drop, subst}
use Rattle.std.specs.Prelude.{IfOk}
use Rattle.wh_rows.specs.Deciding.{Config, each}
use Rattle.wh_table_promises.specs.declared.config.Configuration.{Configuration as ConfigHeld}
use Rattle.wh_table_lines.specs.Lines.{line_seen}
use Rattle.wh_table_promises.specs.Private.Seen.{turn_seen, config_seen}
use Rattle.wh_table_promises.specs.Private.Found.{is_good}
use Rattle.wh_table_promises.proofs.Fewer.{between}
use Rattle.wh_table_promises.proofs.shortest.are_good_between.Goals as goal

pub returns : goal.returns
returns c =
    subst (λ (configs : List ConfigHeld). IfOk c.are_good.result (λ good. good ≡ true
    → each (is_good c.args.rules.now.tops (map turn_seen c.args.rules.now.turns.now) c.args.budget (map line_seen c.args.rules.now.lines.now)
    (map config_seen configs)) (drop c.args.from (take c.args.end (map config_seen configs))) ≡ true))
    c.as_slice-configs.ensures.value
    (subst (λ (list : List Config). IfOk c.are_good.result (λ good. good ≡ true
    → each (is_good c.args.rules.now.tops (map turn_seen c.args.rules.now.turns.now) c.args.budget (map line_seen c.args.rules.now.lines.now)
    (map config_seen c.as_slice-configs.result.now)) list ≡ true))
    (between c.as_slice-configs.result.now c.args.from c.args.end c.if-end-from.false) c.are_good.ensures)
