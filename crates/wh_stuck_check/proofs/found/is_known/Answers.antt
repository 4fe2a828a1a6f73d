use Rattle.std.proofs.Common.{◌≡◌, true, sym, subst, ◌∙◌, arith}
use Rattle.wh_possible_runs.specs.Shown.{same_config}
use Rattle.wh_stuck_check.specs.declared.config.Configuration.{Configuration as ConfigHeld}
use Rattle.wh_stuck_check.specs.Private.Configs.{config_seen}
use Rattle.wh_stuck_check.proofs.Showing.{has_at}
use Rattle.wh_stuck_check.proofs.found.is_known.Goals as goal

pub returns : goal.returns
returns c = λ is.
    let same : same_config (config_seen c.args.one.now) (config_seen c.index-configs-held.result) ≡ true = sym c.is_same.ensures ∙ is in
    has_at c.args.configs.now _ c.index-configs-held.result (config_seen c.args.one.now) (omega arith)
    (subst (λ (held : ConfigHeld). same_config (config_seen c.args.one.now) (config_seen held) ≡ true) c.index-configs-held.is same)
