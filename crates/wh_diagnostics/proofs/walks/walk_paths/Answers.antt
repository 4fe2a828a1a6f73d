use Rattle.wh_console.specs.Inputs.{IsReadFrom}
use Rattle.wh_diagnostics.proofs.CarriedOut.{done_at_paths, failed_at_paths}
use Rattle.wh_diagnostics.specs.Walks.{HasBrokenOff, HasWalked}
use Rattle.wh_diagnostics.proofs.walks.walk_paths.Goals as goal

-- what was visited is what the paths name
pub returns-clause-walked : goal.returns-clause-walked
returns-clause-walked g c =
    let listed = c.in_ok-listed.listed in
    done_at_paths (HasWalked (g.V.Visitor.visits c.args.visitor.now) IsReadFrom) c.args.first c.args.more.items listed.inputs.items listed.left_out
    c.args.console.now c.all_inputs.new.console c.walk.new.console c.walk.result c.in_ok-listed.ensures.listed c.walk.ensures.walked

-- or the command broke off
pub returns-clause-stopped : goal.returns-clause-stopped
returns-clause-stopped g c =
    let listed = c.in_ok-listed.listed in
    failed_at_paths (HasBrokenOff (g.V.Visitor.visits c.args.visitor.now) IsReadFrom) c.args.first c.args.more.items listed.inputs.items listed.left_out
    c.args.console.now c.all_inputs.new.console c.walk.new.console c.walk.result c.in_ok-listed.ensures.listed c.walk.ensures.stopped
