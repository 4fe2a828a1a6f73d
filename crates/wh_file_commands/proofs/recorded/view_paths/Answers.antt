use Rattle.std.proofs.Common.{◌∙◌, ap, subst}
use Rattle.std.specs.Prelude.{IfErr, IfOk}
use Rattle.wh_console.specs.Inputs.{IsReadFrom}
use Rattle.wh_diagnostics.proofs.CarriedOut.{done_at_paths, failed_at_paths}
use Rattle.wh_diagnostics.specs.Listings.{AtPaths, FailsAtPaths, is_by_path}
use Rattle.wh_file_commands.specs.Recorded.{HasNotShown, HasShown}
use Rattle.wh_file_commands.proofs.recorded.view_paths.Goals as goal

-- what was shown is what the paths name
pub returns-clause-shown : goal.returns-clause-shown
returns-clause-shown g c =
    let listed = c.in_ok-listed.listed in
    subst (λ by_path. IfOk c.show_listed.result
    (AtPaths (HasShown IsReadFrom by_path c.args.selection c.args.format) c.args.first c.args.more.items c.args.console.now c.show_listed.new.console))
    (c.is_by_path-by_path.ensures ∙ ap is_by_path c.as_slice.ensures.value)
    (done_at_paths (HasShown IsReadFrom c.is_by_path-by_path.result c.args.selection c.args.format) c.args.first c.args.more.items
    listed.inputs.items listed.left_out c.args.console.now c.all_inputs.new.console c.show_listed.new.console
    c.show_listed.result c.in_ok-listed.ensures.listed c.show_listed.ensures.shown)

-- or it is not shown
pub returns-clause-stopped : goal.returns-clause-stopped
returns-clause-stopped g c =
    let listed = c.in_ok-listed.listed in
    subst (λ by_path. IfErr c.show_listed.result
    (FailsAtPaths (HasNotShown IsReadFrom by_path c.args.selection c.args.format) c.args.first c.args.more.items c.args.console.now c.show_listed.new.console))
    (c.is_by_path-by_path.ensures ∙ ap is_by_path c.as_slice.ensures.value)
    (failed_at_paths (HasNotShown IsReadFrom c.is_by_path-by_path.result c.args.selection c.args.format) c.args.first c.args.more.items
    listed.inputs.items listed.left_out c.args.console.now c.all_inputs.new.console c.show_listed.new.console
    c.show_listed.result c.in_ok-listed.ensures.listed c.show_listed.ensures.stopped)
