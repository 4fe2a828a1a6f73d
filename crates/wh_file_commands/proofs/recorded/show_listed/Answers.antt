use Rattle.std.proofs.Common.{ap}
use Rattle.wh_file_commands.proofs.Singles.{shown_others, shown_single, unshown_others, unshown_single}
use Rattle.wh_file_commands.proofs.recorded.show_listed.Goals as goal

-- one file is shown in full
pub returns-in-Ok-clause-shown : goal.returns-in-Ok-clause-shown
returns-in-Ok-clause-shown g c =
    let listed = c.args.listed in
    shown_single g.R.InputReader.gives c.args.selection c.args.format c.args.by_path listed.inputs.items listed.left_out c.in-Ok.input c.args.console.now c.view_input.new.console c.view_input.result
    c.in-Ok.ensures.single c.view_input.ensures.viewed

-- or it is not
pub returns-in-Ok-clause-stopped : goal.returns-in-Ok-clause-stopped
returns-in-Ok-clause-stopped g c =
    unshown_single g.R.InputReader.gives c.args.selection c.args.format c.args.by_path c.args.listed.inputs.items c.in-Ok.input c.args.console.now c.view_input.new.console c.view_input.result
    c.in-Ok.ensures.single c.view_input.ensures.stopped

-- others are shown in an overview
pub returns-in-Err-clause-shown : goal.returns-in-Err-clause-shown
returns-in-Err-clause-shown g c =
    let listed = c.args.listed in
    shown_others g.R.InputReader.gives c.args.selection c.args.format c.args.by_path listed.inputs.items c.in-Err.inputs.items listed.left_out c.args.console.now c.show_all.new.console c.show_all.result
    c.in-Err.ensures.others.0 (ap (λ v. v.items) c.in-Err.ensures.others.1) c.show_all.ensures.unselected c.show_all.ensures.shown

-- or they are not
pub returns-in-Err-clause-stopped : goal.returns-in-Err-clause-stopped
returns-in-Err-clause-stopped g c =
    unshown_others g.R.InputReader.gives c.args.selection c.args.format c.args.by_path c.args.listed.inputs.items c.in-Err.inputs.items c.args.console.now c.show_all.new.console c.show_all.result
    c.in-Err.ensures.others.0 (ap (λ v. v.items) c.in-Err.ensures.others.1) c.show_all.ensures.stopped
