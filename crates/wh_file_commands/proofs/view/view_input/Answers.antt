use Rattle.wh_file_commands.proofs.Singles.{input_shown, input_unread, input_unshown}
use Rattle.wh_file_commands.proofs.view.view_input.Goals as goal

-- what is shown is the file that the input was read as
pub returns-clause-viewed : goal.returns-clause-viewed
returns-clause-viewed g c =
    input_shown g.R.InputReader.gives c.args.selection c.args.format c.args.input (c.in_ok-name.name, c.in_ok-name.bytes)
    c.args.console.now c.view.new.console c.view.result c.in_ok-name.ensures.read c.view.ensures.viewed

-- or nothing is shown of it
pub returns-clause-stopped : goal.returns-clause-stopped
returns-clause-stopped g c =
    input_unshown g.R.InputReader.gives c.args.input (c.in_ok-name.name, c.in_ok-name.bytes)
    c.args.console.now c.view.new.console c.view.result c.in_ok-name.ensures.read c.view.ensures.refused c.view.ensures.why

-- or it can't be read
pub returns-in_err-name-clause-stopped : goal.returns-in_err-name-clause-stopped
returns-in_err-name-clause-stopped g c =
    input_unread g.R.InputReader.gives c.args.input c.args.console.now c.in_err-name.field-0.0 c.from_residual.result c.from_residual.ensures.1
