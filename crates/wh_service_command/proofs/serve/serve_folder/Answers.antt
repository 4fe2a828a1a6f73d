use Rattle.wh_command_line.specs.Options.{sizes_of}
use Rattle.wh_service_command.proofs.Steps.{served_folder, stopped_in_folder}
use Rattle.wh_service_command.proofs.serve.serve_folder.Goals as goal

-- the host is one that runs the program
pub returns-clause-served : goal.returns-clause-served
returns-clause-served g c =
    let listed = c.in_ok-listed.listed in
    served_folder g.W.Workflow.program c.args.types.now c.args.dir (sizes_of c.args.options) c.args.require_files c.args.progress listed.left_out c.lacks_files-lacks.result
    c.progress_mode-mode.ensures.mode.0 c.progress_mode-mode.result listed.inputs.items c.args.console.now c.folder_of.new.console c.serve.new.console c.serve.result
    c.in_ok-listed.ensures.listed c.lacks_files-lacks.ensures.lacks c.progress_mode-mode.ensures.mode.1 c.serve.ensures.served

-- or the service stopped after the folder was listed
pub returns-clause-stopped : goal.returns-clause-stopped
returns-clause-stopped g c =
    let listed = c.in_ok-listed.listed in
    stopped_in_folder g.W.Workflow.program c.args.dir c.args.progress listed.left_out
    c.progress_mode-mode.ensures.mode.0 c.progress_mode-mode.result listed.inputs.items c.args.console.now c.folder_of.new.console c.serve.new.console c.serve.result
    c.in_ok-listed.ensures.listed c.progress_mode-mode.ensures.mode.1 c.serve.ensures.stopped
