use Rattle.wh_diagnostics.proofs.CarriedOut.{carried_out, not_carried_out}
use Rattle.wh_file_commands.specs.Pages.{HasPaged}
use Rattle.wh_file_commands.specs.Refusals.{IsUnshown}
use Rattle.wh_file_commands.proofs.page.page_path.Goals as goal

-- the page is that of the file at the path
pub returns-clause-paged : goal.returns-clause-paged
returns-clause-paged g c =
    carried_out g.R.InputReader.gives (HasPaged g.W.Workflow.program c.args.only_recorded) c.args.path (c.in_ok-name.name, c.in_ok-name.bytes)
    c.args.console.now c.page.new.console c.page.result c.in_ok-name.ensures.read c.page.ensures.paged

-- or there is no page of it
pub returns-clause-why : goal.returns-clause-why
returns-clause-why g c =
    not_carried_out g.R.InputReader.gives IsUnshown c.args.path (c.in_ok-name.name, c.in_ok-name.bytes) c.page.result
    c.in_ok-name.ensures.read c.page.ensures.why
