use Rattle.wh_run_page.proofs.Runs.{groups_are_runs}
use Rattle.wh_run_page.proofs.laws.groups_are_runs.Goals as goal

pub returns : goal.returns
returns c = groups_are_runs
