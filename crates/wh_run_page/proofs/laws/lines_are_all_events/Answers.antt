use Rattle.wh_run_page.proofs.Runs.{lines_are_all_events}
use Rattle.wh_run_page.proofs.laws.lines_are_all_events.Goals as goal

pub returns : goal.returns
returns c = lines_are_all_events
