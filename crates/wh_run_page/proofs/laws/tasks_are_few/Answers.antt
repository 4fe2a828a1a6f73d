use Rattle.wh_run_page.proofs.Few.{beginnings_are_shown, ends_are_shown, tasks_are_in_a_row}
use Rattle.wh_run_page.proofs.laws.tasks_are_few.Goals as goal

pub returns-clause-few : goal.returns-clause-few
returns-clause-few c = tasks_are_in_a_row

pub returns-clause-ends : goal.returns-clause-ends
returns-clause-ends c = ends_are_shown

pub returns-clause-beginnings : goal.returns-clause-beginnings
returns-clause-beginnings c = beginnings_are_shown
