use Rattle.wh_view_report.proofs.Parts.{parts_have_all_tasks}
use Rattle.wh_view_report.proofs.Repeating.{folded_are_like_one_of_four, folded_are_like_shown, shown_are_like_none_of_four}
use Rattle.wh_view_report.proofs.laws.folded_tasks_repeat.Goals as goal

pub returns-clause-tasks : goal.returns-clause-tasks
returns-clause-tasks c = parts_have_all_tasks

pub returns-clause-shown : goal.returns-clause-shown
returns-clause-shown c = folded_are_like_shown

pub returns-clause-folded : goal.returns-clause-folded
returns-clause-folded c = folded_are_like_one_of_four

pub returns-clause-others : goal.returns-clause-others
returns-clause-others c = shown_are_like_none_of_four
