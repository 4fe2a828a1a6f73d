use Rattle.wh_service.proofs.Turns.{each_row_is_of_its_file, as_many_rows_as_files, each_failure_is_reported, no_other_failure_is_reported}
use Rattle.wh_service.proofs.laws.each_row_is_of_its_file.Goals as goal

pub returns-clause-rows : goal.returns-clause-rows
returns-clause-rows c = each_row_is_of_its_file

pub returns-clause-count : goal.returns-clause-count
returns-clause-count c = as_many_rows_as_files

pub returns-clause-failures : goal.returns-clause-failures
returns-clause-failures c = each_failure_is_reported

pub returns-clause-others : goal.returns-clause-others
returns-clause-others c = no_other_failure_is_reported
