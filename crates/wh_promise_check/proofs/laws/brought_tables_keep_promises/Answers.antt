use Rattle.wh_promise_check.proofs.Brought as brought
use Rattle.wh_promise_check.proofs.laws.brought_tables_keep_promises.Goals as goal

pub returns-clause-courses : goal.returns-clause-courses
returns-clause-courses c = brought.brought_courses

pub returns-clause-kept : goal.returns-clause-kept
returns-clause-kept c = brought.brought_keep
