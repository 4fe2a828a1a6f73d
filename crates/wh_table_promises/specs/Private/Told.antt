-- Where a watch stands as a run is followed.
use Rattle.std.specs.Prelude.{ℕ, List}
use Rattle.wh_workflow.specs.declared.job.Job.{Job}
use Rattle.wh_workflow.specs.declared.command.Command.{Command}
use Rattle.wh_rows.specs.declared.row.RowsState.{RowsState}
use Rattle.wh_rows.specs.Tables.{Definition}
use Rattle.wh_rows.specs.Rows.{gives, seen_by, initial}
use Rattle.wh_rows.specs.Courses.{comes, is_given, gave, course}
use Rattle.wh_rows.specs.Watches.{Turn, Standing, new_standing, turned, watched}

-- once a job has come
abbrev pub told_by : List Turn → RowsState → Job → Standing → Standing
told_by turns state job now = turned turns (λ what. comes what state job) now

-- after a command
abbrev pub given_by : List Turn → Command → Standing → Standing
given_by turns command now = turned turns (λ what. is_given what command) now

-- after a job and its commands
abbrev pub through : Definition → List Turn → RowsState → Job → Standing → Standing
through table turns state job now = watched turns (told_by turns (seen_by table state job) job now) (gave (gives table state job))

-- what it has spent after jobs
abbrev pub spends : Definition → List Turn → List Job → ℕ
spends table turns jobs = (watched turns new_standing (course table (initial table) jobs)).spent
