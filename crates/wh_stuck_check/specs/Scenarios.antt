-- Moves as the text of a scenario.
use Rattle.std.specs.Prelude.{ℕ, Bool, true, false, List, [], ◌∷◌, ◌++◌, map, codes}
use Rattle.std.specs.Fmt.{signed_decimal}
use Rattle.wh_workflow.specs.declared.job.Job.{Job}
use Rattle.wh_workflow.specs.declared.job.Job.TheVariants as jobs
use Rattle.wh_workflow.specs.declared.job.ActivityEnd.{ActivityEnd}
use Rattle.wh_workflow.specs.declared.job.ActivityEnd.TheVariants as ends
use Rattle.wh_workflow.specs.declared.job.ChildEnd.{ChildEnd}
use Rattle.wh_workflow.specs.declared.job.ChildEnd.TheVariants as child_ends
use Rattle.wh_workflow.specs.declared.fault.WorkflowFault.{WorkflowFault}
use Rattle.wh_workflow.specs.declared.fault.WorkflowFault.TheVariants as workflow_faults
use Rattle.wh_possible_runs.specs.PossibleRuns.{Move, GivesJob, NextTask}
use Rattle.wh_stuck_check.specs.Verdicts.{move_of}
use Rattle.wh_stuck_check.specs.declared.verdict.StuckRun.{StuckRun}
use Rattle.wh_stuck_check.specs.declared.verdict.StuckDoubt.{StuckDoubt}
use Rattle.wh_stuck_check.specs.declared.verdict.StuckDoubt.TheVariants as doubts

-- how an activity ended
abbrev pub activity_word : ActivityEnd → List ℕ
activity_word (ends.Completed _) = codes "done"
activity_word ends.Failed = codes "failed"
activity_word ends.TimedOut = codes "timed-out"
activity_word ends.Canceled = codes "canceled"

-- how a child ended
abbrev pub child_word : ChildEnd → List ℕ
child_word (child_ends.Completed _) = codes "child-done"
child_word child_ends.Failed = codes "child-failed"
child_word child_ends.Canceled = codes "child-canceled"
child_word child_ends.TimedOut = codes "child-timed-out"
child_word child_ends.Terminated = codes "child-terminated"
child_word child_ends.StartFailed = codes "child-not-started"

-- a job as scenarios write it, without what it carries
abbrev pub job_words : Job → List ℕ
job_words (jobs.Start _ _) = codes "start"
job_words jobs.CancelRequested = codes "cancel"
job_words (jobs.Signal name _) = codes "signal " ++ name
job_words (jobs.Activity id end) = activity_word end ++ (codes " " ++ id)
job_words (jobs.TimerFired id) = codes "fired " ++ id
job_words (jobs.ChildStarted id) = codes "child-started " ++ id
job_words (jobs.Child id end) = child_word end ++ (codes " " ++ id)
job_words (jobs.Version change number) = codes "version " ++ (change ++ (codes " " ++ signed_decimal number))
job_words _ = codes "?"

-- moves after a separator: tasks by a semicolon, the jobs of a task by a plus
abbrev pub scenario_from : List ℕ → List Move → List ℕ
scenario_from separator [] = []
scenario_from separator (GivesJob job ∷ later) = separator ++ (job_words job ++ scenario_from (codes " + ") later)
scenario_from separator (NextTask ended ∷ later) = scenario_from (codes "; ") later

-- all of them
abbrev pub scenario_text : List Move → List ℕ
scenario_text moves = scenario_from [] moves

-- the name of a fault by which a run gets stuck
abbrev pub fault_name : WorkflowFault → List ℕ
fault_name workflow_faults.IdInUse = codes "IdInUse"
fault_name workflow_faults.IdReused = codes "IdReused"
fault_name workflow_faults.AlreadyCancelling = codes "AlreadyCancelling"
fault_name _ = codes "NotOpen"

-- how long a task fails
abbrev pub duration_words : (heals : Bool) → List ℕ
duration_words true = codes "until what is open ends"
duration_words false = codes "for good"

-- how a table gets stuck: the fault, how long the task fails, and the scenario
abbrev pub stuck_words : StuckRun → List ℕ
stuck_words run =
    codes "gets stuck by " ++ (fault_name run.command.fault ++ (codes ", " ++ (duration_words run.command.heals
    ++ (codes ": " ++ scenario_text (map move_of run.moves.items)))))

-- why it is not decided
abbrev pub doubt_words : StuckDoubt → List ℕ
doubt_words doubts.ByName = codes "it may depend on the name of the run"
doubt_words doubts.TooMany = codes "too many configurations"
doubt_words doubts.UnsureJobs = codes "a run was found that has a version or a second cancel request"
doubt_words doubts.Unconfirmed = codes "what was found is not confirmed"
