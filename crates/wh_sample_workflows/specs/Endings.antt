-- How a run closes when what it waits for ends.
use Rattle.std.specs.Prelude.{ℕ, List}
use Rattle.wh_workflow.specs.declared.command.Command.{Command}
use Rattle.wh_workflow.specs.declared.command.Command.TheVariants.{Complete, Fail}
use Rattle.wh_workflow.specs.declared.job.ActivityEnd.{ActivityEnd}
use Rattle.wh_workflow.specs.declared.job.ActivityEnd.TheVariants.{Completed}

-- the run completes with the result of the activity, or fails with the message
abbrev pub result_or_failure : List ℕ → ActivityEnd → Command
result_or_failure message (Completed result) = Complete result
result_or_failure message _ = Fail message
