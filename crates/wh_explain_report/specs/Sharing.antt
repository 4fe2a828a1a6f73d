-- Which tasks share things, such as activities, with another task.
use Rattle.std.specs.Prelude.{ℕ, ◌||◌, List, Bool, true, false, bytes_eq, Option, Some, None}
use Rattle.std.specs.List.{list_any}
use Rattle.wh_workflow.specs.declared.command.Command.{Command}
use Rattle.wh_workflow.specs.declared.job.Job.{Job}
use Rattle.wh_workflow.specs.declared.job.Job.TheVariants.{Start, Signal}
use Rattle.wh_workflow.specs.ActivationScripts.{Step}
use Rattle.wh_workflow.specs.Jobs.{job_phrase}
use Rattle.wh_workflow.specs.Names.{command_phrase}
use Rattle.wh_explained_tasks.specs.declared.Ending.{Ending}
use Rattle.wh_explained_tasks.specs.declared.Ending.TheVariants.{Recorded}
use Rattle.wh_explained_tasks.specs.declared.ExplainedTask.{ExplainedTask}
use Rattle.wh_explained_tasks.specs.declared.Pairing.{Pairing}
use Rattle.wh_explained_tasks.specs.declared.Pairing.TheVariants.{Different, CommandMissing}
use Rattle.wh_phrases.specs.Phrases.{event_phrase}

-- there is another id, and it is the same
abbrev pub is_id : List ℕ → Option (List ℕ) → Bool
is_id id None = false
is_id id (Some other) = bytes_eq id other

-- the id of the thing that a job is about: the start of a run and a received signal are about none
abbrev pub thing_of : Job → Option (List ℕ)
thing_of (Start _ _) = None
thing_of (Signal _ _) = None
thing_of job = (job_phrase job).id

-- the command is about the thing of an id
abbrev pub command_has : List ℕ → Command → Bool
command_has id command = is_id id (command_phrase command).id

-- the job of a step, or a command given at it, is about the thing of an id
abbrev pub step_has : List ℕ → Step → Bool
step_has id step = is_id id (thing_of step.job) || list_any (command_has id) step.commands

-- the recorded event of a difference is about the thing of an id
abbrev pub pairing_has : List ℕ → Pairing → Bool
pairing_has id (Different _ event) = is_id id (event_phrase event).id
pairing_has id (CommandMissing event) = is_id id (event_phrase event).id
pairing_has id _ = false

-- the recorded event of a difference in which a task ends is about the thing of an id
abbrev pub ending_has : List ℕ → Ending → Bool
ending_has id (Recorded pairings) = list_any (pairing_has id) pairings
ending_has id _ = false

-- a task is about the thing of an id: one of its steps, or the difference in which it ends
abbrev pub task_has : List ℕ → ExplainedTask → Bool
task_has id task = list_any (step_has id) task.steps || ending_has id task.ending

-- there is an id, and the task is about its thing
abbrev pub has_some : ExplainedTask → Option (List ℕ) → Bool
has_some task None = false
has_some task (Some id) = task_has id task

-- the command is about a thing of the task
abbrev pub command_shares : ExplainedTask → Command → Bool
command_shares task command = has_some task (command_phrase command).id

-- the job of a step, or a command given at it, is about a thing of the task
abbrev pub step_shares : ExplainedTask → Step → Bool
step_shares task step =
    has_some task (thing_of step.job) || list_any (command_shares task) step.commands

-- the second task is about a thing of the first
unfoldable pub shares : ExplainedTask → ExplainedTask → Bool
shares task other = list_any (step_shares task) other.steps
