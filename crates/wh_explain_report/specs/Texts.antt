-- The text of an explanation, line by line.
use Rattle.std.specs.Prelude.{ℕ, List, [], ◌∷◌, ◌++◌, ◌-◌, length, codes, decimal, Option, Some, None, if◌then◌else◌, slice_get}
use Rattle.std.specs.List.{flat_map}
use Rattle.wh_workflow.specs.declared.command.Command.{Command}
use Rattle.wh_workflow.specs.declared.job.Job.{Job}
use Rattle.wh_workflow.specs.ActivationScripts.{Step}
use Rattle.wh_workflow.specs.Jobs.{job_phrase}
use Rattle.wh_workflow.specs.Names.{command_phrase}
use Rattle.wh_tester.specs.Report.{no_code_text}
use Rattle.wh_explained_tasks.specs.declared.Pairing.{Pairing}
use Rattle.wh_explained_tasks.specs.declared.Ending.{Ending}
use Rattle.wh_explained_tasks.specs.declared.Ending.TheVariants.{Refused, Live, Recorded}
use Rattle.wh_explained_tasks.specs.declared.ExplainedTask.{ExplainedTask}
use Rattle.wh_explain.specs.Numbers.{left_after, number_of}
use Rattle.wh_explain.specs.Pairings.{differs}
use Rattle.wh_phrases.specs.Phrases.{phrase_text}
use Rattle.wh_phrases.specs.Sides.{sends_text, sides_text}

-- `gives COMMAND`
abbrev pub gives_line : Command → List ℕ
gives_line command = codes "    gives " ++ (phrase_text (command_phrase command) ++ 10 ∷ [])

-- the number of the event of a job, if there is one
abbrev pub number_text : Option ℕ → List ℕ
number_text None = []
number_text (Some number) = codes " (event " ++ (decimal number ++ codes ")")

-- `told JOB (event NUMBER)`
abbrev pub told_line : Option ℕ → Job → List ℕ
told_line number job = codes "  told " ++ (phrase_text (job_phrase job) ++ (number_text number ++ 10 ∷ []))

-- the line of a job, and a line for each command that was given at the job
abbrev pub step_text : Option ℕ → Step → List ℕ
step_text number step = told_line number step.job ++ flat_map gives_line step.commands

-- what is written of steps, whose jobs come from the events of these numbers, if `one` is written of each
unfoldable pub steps_as : (one : Option ℕ → Step → List ℕ) → List ℕ → List Step → List ℕ
steps_as one left [] = []
steps_as one left (step ∷ steps) =
    one (number_of step.job left) step ++ steps_as one (left_after step.job left) steps

-- `refuses COMMAND`
abbrev pub refuses_line : Option Command → List ℕ
refuses_line None = []
refuses_line (Some command) = codes "  refuses " ++ (phrase_text (command_phrase command) ++ 10 ∷ [])

-- the last command of a step, if there is one
abbrev pub last_given : Option Step → Option Command
last_given None = None
last_given (Some step) = slice_get step.commands (length step.commands - 1)

-- the last command of the last step
abbrev pub last_command : List Step → Option Command
last_command steps = last_given (slice_get steps (length steps - 1))

-- a command of a task that is not recorded yet
abbrev pub sends_line : Command → List ℕ
sends_line command = codes "  " ++ (sends_text command ++ 10 ∷ [])

-- the words for a pairing that differs; nothing if it does not
abbrev pub differs_text : Pairing → List ℕ
differs_text pairing = if differs pairing then codes ", differs" else []

-- the command and the event of a pairing, and whether they differ
unfoldable pub pairing_line : Pairing → List ℕ
pairing_line pairing = codes "  " ++ (sides_text pairing ++ (differs_text pairing ++ 10 ∷ []))

-- how a task of these steps ends
abbrev pub ending_text : List Step → Ending → List ℕ
ending_text steps Refused = refuses_line (last_command steps)
ending_text steps (Live sent) = flat_map sends_line sent ++ codes "  not recorded yet\n"
ending_text steps (Recorded pairings) = flat_map pairing_line pairings

-- a task: its number, its steps and its ending
abbrev pub task_text : ExplainedTask → List ℕ
task_text task =
    (codes "task at " ++ (decimal task.at ++ 10 ∷ []))
    ++ (steps_as step_text task.given task.steps ++ ending_text task.steps task.ending)

-- `no code for the workflow type NAME`, if it is not registered, with the name shown as names in reports are
abbrev pub unknown_line : Option (List ℕ) → List ℕ
unknown_line None = []
unknown_line (Some kind) = no_code_text kind ++ codes "\n"
