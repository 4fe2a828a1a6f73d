-- An explanation as JSON: for each line of the text an object with its parts, on a line of its own.
use Rattle.std.specs.Prelude.{ℕ, List, [], ◌∷◌, ◌++◌, codes, decimal, Option, Some, None, if◌then◌else◌}
use Rattle.std.specs.List.{flat_map}
use Rattle.wh_workflow.specs.declared.command.Command.{Command}
use Rattle.wh_workflow.specs.declared.job.Job.{Job}
use Rattle.wh_workflow.specs.ActivationScripts.{Step}
use Rattle.wh_tester.specs.Report.{shown}
use Rattle.wh_tester.specs.Json.{text_member}
use Rattle.wh_tester.specs.UnknownTypes.{unregistered_type}
use Rattle.wh_explained_tasks.specs.declared.Pairing.{Pairing}
use Rattle.wh_explained_tasks.specs.declared.Ending.{Ending}
use Rattle.wh_explained_tasks.specs.declared.Ending.TheVariants.{Refused, Live, Recorded}
use Rattle.wh_explained_tasks.specs.declared.ExplainedTask.{ExplainedTask}
use Rattle.wh_explain.specs.declared.explanation.Explanation.{Explanation}
use Rattle.wh_tester.specs.declared.line.Line.{Line}
use Rattle.wh_explain.specs.Pairings.{differs}
use Rattle.wh_phrases.specs.Json.{command_json, job_json, sends_member, pairing_members, difference_members}
use Rattle.wh_phrases.specs.Json.{json_line_with}
use Rattle.wh_console.specs.declared.selection.Selection.{Selection}
use Rattle.wh_explain_report.specs.Selections.{selected_or_all}
use Rattle.wh_explain_report.specs.Texts.{last_command, steps_as}

-- `{"gives":COMMAND}`
abbrev pub gives_object : Command → List ℕ
gives_object command = codes "{\"gives\":" ++ (command_json command ++ codes "}\n")

-- the number of the event of a job, if there is one, as a further member of an object
abbrev pub number_member : Option ℕ → List ℕ
number_member None = []
number_member (Some number) = codes ",\"event\":" ++ decimal number

-- `{"told":JOB,"event":NUMBER}`
abbrev pub told_object : Option ℕ → Job → List ℕ
told_object number job = codes "{\"told\":" ++ (job_json job ++ (number_member number ++ codes "}\n"))

-- the object of a job, and an object for each command that was given at the job
abbrev pub step_objects : Option ℕ → Step → List ℕ
step_objects number step = told_object number step.job ++ flat_map gives_object step.commands

-- `{"refuses":COMMAND}`
abbrev pub refuses_object : Option Command → List ℕ
refuses_object None = []
refuses_object (Some command) = codes "{\"refuses\":" ++ (command_json command ++ codes "}\n")

-- a command of a task that is not recorded yet
abbrev pub sends_object : Command → List ℕ
sends_object command = codes "{" ++ (sends_member command ++ codes "}\n")

-- the command and the event of a pairing, and whether they differ
unfoldable pub pairing_object : Pairing → List ℕ
pairing_object pairing =
    codes "{" ++ (pairing_members pairing
    ++ (codes ",\"differs\":" ++ ((if differs pairing then codes "true" else codes "false") ++ codes "}\n")))

-- how a task of these steps ends; `{"live":true}` says that it is not recorded yet
abbrev pub ending_objects : List Step → Ending → List ℕ
ending_objects steps Refused = refuses_object (last_command steps)
ending_objects steps (Live sent) = flat_map sends_object sent ++ codes "{\"live\":true}\n"
ending_objects steps (Recorded pairings) = flat_map pairing_object pairings

-- a task: its number, its steps, its ending
abbrev pub task_objects : ExplainedTask → List ℕ
task_objects task =
    (codes "{\"task\":" ++ (decimal task.at ++ codes "}\n"))
    ++ (steps_as step_objects task.given task.steps ++ ending_objects task.steps task.ending)

-- `{"unknownWorkflow":"NAME"}`, if the workflow type is not registered
abbrev pub unknown_object : Option (List ℕ) → List ℕ
unknown_object None = []
unknown_object (Some kind) = codes "{" ++ (text_member (codes "unknownWorkflow") (shown kind) ++ codes "}\n")

-- the object of a file, with the difference that its tasks end in, if they do
abbrev pub last_object : Line → Option Pairing → List ℕ
last_object line difference = json_line_with line (difference_members difference)

-- the explanation: the workflow type, if it is not registered, and the tasks that are selected, or all, in their order
unfoldable pub json_explanation : Option Selection → Explanation → List ℕ
json_explanation selection explanation =
    unknown_object (unregistered_type explanation.verdict) ++ flat_map task_objects (selected_or_all selection explanation.tasks)
