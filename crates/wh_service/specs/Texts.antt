-- The report of a service, and what is said of its failed tasks.
use Rattle.std.specs.Prelude.{ℕ, List, ◌++◌, codes, decimal, not, Bool, false, Option, Some, None, Result, Ok, Err, if◌then◌else◌, eqb}
use Rattle.std.specs.List.{flat_map}
use Rattle.wh_host.specs.declared.reply.Totals.{Totals}
use Rattle.wh_host.specs.Texts.{totals_text}
use Rattle.wh_json.specs.declared.fault.ReadFault.{ReadFault}
use Rattle.wh_replay.specs.declared.fault.Fault.{Fault}
use Rattle.wh_replay.specs.declared.fault.Fault.TheVariants.{Workflow as OfCommands}
use Rattle.wh_workflow.specs.declared.fault.WorkflowFault.{WorkflowFault}
use Rattle.wh_workflow.specs.declared.fault.WorkflowFault.TheVariants.{UnknownWorkflow}
use Rattle.wh_tester.specs.Faults.{replay_fault_text, workflow_fault_name}
use Rattle.wh_tester.specs.Report.{shown, line_text}
use Rattle.wh_tester.specs.declared.line.Verdict.TheVariants.{Unreadable}
use Rattle.wh_service.specs.declared.failures.FileFailure.{FileFailure}
use Rattle.wh_service.specs.declared.rows.FileCounts.{FileCounts}
use Rattle.wh_service.specs.declared.rows.FileRow.{FileRow}

-- `<tasks> tasks, <completed> completed, <failed> failed`
abbrev pub counts_text : FileCounts → List ℕ
counts_text counts =
    decimal counts.tasks ++ (codes " tasks, "
    ++ (decimal counts.completed ++ (codes " completed, " ++ (decimal counts.failed ++ codes " failed\n"))))

abbrev pub outcome_text : List ℕ → Result FileCounts ReadFault → List ℕ
outcome_text name (Ok counts) = shown name ++ (codes ": " ++ counts_text counts)
outcome_text name (Err fault) = line_text (record { name = name; verdict = Unreadable fault })

-- the line of a file: its counts, or the line of an unreadable file as in the report of replay
abbrev pub row_text : FileRow → List ℕ
row_text row = outcome_text row.name row.outcome

-- a line for each file, then the totals
abbrev pub service_text : List FileRow → Totals → List ℕ
service_text rows totals = flat_map row_text rows ++ (totals_text totals ++ codes "\n")

-- a fault of commands is that of another task: not that there is no code for the workflow type, and not this task's own
abbrev pub is_of_another : (at own : ℕ) → WorkflowFault → Bool
is_of_another at own UnknownWorkflow = false
is_of_another at own _ = not (eqb own at)

-- `task at <event>: <words>`
abbrev pub at_task : ℕ → List ℕ → List ℕ
at_task at words = codes "task at " ++ (decimal at ++ (codes ": " ++ words))

-- why a task failed where commands have a fault: its name, and where it is another task's, that task after it
abbrev pub commands_text : (at own : ℕ) → WorkflowFault → List ℕ
commands_text at own fault =
    if is_of_another at own fault
    then at_task at (workflow_fault_name fault) ++ (codes " in the task at " ++ decimal own)
    else at_task at (workflow_fault_name fault)

-- why a task failed: its fault as in the report of replay, but of a fault of commands its name
abbrev pub why_text : ℕ → Option Fault → List ℕ
why_text at None = at_task at (codes "not answered")
why_text at (Some (OfCommands own fault)) = commands_text at own fault
why_text at (Some fault) = at_task at (replay_fault_text fault)

-- `<name>: task at <event>: <fault>`
abbrev pub failure_text : FileFailure → List ℕ
failure_text failure = shown failure.name ++ (codes ": " ++ why_text failure.task.at failure.task.fault)
