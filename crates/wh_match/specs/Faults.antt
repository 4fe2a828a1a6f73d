-- The workflow faults of calls of a script.
use Rattle.std.specs.Prelude.{Option, Some, None, Result, Ok, Err}
use Rattle.wh_workflow.specs.declared.fault.WorkflowFault.{WorkflowFault}
use Rattle.wh_match.specs.declared.fault.ScriptFault.{ScriptFault}
use Rattle.wh_match.specs.declared.fault.ScriptFault.TheVariants.{Workflow, OutOfMemory}

-- the workflow fault of an answer, if it is one
abbrev pub workflow_fault : {A : Type 0} → Result A ScriptFault → Option WorkflowFault
workflow_fault (Ok x) = None
workflow_fault (Err (Workflow fault)) = Some fault
workflow_fault (Err OutOfMemory) = None
