-- What only contracts of private functions cite, for Activating.
use Rattle.std.specs.Prelude.{◌≡◌, ℕ, false, List, [], ◌∷◌}
use Rattle.wh_workflow.specs.declared.command.Command.{Command}
use Rattle.wh_workflow.specs.Law.{is_ask, is_marker}
use Rattle.wh_match.specs.declared.fault.ScriptFault.{ScriptFault}
use Rattle.wh_match.specs.declared.fault.ScriptFault.TheVariants.{Workflow, OutOfMemory}
use Rattle.wh_replay.specs.declared.fault.Fault.TheVariants.{Workflow as WorkflowFaulty}
use Rattle.wh_replay.specs.declared.fault.RunFault.{RunFault}
use Rattle.wh_replay.specs.declared.fault.RunFault.TheVariants.{Fault as Faulty, OutOfMemory as NoMemory}

-- none of the commands asks, and none is a marker
abbrev pub IsPlain : List Command → Type 0
IsPlain [] = Unit {0}
IsPlain (command ∷ rest) = (is_ask command ≡ false) × (is_marker command ≡ false) × IsPlain rest

-- the fault of an activation at the cut with the number
abbrev pub fault_at : ℕ → ScriptFault → RunFault
fault_at number (Workflow fault) = Faulty (WorkflowFaulty number fault)
fault_at number OutOfMemory = NoMemory
