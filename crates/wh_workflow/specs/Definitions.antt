-- What workflow types declare.
use Rattle.std.specs.Prelude.{ℕ, List, [], Bool, if◌then◌else◌}
use Rattle.wh_workflow.specs.declared.definition.WorkflowDefinition.{WorkflowDefinition}

-- what each workflow type declares
abbrev pub Definitions : Type 0
Definitions = List ℕ → WorkflowDefinition

-- no queries and no signals
abbrev pub nothing_defined : WorkflowDefinition
nothing_defined = record { queries = []; signals = [] }

-- no workflow type declares anything
abbrev pub no_definitions : Definitions
no_definitions kind = nothing_defined

-- the definitions of two workflows as one: a workflow type that both know is that of the first
abbrev pub pair_definitions : (List ℕ → Bool) → Definitions → Definitions → Definitions
pair_definitions knows first second kind = if knows kind then first kind else second kind
