-- The steps of an activation, one after another, with what is shown of each.
use Rattle.std.specs.Prelude.{◌≡◌, ℕ, List, [], ◌∷◌, ◌++◌, Option, None, Result, Ok, Err}
use Rattle.wh_workflow.specs.declared.command.Command.{Command}
use Rattle.wh_workflow.specs.declared.job.Job.{Job}
use Rattle.wh_workflow.specs.declared.fault.WorkflowFault.{WorkflowFault}
use Rattle.wh_workflow.specs.Law.{Program}
use Rattle.wh_workflow.specs.Scripts.{ActivationContext, Settled}
use Rattle.wh_workflow.specs.Activations.{Progress}
use Rattle.wh_workflow.specs.ActivationScripts.{Step, IsLongest, fault_in, issued_in, settled_after, state_after}
use Rattle.wh_match.specs.declared.fault.ScriptFault.{ScriptFault}
use Rattle.wh_match.specs.declared.fault.ScriptFault.TheVariants.{Workflow, OutOfMemory}
use Rattle.wh_replay.specs.Activating.{StopsAfter}
use Rattle.wh_explain.specs.declared.explanation.DetailLevel.{DetailLevel}
use Rattle.wh_explain.specs.declared.explanation.DetailLevel.TheVariants.{Verdict, Steps}

-- what is kept is the whole, if steps are kept; else it can be anything
abbrev pub Keeps : {A : Type 0} → DetailLevel → A → A → Type 0
Keeps Verdict kept whole = Unit {0}
Keeps Steps kept whole = kept ≡ whole

module _ {S : Type 0} where
  -- all commands that the workflow gives at a job are shown, or those up to and with the first invalid one; if memory
  -- ran out, what is shown can be anything
  abbrev pub Shows : {A : Type 0} → Result A ScriptFault → Program S → ActivationContext → Progress S → Job
      → List Command → Type 0
  Shows (Ok _) program context progress job shown = shown ≡ program.gives progress.state job
  Shows (Err (Workflow fault)) program context progress job shown =
      let script = progress.script in
      (place : ℕ)
      × (stop : StopsAfter context script.settled script.issued (program.gives progress.state job) place fault)
      × (shown ≡ stop.front ++ stop.command ∷ [])
  Shows (Err OutOfMemory) program context progress job shown = Unit {0}

  -- a step is added: the job with the commands that are shown
  abbrev pub AddsStep : {A : Type 0} → Result A ScriptFault → Program S → ActivationContext → Progress S → Job
      → List Step → List Step → Type 0
  AddsStep (Ok _) program context progress job before after =
      after ≡ before ++ record { job = job; commands = program.gives progress.state job } ∷ []
  AddsStep {A} (Err (Workflow fault)) program context progress job before after =
      (shown : List Command) × (after ≡ before ++ record { job = job; commands = shown } ∷ [])
      × Shows {A = A} (Err (Workflow fault)) program context progress job shown
  AddsStep (Err OutOfMemory) program context progress job before after = Unit {0}

  -- the steps have this fault, if they have one; else they leave this state, these versions and these issued commands
  pub record Leaves (program : Program S) (context : ActivationContext) (state : S) (settled : Settled)
      (steps : List Step) (fault : Option WorkflowFault) (left : S) (versions : Settled)
      (issued : List Command) : Type 0 where
    pub fault_is : fault ≡ fault_in context settled [] steps
    pub left_is : fault ≡ None → left ≡ state_after program state steps
    pub versions_are : fault ≡ None → versions ≡ settled_after settled steps
    pub issued_are : fault ≡ None → issued ≡ issued_in context settled steps

  -- the steps of an activation are its longest script and leave this; they are kept as `detail` says
  pub record Ran (detail : DetailLevel) (program : Program S) (context : ActivationContext) (jobs : List Job) (state : S)
      (settled : Settled) (kept : List Step) (fault : Option WorkflowFault) (left : S) (versions : Settled)
      (issued : List Command) : Type 0 where
    pub steps : List Step
    pub keeps : Keeps detail kept steps
    pub longest : IsLongest program context jobs state settled steps
    pub leaves : Leaves program context state settled steps fault left versions issued
