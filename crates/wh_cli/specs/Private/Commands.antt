-- What a plan asks for, and what came of it.
use Rattle.std.specs.Prelude.{◌≡◌, ◌⊎◌, ℕ, List}
use Rattle.wh_command_line.specs.Options.{sizes_of}
use Rattle.wh_command_line.specs.declared.command_line.Plan.{Plan}
use Rattle.wh_command_line.specs.declared.command_line.Plan.TheVariants.{Replay, Explain, Page, View, Query, Check, Picture, Try, Serve, Work, Help}
use Rattle.wh_command_line.specs.declared.work.WorkOptions.{WorkOptions}
use Rattle.wh_console.specs.Consoles.{ConsoleView, IsQuiet, Reported}
use Rattle.wh_console.specs.Inputs.{IsReadFrom}
use Rattle.wh_crew.specs.declared.serving.LiveEnd.{LiveEnd}
use Rattle.wh_diagnostics.specs.Failures.{IsWriteFailure, input_failure}
use Rattle.wh_diagnostics.specs.Files.{HasCarriedOut, IsNotCarriedOut}
use Rattle.wh_diagnostics.specs.Listings.{AtPaths, FailsAtPaths, is_by_path}
use Rattle.wh_diagnostics.specs.Printing.{HasPrinted, IsRefused}
use Rattle.wh_diagnostics.specs.Walks.{HasBrokenOff, HasWalked}
use Rattle.wh_diagnostics.specs.declared.failures.Failure.{Failure}
use Rattle.wh_diagnostics.specs.declared.failures.Failure.TheVariants.{BadLine, BadPolicies, Output, OutOfMemory}
use Rattle.wh_file_commands.specs.Explanations.{HasExplained}
use Rattle.wh_file_commands.specs.Pages.{HasPaged}
use Rattle.wh_file_commands.specs.Queries.{HasQueried, IsUnqueried}
use Rattle.wh_file_commands.specs.Recorded.{HasNotShown, HasShown}
use Rattle.wh_file_commands.specs.Refusals.{IsUnshown}
use Rattle.wh_file_commands.specs.QueryInputs.{query_of}
use Rattle.wh_workflow.specs.Queries.{Queries}
use Rattle.wh_replay_command.specs.Replays.{HasNotReplayedPaths, HasReplayedPaths}
use Rattle.wh_service_command.specs.Commands.{HasNotServedFolder, HasServedFolder}
use Rattle.wh_table_commands.specs.Checks.{checks}
use Rattle.wh_table_commands.specs.Pictures.{HasDrawn}
use Rattle.wh_table_commands.specs.Trials.{trials}
use Rattle.wh_work.specs.Plans.{IsLivePlan, LivesBy}
use Rattle.wh_work.specs.Policies.{IsPlanFault}
use Rattle.wh_work.specs.PolicyFaults.{policy_fault_text}
use Rattle.wh_work.specs.Reports.{live_as, live_status}
use Rattle.wh_work.specs.declared.plan.LivePlan.{LivePlan}
use Rattle.wh_work.specs.declared.policies.PlanFault.{PlanFault}
use Rattle.wh_work.specs.declared.policies.PlanFault.TheVariants as faults
use Rattle.wh_workflow.specs.Law.{Program}

-- live tasks were served as the options ask for, how they ended was reported, and the status is that of their end
pub record HasWorked (lives : LivesBy) (options : WorkOptions) (old new : ConsoleView) (status : ℕ) : Type 0 where
  pub plan : LivePlan
  pub planned : IsLivePlan options plan
  pub end : LiveEnd
  pub served : lives plan end
  pub reported : Reported old new (λ name. live_as plan.format end)
  pub ends : status ≡ live_status end

-- what a plan asks for was done
abbrev pub Obeys : {S : Type 0} → Program S → Queries S → LivesBy → (types : List ℕ) → Plan → (old new : ConsoleView)
    → (status : ℕ) → Type 0
Obeys program queries lives types (Replay dir more options) old new status =
    HasReplayedPaths program types dir more.items options old new status
Obeys program queries lives types (Explain file selection format) old new status =
    HasCarriedOut IsReadFrom (HasExplained program selection format) file old new status
Obeys program queries lives types (Page file only_recorded) old new status =
    HasCarriedOut IsReadFrom (HasPaged program only_recorded) file old new status
Obeys program queries lives types (View file more selection format) old new status =
    AtPaths (HasShown IsReadFrom (is_by_path more.items) selection format) file more.items old new status
Obeys program queries lives types (Query file query_type input format) old new status =
    HasCarriedOut IsReadFrom (HasQueried program queries types (query_of query_type input.items) format) file
    old new status
Obeys program queries lives types (Check file more format) old new status =
    AtPaths (HasWalked (checks format) IsReadFrom) file more.items old new status
Obeys program queries lives types (Picture file) old new status =
    HasCarriedOut IsReadFrom HasDrawn file old new status
Obeys program queries lives types (Try file more scenario format) old new status =
    AtPaths (HasWalked (trials scenario format) IsReadFrom) file more.items old new status
Obeys program queries lives types (Serve dir options required progress) old new status =
    HasServedFolder program types dir (sizes_of options) required progress old new status
Obeys program queries lives types (Work options) old new status = HasWorked lives options old new status
Obeys program queries lives types (Help text) old new status = HasPrinted text 0 old new status

-- the failure if there is no plan to serve live tasks, by the fault: there may be no memory for the words of a file that
-- gives no policies
abbrev pub IsPlanFailure : PlanFault → Failure → Type 0
IsPlanFailure (faults.Unread fault) failure = failure ≡ input_failure fault
IsPlanFailure (faults.BadPolicies bad) failure =
    (failure ≡ BadPolicies bad.path (policy_fault_text bad.fault)) ⊎ (failure ≡ OutOfMemory)
IsPlanFailure (faults.BadMetrics text) failure = failure ≡ BadLine text
IsPlanFailure faults.OutOfMemory failure = failure ≡ OutOfMemory

-- why work with live tasks has no report: there is no plan for it, by its fault, or there was no memory
pub record IsWorkFailure (options : WorkOptions) (failure : Failure) : Type 0 where
  pub fault : PlanFault
  pub is : IsPlanFault options.metrics fault
  pub gives : IsPlanFailure fault failure

-- what a plan asks for failed, and why: live work left the console as it was; an explanation and the help reported
-- nothing; a page, a query and a picture reported nothing, and wrote nothing unless the output failed; paths can't be
-- listed, or `check` and `try` broke off; what else `replay`, `serve` and a view left, their own definitions say
abbrev pub IsUndone : {S : Type 0} → Program S → Plan → (old new : ConsoleView) → Failure → Type 0
IsUndone program (Replay dir more options) old new failure =
    HasNotReplayedPaths program dir more.items options old new failure
IsUndone program (Explain file selection format) old new failure =
    IsQuiet old new × IsNotCarriedOut IsReadFrom (λ own. IsWriteFailure) file failure
IsUndone program (Page file only_recorded) old new failure =
    IsRefused old new failure × IsNotCarriedOut IsReadFrom IsUnshown file failure
IsUndone program (View file more selection format) old new failure =
    FailsAtPaths (HasNotShown IsReadFrom (is_by_path more.items) selection format) file more.items old new failure
IsUndone program (Query file query_type input format) old new failure =
    IsRefused old new failure × IsUnqueried IsReadFrom (query_of query_type input.items) file failure
IsUndone program (Check file more format) old new failure =
    FailsAtPaths (HasBrokenOff (checks format) IsReadFrom) file more.items old new failure
IsUndone program (Picture file) old new failure =
    IsRefused old new failure × IsNotCarriedOut IsReadFrom (λ own. IsWriteFailure) file failure
IsUndone program (Try file more scenario format) old new failure =
    FailsAtPaths (HasBrokenOff (trials scenario format) IsReadFrom) file more.items old new failure
IsUndone program (Serve dir options required progress) old new failure =
    HasNotServedFolder program dir progress old new failure
IsUndone program (Work options) old new failure = (new ≡ old) × IsWorkFailure options failure
IsUndone program (Help text) old new failure = IsQuiet old new × (failure ≡ Output)
