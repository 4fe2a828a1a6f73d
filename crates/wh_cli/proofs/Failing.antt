-- Why live work has no report.
use Rattle.std.proofs.Common.{refl}
use Rattle.wh_cli.specs.Private.Commands.{IsPlanFailure, IsWorkFailure}
use Rattle.wh_command_line.specs.declared.work.WorkOptions.{WorkOptions}
use Rattle.wh_diagnostics.specs.declared.failures.Failure.{Failure}
use Rattle.wh_diagnostics.specs.declared.failures.Failure.TheVariants.{OutOfMemory}
use Rattle.wh_work.specs.Policies.{IsPlanFault}
use Rattle.wh_work.specs.declared.policies.PlanFault.{PlanFault}
use Rattle.wh_work.specs.declared.policies.PlanFault.TheVariants as faults

-- there is no plan for it, by its fault
pub work_failed : (options : WorkOptions) (fault : PlanFault) (failure : Failure)
    → IsPlanFault options.metrics fault → IsPlanFailure fault failure → IsWorkFailure options failure
work_failed options fault failure is gives = record { fault = fault; is = is; gives = gives }

-- or there was no memory
pub work_full : (options : WorkOptions) → IsWorkFailure options OutOfMemory
work_full options = record { fault = faults.OutOfMemory; is = tt; gives = refl }
