-- The policies that options ask for.
use Rattle.std.specs.Prelude.{◌≡◌, ℕ, Option, Some, None, List}
use Rattle.wh_command_line.specs.declared.work.WorkOptions.{WorkOptions}
use Rattle.wh_policies.specs.Defaults as plain
use Rattle.wh_policies.specs.declared.policies.Policies.{Policies}
use Rattle.wh_policies.specs.Policies.{IsRead, IsRefused}
use Rattle.wh_work.specs.MetricsPaths.{IsMetricsText}
use Rattle.wh_work.specs.declared.policies.PlanFault.{PlanFault}
use Rattle.wh_work.specs.declared.policies.PlanFault.TheVariants as plan

-- a file has a text that gives these policies, where activities have these seconds and attempts otherwise
abbrev pub AreOfFile : (seconds attempts : ℕ) → Policies → Type 0
AreOfFile seconds attempts policies = (text : List ℕ) × IsRead seconds attempts text policies

-- the policies are those of the file, if there is one, and else have these seconds and attempts alone
abbrev pub AreGiven : (seconds attempts : ℕ) → Option (List ℕ) → Policies → Type 0
AreGiven seconds attempts None policies = policies ≡ plain.policies seconds attempts
AreGiven seconds attempts (Some path) policies = AreOfFile seconds attempts policies

-- the policies are those that the options ask for
abbrev pub ArePolicies : WorkOptions → Policies → Type 0
ArePolicies options policies = AreGiven options.activity_timeout options.activity_attempts options.policies policies

-- a file of policies is refused for what its text has, and the path of a file of counts for what is there or beside it
abbrev pub IsPlanFault : (metrics : Option (List ℕ)) → PlanFault → Type 0
IsPlanFault metrics (plan.BadPolicies bad) = (text : List ℕ) × IsRefused text bad.fault
IsPlanFault metrics (plan.BadMetrics text) = IsMetricsText metrics text
IsPlanFault metrics _ = Unit {0}

-- why there are no policies, wherever counts are kept
abbrev pub IsPolicyFault : PlanFault → Type 0
IsPolicyFault fault = (metrics : Option (List ℕ)) → IsPlanFault metrics fault
