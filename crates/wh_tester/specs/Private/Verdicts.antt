-- The verdict of a fault of replay.
use Rattle.std.specs.Prelude.{ℕ, List, Option, Some, None}
use Rattle.wh_replay.specs.declared.fault.Fault.{Fault}
use Rattle.wh_replay.specs.declared.fault.Fault.TheVariants.{Workflow}
use Rattle.wh_tester.specs.declared.line.Verdict.{Verdict}
use Rattle.wh_tester.specs.declared.line.Verdict.TheVariants.{NoCode, Faulty}

-- the verdict of a replay with this fault, by the type that the events begin with, if that is not registered: a fault of
-- place comes first
abbrev pub faulted : (unknown : Option (List ℕ)) → Fault → Verdict
faulted None fault = Faulty fault
faulted (Some kind) (Workflow at fault) = NoCode kind
faulted (Some kind) fault = Faulty fault
