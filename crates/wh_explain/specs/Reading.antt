-- The explanation of a file by the result of reading it.
use Rattle.std.specs.Prelude.{◌≡◌, ◌≤◌, ℕ, List, length, Result, IfErr, Vec}
use Rattle.std.specs.declared.alloc.Global.{Global}
use Rattle.wh_events.specs.declared.event.Event.{Event}
use Rattle.wh_json.specs.Events.{history, longest}
use Rattle.wh_json.specs.Outcome.{Gives}
use Rattle.wh_json.specs.declared.fault.ReadFault.{ReadFault}
use Rattle.wh_json.specs.declared.fault.ReadFault.TheVariants.{OutOfMemory}
use Rattle.wh_workflow.specs.Law.{Program}
use Rattle.wh_tester.specs.Verdicts.{IsVerdict}
use Rattle.wh_explain.specs.declared.explanation.Explanation.{Explanation}
use Rattle.wh_explain.specs.Differences.{last_difference}
use Rattle.wh_explain.specs.Explaining.{AreTasksIn}

-- the result of reading the bytes of a file: its history, the first fault, or that there was no memory, which is never
-- the result for a file that is too long
pub record IsReadOf (bytes : List ℕ) (read : Result (Vec Event Global) ReadFault) : Type 0 where
  pub exact : Gives (λ events. events.items) read (history bytes)
  pub memory : IfErr read (λ fault. fault ≡ OutOfMemory → length bytes ≤ longest)

-- the explanation of a file: its tasks, the verdict on it, and the difference that the tasks end in
pub record IsExplanationIn {S : Type 0} (program : Program S) (bytes : List ℕ) (own : Explanation) : Type 0 where
  pub explained : AreTasksIn program (history bytes) own.tasks
  pub verdict : IsVerdict program bytes own.verdict
  pub difference : own.difference ≡ last_difference own.tasks
