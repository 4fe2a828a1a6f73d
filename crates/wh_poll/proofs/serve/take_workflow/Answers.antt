use Rattle.std.proofs.Common.{◌≡◌, Option, sym, subst}
use Rattle.std.specs.Prelude.{IfSome}
use Rattle.wh_replay.specs.Runs.{Held}
use Rattle.wh_poll.proofs.Lookups.{lookup-own}
use Rattle.wh_poll.proofs.serve.take_workflow.Goals as goal

-- a run is looked up under the key of the task
pub returns-in-Ok-used-clause-own : goal.returns-in-Ok-used-clause-own
returns-in-Ok-used-clause-own g c =
    subst (λ key. IfSome c.in-Ok-used.used.1 (λ run. run.key ≡ key)) c.in-Ok.ensures
    (subst (λ (found : Option Held). IfSome found (λ run. run.key ≡ c.in-Ok.key)) (sym c.in-Ok-used.ensures.step.handed_out) (lookup-own c.in-Ok.key _))
