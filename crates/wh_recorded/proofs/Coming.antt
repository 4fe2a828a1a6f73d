-- After a call a source still comes from all the sources that it came from.
use Rattle.std.proofs.Common.{◌≡◌, List, [], ◌∷◌, ◌++◌, refl, ap, subst}
use Rattle.std.specs.Prelude.{Result, Ok, Err, OnOk, OnErr}
use Rattle.wh_slots.specs.declared.TaskName.{TaskName}
use Rattle.wh_tasks.specs.declared.source.Sent.{Sent}
use Rattle.wh_tasks.specs.Source.{KeepsOrigin}
use Rattle.wh_recorded.specs.Rounds.{Stage}
use Rattle.wh_recorded.specs.Calls.{Call, Does, DoesAll, ComesFrom}
use Rattle.wh_recorded.specs.Calls.Call.{look, send}

does_more : (first old new : Stage) (calls : List Call) (call : Call) → DoesAll first calls old → Does old call new → DoesAll first (calls ++ call ∷ []) new
does_more first old new [] call made does = (new, subst (λ stage. Does stage call new) made does, refl)
does_more first old new (c ∷ calls) call made does = (made.0, made.1, does_more made.0 old new calls call made.2 does)

-- one call more
pub comes_on : (old new : Stage) (call : Call) → Does old call new → KeepsOrigin ComesFrom old new
comes_on old new call does first came = record { calls = came.calls ++ call ∷ []; made = does_more first old new came.calls call came.made does }

-- a call that changed nothing
pub comes_still : (old new : Stage) → new ≡ old → KeepsOrigin ComesFrom old new
comes_still old new same = comes_on old new look same

-- an answer that was stored, or that changed nothing
pub comes_stored : {X E : Type 0} (old : Stage) (answers : List (TaskName × Sent)) (name : TaskName) (sent : Sent) (stored : Result X E)
    → OnOk stored (answers ≡ old.answers ++ (name, sent) ∷ []) → OnErr stored (answers ≡ old.answers) → KeepsOrigin ComesFrom old (record old { answers = answers })
comes_stored old answers name sent (Ok done) put kept = comes_on old (record old { answers = answers }) (send name sent) (ap (λ l. record old { answers = l }) put)
comes_stored old answers name sent (Err fault) put kept = comes_still old (record old { answers = answers }) (ap (λ l. record old { answers = l }) kept)
