-- Failed tasks that repeat one, counted one after another.
use Rattle.std.proofs.Common.{◌≡◌, ◌∙◌, ◌+◌, true, false, List, ◌∷◌, ap}
use Rattle.std.specs.Prelude.{if◌then◌else◌}
use Rattle.wh_service.specs.declared.failures.FileFailure.{FileFailure}
use Rattle.wh_service.specs.Repeats.{is_repeat, repeats}

-- one that repeats it counts
pub counts : (one next : FileFailure) (rest left : List FileFailure) → left ≡ next ∷ rest → is_repeat one next ≡ true → repeats one left ≡ repeats one rest + 1
counts one next rest left at is = ap (repeats one) at ∙ ap (λ b. if b then repeats one rest + 1 else 0) is

-- and the first that does not ends it
pub ends : (one next : FileFailure) (rest left : List FileFailure) → left ≡ next ∷ rest → is_repeat one next ≡ false → repeats one left ≡ 0
ends one next rest left at is = ap (repeats one) at ∙ ap (λ b. if b then repeats one rest + 1 else 0) is
