-- The status with which a program ends that is asked for nothing.
use Rattle.std.proofs.Common.{◌≡◌, ℕ, List, inl, inr}
use Rattle.wh_console.specs.Consoles.{ConsoleView}
use Rattle.wh_diagnostics.specs.Answers.{Answers, AskForNothing, Does, Leaves}

-- words that ask for no plan give 2
pub refused : (Obeys : Does) (IsUndone : Leaves) (words : List (List ℕ)) (old new : ConsoleView) (status : ℕ)
    → Answers Obeys IsUndone words old new status → AskForNothing words → status ≡ 2
refused Obeys IsUndone words old new status (inl h) none = absurd (none h.plan h.asked)
refused Obeys IsUndone words old new status (inr h) none = h.failed.ends
