-- Paths at which nothing can be read.
use Rattle.std.proofs.Common.{◌≡◌, ℕ, List, None, refl, sym, subst}
use Rattle.wh_diagnostics.specs.declared.failures.Failure.{Failure}
use Rattle.wh_diagnostics.specs.declared.failures.Failure.TheVariants as failures
use Rattle.wh_console.specs.declared.files.FolderFault.{FolderFault}
use Rattle.wh_console.specs.declared.files.FolderFault.TheVariants.{Unreadable, OutOfMemory}
use Rattle.wh_console.specs.declared.files.Reason.{Reason}
use Rattle.wh_diagnostics.specs.Listings.{IsUnreadAt}

-- what a fault at a path means
pub unread_at : (path : List ℕ) (fault : FolderFault) (failure : Failure)
    → ((reason : Reason) → fault ≡ Unreadable reason → failure ≡ failures.Unreadable path None reason)
    → (fault ≡ OutOfMemory → failure ≡ failures.OutOfMemory)
    → IsUnreadAt path failure
unread_at path (Unreadable reason) failure gives memory = subst (λ f. IsUnreadAt path f) (sym (gives reason refl)) (refl, refl)
unread_at path OutOfMemory failure gives memory = subst (λ f. IsUnreadAt path f) (sym (memory refl)) tt
