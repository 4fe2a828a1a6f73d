-- Why a query has no full report.
use Rattle.std.proofs.Common.{◌≡◌, ℕ, List, inl, inr, refl, sym, subst}
use Rattle.std.specs.Prelude.{Option, Some, Result, Ok, Err, IfErr, IsSome}
use Rattle.std.specs.Result.{IsErrAnd}
use Rattle.wh_diagnostics.specs.Failures.{IsWriteFailure}
use Rattle.wh_diagnostics.specs.Files.{IsNotCarriedOut, IsUnreadFile}
use Rattle.wh_diagnostics.specs.Readings.{Gives}
use Rattle.wh_diagnostics.specs.declared.failures.Failure.{Failure}
use Rattle.wh_file_commands.specs.Queries.{IsUnasked, IsUnqueried}
use Rattle.wh_workflow.specs.declared.queryable.Query.{Query}

unqueried : (gives : Gives) (asked : Option Query) (query : Query) (path : List ℕ) (failure : Failure) → asked ≡ Some query
    → IsNotCarriedOut gives (λ file. IsWriteFailure) path failure → IsUnqueried gives asked path failure
unqueried gives asked query path failure is why = inr (subst IsSome (sym is) refl, why)

-- a query that was asked has no full report
pub asked_unqueried : (gives : Gives) (asked : Option Query) (query : Query) (path : List ℕ) (answer : Result ℕ Failure) → asked ≡ Some query
    → IfErr answer (IsNotCarriedOut gives (λ file. IsWriteFailure) path) → IfErr answer (IsUnqueried gives asked path)
asked_unqueried gives asked query path (Ok status) is why = tt
asked_unqueried gives asked query path (Err failure) is why = unqueried gives asked query path failure is why

-- nor has one whose file is not read
pub unread_unqueried : (gives : Gives) (asked : Option Query) (query : Query) (path : List ℕ) (failure : Failure) (answer : Result ℕ Failure)
    → asked ≡ Some query → IsErrAnd answer (λ given. given ≡ failure) → IsUnreadFile path failure
    → IfErr answer (IsUnqueried gives asked path)
unread_unqueried gives asked query path failure (Ok status) is same why = tt
unread_unqueried gives asked query path failure (Err given) is same why =
    unqueried gives asked query path given is (inl (subst (IsUnreadFile path) (sym same) why))
