-- The failures of inputs.
use Rattle.std.proofs.Common.{◌≡◌, ap, refl, sym, subst}
use Rattle.std.specs.Prelude.{Result, Ok, Err, IfErr, string_bytes}
use Rattle.std.specs.Result.{IsErrAnd}
use Rattle.wh_diagnostics.specs.Failures.{input_failure, IsReadFailure, IsReportFailure}
use Rattle.wh_diagnostics.specs.declared.failures.Failure.{Failure}
use Rattle.wh_diagnostics.specs.declared.failures.Failure.TheVariants as failures
use Rattle.wh_console.specs.Inputs.{IsUnreadFrom}
use Rattle.wh_console.specs.declared.files.Input.{Input}
use Rattle.wh_console.specs.declared.files.Origin.{Origin}
use Rattle.wh_console.specs.declared.files.Origin.TheVariants.{Entry, File, StandardInput}
use Rattle.wh_diagnostics.specs.Readings.{IsNamedAs, IsUnread}
use Rattle.wh_console.specs.declared.files.InputFault.{InputFault}
use Rattle.wh_console.specs.declared.files.InputFault.TheVariants.{Unreadable, OutOfMemory}

-- the failure of an input is one of reading
pub input_fails_to_read : (fault : InputFault) → IsReadFailure (input_failure fault)
input_fails_to_read (Unreadable path entry reason) = tt
input_fails_to_read OutOfMemory = tt

-- so it is where that is answered
pub input_unread : {T : Type 0} (fault : InputFault) (answer : Result T Failure)
    → IsErrAnd answer (λ failure. failure ≡ input_failure fault) → IfErr answer IsReadFailure
input_unread fault (Ok value) is = tt
input_unread fault (Err failure) is = subst IsReadFailure (sym is) (input_fails_to_read fault)

-- the failure of an input names it
named_input : (input : Input) (origin : Origin) (fault : InputFault) → input.origin ≡ origin → IsUnreadFrom origin fault → IsUnread input (input_failure fault)
named_input input origin OutOfMemory is named = tt
named_input input (StandardInput given) (Unreadable path entry reason) is named = absurd named
named_input input (File own) (Unreadable path entry reason) is named =
    subst (λ o. IsNamedAs o (string_bytes path) entry) (sym is) (ap (λ p. string_bytes p) named.0, named.1)
named_input input (Entry dir name) (Unreadable path entry reason) is named =
    subst (λ o. IsNamedAs o (string_bytes path) entry) (sym is) (ap (λ p. string_bytes p) named.0, named.1)

-- an input that can't be read stops a command, and is named
pub stopped_unread : {T : Type 0} (input : Input) (fault : InputFault) (answer : Result T Failure)
    → IsUnreadFrom input.origin fault → IsErrAnd answer (λ failure. failure ≡ input_failure fault) → IfErr answer (IsUnread input)
stopped_unread input fault (Ok value) named is = tt
stopped_unread input fault (Err failure) named is = subst (IsUnread input) (sym is) (named_input input input.origin fault refl named)

-- what can't be read has no full report
pub unread_unreported : (failure : Failure) → IsReadFailure failure → IsReportFailure failure
unread_unreported (failures.Unreadable dir entry reason) why = tt
unread_unreported failures.OutOfMemory why = tt
unread_unreported failures.Output why = tt
unread_unreported (failures.BadLine text) why = why
unread_unreported failures.BadArguments why = why
unread_unreported failures.FewSlots why = why
unread_unreported failures.BadInput why = why
unread_unreported (failures.NotJson file detail) why = why
unread_unreported (failures.NotViewed file fault) why = why
unread_unreported (failures.NotText file) why = why
unread_unreported (failures.BadPolicies file reason) why = why
