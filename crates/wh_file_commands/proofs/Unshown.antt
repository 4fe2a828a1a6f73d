-- Why nothing is shown of a file.
use Rattle.std.proofs.Common.{◌≡◌, ℕ, List, ap, refl, sym, subst}
use Rattle.std.specs.Prelude.{◌≢◌, Option, Some, None, Result, Ok, Err, IfErr, IsOk, string_bytes}
use Rattle.wh_diagnostics.specs.declared.failures.Failure.{Failure}
use Rattle.wh_diagnostics.specs.declared.failures.Failure.TheVariants.{BadLine, BadArguments, FewSlots, BadInput, Unreadable, NotJson, NotViewed, NotText, BadPolicies, Output, OutOfMemory}
use Rattle.wh_file_commands.specs.Private.Refusals.{IsUnpaged, IsUnviewed, IsUnviewedJson}
use Rattle.wh_file_commands.specs.Refusals.{IsUnshown}
use Rattle.wh_file_faults.proofs.Unread.{valued}
use Rattle.wh_file_faults.specs.Faults.{File}
use Rattle.wh_file_page.specs.declared.fault.PageFault.{PageFault}
use Rattle.wh_file_page.specs.declared.fault.PageFault.TheVariants as pages
use Rattle.wh_json.specs.Events.{document_within, events_in}
use Rattle.wh_json.specs.Outcome.{◌>>=◌, or_fault}
use Rattle.wh_json.specs.declared.fault.ReadFault.{ReadFault}
use Rattle.wh_json.specs.declared.fault.ReadFault.TheVariants as reads
use Rattle.wh_view.specs.Views.{members_of}

no_events : {A : Type 0} (members : Option A) → or_fault reads.NoEvents members ≡ Err reads.BadJson → ⊥
no_events None is = absurd cc
no_events (Some members) is = absurd cc

-- that there are no members does not make a value bad JSON
bad_within : {A B : Type 0} (members : A → Option B) (read : Result A ReadFault)
    → (read >>= (λ value. or_fault reads.NoEvents (members value))) ≡ Err reads.BadJson → read ≡ Err reads.BadJson
bad_within members (Err fault) is = let same : fault ≡ reads.BadJson = cc in ap Err same
bad_within members (Ok value) is = absurd (no_events (members value) is)

-- a file that is taken for no JSON is none
unviewed_json : (file : File) (failure : Failure) → members_of file.1.items ≡ Err reads.BadJson
    → IsUnviewedJson (string_bytes file.0) file.1.items failure → IsUnshown file failure
unviewed_json file (NotJson name detail) is h = (h.0, h.1, is)
unviewed_json file (NotViewed name fault) is h =
    absurd (valued file.1.items h.2 (bad_within events_in (document_within file.1.items) is))
unviewed_json file OutOfMemory is h = tt
unviewed_json file (BadLine text) is h = absurd h
unviewed_json file BadArguments is h = absurd h
unviewed_json file FewSlots is h = absurd h
unviewed_json file BadInput is h = absurd h
unviewed_json file (Unreadable dir entry reason) is h = absurd h
unviewed_json file (NotText name) is h = absurd h
unviewed_json file (BadPolicies name reason) is h = absurd h
unviewed_json file Output is h = absurd h

-- another fault is told as it is
other_unviewed : (file : File) (fault : ReadFault) (failure : Failure) → fault ≢ reads.BadJson
    → members_of file.1.items ≡ Err fault → failure ≡ NotViewed (string_bytes file.0) fault → IsUnshown file failure
other_unviewed file fault failure other is same = subst (IsUnshown file) (sym same) (refl, other, is)

unviewed_by : (file : File) (fault : ReadFault) (failure : Failure)
    → (fault ≢ reads.OutOfMemory → members_of file.1.items ≡ Err fault)
    → IsUnviewed (string_bytes file.0) file.1.items fault failure → IsUnshown file failure
unviewed_by file reads.BadJson failure is h = unviewed_json file failure (is (λ e. absurd cc)) h
unviewed_by file reads.OutOfMemory failure is h = subst (IsUnshown file) (sym h) tt
unviewed_by file reads.TooLong failure is h = other_unviewed file reads.TooLong failure (λ e. absurd cc) (is (λ e. absurd cc)) h
unviewed_by file reads.NoEvents failure is h = other_unviewed file reads.NoEvents failure (λ e. absurd cc) (is (λ e. absurd cc)) h
unviewed_by file (reads.BadNumber at) failure is h = other_unviewed file (reads.BadNumber at) failure (λ e. absurd cc) (is (λ e. absurd cc)) h
unviewed_by file (reads.OutOfOrder at) failure is h = other_unviewed file (reads.OutOfOrder at) failure (λ e. absurd cc) (is (λ e. absurd cc)) h
unviewed_by file (reads.UnsupportedEvent at kind) failure is h = other_unviewed file (reads.UnsupportedEvent at kind) failure (λ e. absurd cc) (is (λ e. absurd cc)) h
unviewed_by file (reads.MissingField at) failure is h = other_unviewed file (reads.MissingField at) failure (λ e. absurd cc) (is (λ e. absurd cc)) h
unviewed_by file (reads.BadTime at) failure is h = other_unviewed file (reads.BadTime at) failure (λ e. absurd cc) (is (λ e. absurd cc)) h
unviewed_by file (reads.BadPayload at) failure is h = other_unviewed file (reads.BadPayload at) failure (λ e. absurd cc) (is (λ e. absurd cc)) h
unviewed_by file (reads.ShorthandPayload at) failure is h = other_unviewed file (reads.ShorthandPayload at) failure (λ e. absurd cc) (is (λ e. absurd cc)) h
unviewed_by file (reads.UnsupportedMarker at kind) failure is h = other_unviewed file (reads.UnsupportedMarker at kind) failure (λ e. absurd cc) (is (λ e. absurd cc)) h

-- what can't be viewed is not shown
pub unviewed_shown : (file : File) (seen : List ℕ) (fault : ReadFault) (failure : Failure) → seen ≡ file.1.items
    → (fault ≢ reads.OutOfMemory → members_of seen ≡ Err fault)
    → IsUnviewed (string_bytes file.0) seen fault failure → IsUnshown file failure
unviewed_shown file seen fault failure same_seen is h =
    unviewed_by file fault failure (λ other. subst (λ l. members_of l ≡ Err fault) same_seen (is other))
    (subst (λ l. IsUnviewed (string_bytes file.0) l fault failure) same_seen h)

-- the events of a file can't be written
pub unwritten_shown : (file : File) (seen : List ℕ) (answer : Result ℕ Failure) → seen ≡ file.1.items
    → IsOk (members_of seen) → IfErr answer (λ failure. failure ≡ Output)
    → IfErr answer (IsUnshown file)
unwritten_shown file seen (Ok status) same_seen members is = tt
unwritten_shown file seen (Err failure) same_seen members is =
    subst (IsUnshown file) (sym is) (subst (λ l. IsOk (members_of l)) same_seen members)

-- what has no page is not shown
pub unpaged_shown : (file : File) (seen : List ℕ) (fault : PageFault) (failure : Failure) → seen ≡ file.1.items
    → ((own : ReadFault) → fault ≡ pages.Unviewed own → members_of seen ≡ Err own)
    → (fault ≡ pages.Output → IsOk (members_of seen))
    → IsUnpaged (string_bytes file.0) seen fault failure → IsUnshown file failure
unpaged_shown file seen (pages.Unviewed own) failure same_seen is viewed h = unviewed_shown file seen own failure same_seen (λ other. is own refl) h
unpaged_shown file seen pages.Output failure same_seen is viewed h =
    subst (IsUnshown file) (sym h) (subst (λ l. IsOk (members_of l)) same_seen (viewed refl))
unpaged_shown file seen pages.OutOfMemory failure same_seen is viewed h = subst (IsUnshown file) (sym h) tt
