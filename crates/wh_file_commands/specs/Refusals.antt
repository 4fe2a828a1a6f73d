-- Why a file is not shown.
use Rattle.std.specs.Prelude.{◌≡◌, ◌≢◌, Err, IsOk, string_bytes}
use Rattle.wh_diagnostics.specs.declared.failures.Failure.{Failure}
use Rattle.wh_diagnostics.specs.declared.failures.Failure.TheVariants.{NotJson, NotViewed, Output}
use Rattle.wh_diagnostics.specs.declared.failures.Failure.TheVariants.{OutOfMemory}
use Rattle.wh_file_faults.specs.Details.{IsNoJson}
use Rattle.wh_file_faults.specs.Faults.{File}
use Rattle.wh_json.specs.declared.fault.ReadFault.TheVariants as reads
use Rattle.wh_view.specs.Views.{members_of}

-- why a file is not shown in full: it is no JSON, it has no list of events for another reason, it has one and what is
-- shown of it can't be written, or there was no memory
abbrev pub IsUnshown : File → Failure → Type 0
IsUnshown file (NotJson name detail) =
    (name ≡ string_bytes file.0) × IsNoJson file.1.items detail
    × (members_of file.1.items ≡ Err reads.BadJson)
IsUnshown file (NotViewed name fault) =
    (name ≡ string_bytes file.0) × (fault ≢ reads.BadJson) × (members_of file.1.items ≡ Err fault)
IsUnshown file Output = IsOk (members_of file.1.items)
IsUnshown file OutOfMemory = Unit {0}
IsUnshown file _ = ⊥
