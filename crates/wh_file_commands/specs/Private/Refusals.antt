-- Why a step of a command of a file shows nothing of it.
use Rattle.std.specs.Prelude.{◌≡◌, ℕ, List, IsSome}
use Rattle.wh_diagnostics.specs.declared.failures.Failure.{Failure}
use Rattle.wh_diagnostics.specs.declared.failures.Failure.TheVariants.{NotJson, NotViewed, Output}
use Rattle.wh_diagnostics.specs.declared.failures.Failure.TheVariants.{OutOfMemory}
use Rattle.wh_file_faults.specs.Details.{IsNoJson}
use Rattle.wh_file_page.specs.declared.fault.PageFault.{PageFault}
use Rattle.wh_file_page.specs.declared.fault.PageFault.TheVariants as pages
use Rattle.wh_json.specs.Fields.{document}
use Rattle.wh_json.specs.declared.fault.ReadFault.{ReadFault}
use Rattle.wh_json.specs.declared.fault.ReadFault.TheVariants as reads

-- why the events of a file whose fault is `BadJson` can't be shown: it is no JSON, and where that shows; or it is JSON,
-- and the fault is kept; or there was no memory to tell
abbrev pub IsUnviewedJson : (name bytes : List ℕ) → Failure → Type 0
IsUnviewedJson name bytes (NotJson file detail) = (file ≡ name) × IsNoJson bytes detail
IsUnviewedJson name bytes (NotViewed file fault) = (file ≡ name) × (fault ≡ reads.BadJson) × IsSome (document bytes)
IsUnviewedJson name bytes OutOfMemory = Unit {0}
IsUnviewedJson name bytes _ = ⊥

-- why the events of a file can't be shown, by the fault of its bytes
abbrev pub IsUnviewed : (name bytes : List ℕ) → ReadFault → Failure → Type 0
IsUnviewed name bytes reads.BadJson failure = IsUnviewedJson name bytes failure
IsUnviewed name bytes reads.OutOfMemory failure = failure ≡ OutOfMemory
IsUnviewed name bytes fault failure = failure ≡ NotViewed name fault

-- why there is no page of a file, by the fault of what writes it
abbrev pub IsUnpaged : (name bytes : List ℕ) → PageFault → Failure → Type 0
IsUnpaged name bytes (pages.Unviewed fault) failure = IsUnviewed name bytes fault failure
IsUnpaged name bytes pages.Output failure = failure ≡ Output
IsUnpaged name bytes pages.OutOfMemory failure = failure ≡ OutOfMemory
