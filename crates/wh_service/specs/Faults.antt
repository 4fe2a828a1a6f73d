-- What is reported of files that are not JSON or whose workflow type is not registered.
use Rattle.std.specs.Prelude.{◌≡◌, ◌≢◌, ℕ, List, [], ◌∷◌, Option, Some, None, Ok, Err, IfSome, IsSome, string_bytes}
use Rattle.std.specs.List.{AllZip, flat_map}
use Rattle.wh_events.specs.Places.{history_fault}
use Rattle.wh_events.specs.declared.event.Event.{Event}
use Rattle.wh_tester.specs.UnknownTypes.{unknown_in}
use Rattle.wh_tester.specs.declared.line.Verdict.{Verdict}
use Rattle.wh_tester.specs.declared.line.Verdict.TheVariants.{NoCode, Unreadable}
use Rattle.wh_file_faults.specs.Details.{IsJsonDetail, mark_of}
use Rattle.wh_file_faults.specs.Faults.{File, IsNotJson}
use Rattle.wh_file_faults.specs.declared.detail.FaultDetail.{FaultDetail}
use Rattle.wh_file_faults.specs.declared.detail.FaultDetail.TheVariants.{NotJson}
use Rattle.wh_json.specs.Events.{document_within, history}
use Rattle.wh_json.specs.Fields.{document}
use Rattle.wh_json.specs.declared.fault.ReadFault.TheVariants.{BadJson}
use Rattle.wh_workflow.specs.Law.{Program}
use Rattle.wh_service.specs.declared.file_faults.FileFault.{FileFault}

-- a file with these bytes is told of as not JSON, and where, exactly when it is not
abbrev pub IsJsonFault : List ℕ → Option FileFault → Type 0
IsJsonFault bytes None = IsSome (document bytes)
IsJsonFault bytes (Some fault) =
    (fault.line.verdict ≡ Unreadable BadJson) × IsSome fault.detail × IsJsonDetail bytes fault.detail

-- a file with these bytes is told of as one whose workflow type is not registered exactly when it is not
abbrev pub IsCodeFault : {S : Type 0} → Program S → List ℕ → Option FileFault → Type 0
IsCodeFault program bytes None = unknown_in program (history bytes) ≡ None
IsCodeFault program bytes (Some fault) =
    (kind : List ℕ) × (unknown_in program (history bytes) ≡ Some kind) × (fault.line.verdict ≡ NoCode kind)
    × (fault.detail ≡ None)

-- what is told of a file with these bytes that is not replayed is one of the two, with a detail if it is not JSON
abbrev pub IsReadFault : {S : Type 0} → Program S → List ℕ → Verdict → Option FaultDetail → Type 0
IsReadFault program bytes (Unreadable BadJson) (Some (NotJson position mark)) =
    IsNotJson bytes × (mark ≡ mark_of bytes)
IsReadFault program bytes (NoCode kind) None = unknown_in program (history bytes) ≡ Some kind
IsReadFault program bytes _ _ = ⊥

-- what is told of a file with these bytes: nothing exactly when neither of the two is so
abbrev pub IsReadFaultIn : {S : Type 0} → Program S → List ℕ → Option FileFault → Type 0
IsReadFaultIn program bytes None =
    (document_within bytes ≢ Err BadJson) × (unknown_in program (history bytes) ≡ None)
IsReadFaultIn program bytes (Some fault) = IsReadFault program bytes fault.line.verdict fault.detail

-- the history that is read of bytes has these events, and they are in place
abbrev pub HasHistory : List ℕ → List Event → Type 0
HasHistory bytes events = (history bytes ≡ Ok events) × (history_fault events ≡ None)

-- the fault of a file by its name and bytes, if it has one: that has the name
pub record IsFaultOf (IsFault : List ℕ → Option FileFault → Type 0) (name bytes : List ℕ)
    (fault : Option FileFault) : Type 0 where
  pub named : IfSome fault (λ one. one.line.name ≡ name)
  pub told : IsFault bytes fault

-- what is reported of a file: its fault, if it has one
abbrev pub IsReportedOf : {S : Type 0} → Program S → File → Option FileFault → Type 0
IsReportedOf program file told = IsFaultOf (IsReadFaultIn program) (string_bytes file.0) file.1.items told

-- the fault that is reported of a file, if one is
abbrev pub reported_of : Option FileFault → List FileFault
reported_of None = []
reported_of (Some fault) = fault ∷ []

-- the faults that are reported of files are those of all files that have one, in the order of the files
pub record AreFaultsOf {S : Type 0} (program : Program S) (files : List File) (faults : List FileFault) : Type 0 where
  pub told : List (Option FileFault)
  pub each : AllZip (IsReportedOf program) files told
  pub all : faults ≡ flat_map reported_of told
