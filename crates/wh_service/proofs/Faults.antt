-- What is told of a file that is not JSON, or whose workflow type is not registered.
use Rattle.std.proofs.Common.{◌≡◌, ◌∙◌, ℕ, Bool, true, false, List, None, Some, ap, refl, subst, sym}
use Rattle.std.specs.Prelude.{◌≢◌, Option, Result, Ok, Err, IfOk, IsSome, if◌then◌else◌, not}
use Rattle.wh_events.specs.Places.{history_fault}
use Rattle.wh_events.specs.declared.event.Event.{Event}
use Rattle.wh_events.specs.declared.memory.OutOfMemory.{OutOfMemory}
use Rattle.wh_events.specs.declared.place.PlaceFault.{PlaceFault}
use Rattle.wh_tester.specs.UnknownTypes.{unknown_in, unknown_placed}
use Rattle.wh_json.specs.Events.{document_within, history}
use Rattle.wh_json.specs.declared.fault.ReadFault.{ReadFault}
use Rattle.wh_json.specs.declared.fault.ReadFault.TheVariants.{BadJson}
use Rattle.wh_replay.specs.Replays.{workflow_of}
use Rattle.wh_replay.specs.Tracking.{in_place}
use Rattle.wh_replay.specs.declared.fault.Fault.{Fault}
use Rattle.wh_workflow.specs.Law.{Program}
use Rattle.wh_file_faults.specs.declared.detail.FaultDetail.{FaultDetail}
use Rattle.wh_file_faults.specs.declared.detail.FaultDetail.TheVariants.{NotJson}
use Rattle.wh_service.specs.declared.file_faults.FileFault.{FileFault}
use Rattle.wh_tester.specs.declared.line.Verdict.TheVariants.{NoCode, Unreadable}
use Rattle.wh_file_faults.specs.Details.{IsJsonDetail, IsNoJson}
use Rattle.wh_service.specs.Faults.{HasHistory, IsCodeFault, IsFaultOf, IsJsonFault, IsReadFault, IsReadFaultIn}
use Rattle.wh_file_faults.proofs.Unread.{no_json_read, read_no_json, valued}

-- a history that was read is JSON, and told of only if its workflow type is not registered
code_told : {S : Type 0} (program : Program S) (bytes : List ℕ) (events : List Event) (fault : Option FileFault) → history bytes ≡ Ok events → IsCodeFault program bytes fault → IsReadFaultIn program bytes fault
code_told program bytes events None read h = ((λ broken. (let unread = no_json_read bytes broken in cc)), h)
code_told program bytes events (Some fault) read h =
    subst (λ v. IsReadFault program bytes v fault.detail) (sym h.2) (subst (IsReadFault program bytes (NoCode h.0)) (sym h.3) h.1)

-- bytes that were read as no JSON are told of as that
json_by : {S : Type 0} (program : Program S) (bytes : List ℕ) (detail : Option FaultDetail) → history bytes ≡ Err BadJson → IsSome detail → IsJsonDetail bytes detail → IsReadFault program bytes (Unreadable BadJson) detail
json_by program bytes None read some h = absurd (cc)
json_by program bytes (Some (NotJson position mark)) read some h = (read_no_json bytes read h.no_json, h.marked)
json_by program bytes (Some _) read some h = absurd h

json_told : {S : Type 0} (program : Program S) (bytes : List ℕ) (fault : Option FileFault) → history bytes ≡ Err BadJson → IsJsonFault bytes fault → IsReadFaultIn program bytes fault
json_told program bytes None read h = (valued bytes h, ap (unknown_in program) read)
json_told program bytes (Some fault) read h =
    subst (λ v. IsReadFault program bytes v fault.detail) (sym h.0) (json_by program bytes fault.detail read h.1 h.2)

-- bytes that can't be read for another reason are not told of
none_told : {S : Type 0} (program : Program S) (bytes : List ℕ) (fault : ReadFault) → history bytes ≡ Err fault → fault ≢ BadJson → IsReadFaultIn program bytes None
none_told program bytes fault read other = (λ broken. (let unread = no_json_read bytes broken in other (let same : fault ≡ BadJson = cc in same)), ap (unknown_in program) read)

-- the faults that are made of that
pub made_json : (name bytes : List ℕ) (detail : FaultDetail) (answer : Result (Option FileFault) OutOfMemory) → IfOk answer (λ fault. fault ≡ Some (record { line = record { name = name; verdict = Unreadable BadJson }; detail = Some detail }))
    → IsNoJson bytes detail → IfOk answer (IsFaultOf IsJsonFault name bytes)
made_json name bytes detail (Ok fault) is own = subst (IsFaultOf IsJsonFault name bytes) (sym is) (record { named = refl; told = (refl, refl, own) })
made_json name bytes detail (Err full) is own = tt

pub made_code : {S : Type 0} (program : Program S) (name bytes kind : List ℕ) (answer : Result (Option FileFault) OutOfMemory) → IfOk answer (λ fault. fault ≡ Some (record { line = record { name = name; verdict = NoCode kind }; detail = None }))
    → unknown_in program (history bytes) ≡ Some kind → IfOk answer (IsFaultOf (IsCodeFault program) name bytes)
made_code program name bytes kind (Ok fault) is own = subst (IsFaultOf (IsCodeFault program) name bytes) (sym is) (record { named = refl; told = (kind, own, refl, refl) })
made_code program name bytes kind (Err full) is own = tt

-- so it is with the faults
pub of_code : {S : Type 0} (program : Program S) (name bytes : List ℕ) (events : List Event) (fault : Option FileFault) → history bytes ≡ Ok events → IsFaultOf (IsCodeFault program) name bytes fault → IsFaultOf (IsReadFaultIn program) name bytes fault
of_code program name bytes events fault read h = record { named = h.named; told = code_told program bytes events fault read h.told }

pub of_json : {S : Type 0} (program : Program S) (name bytes : List ℕ) (answer : Result (Option FileFault) OutOfMemory) → history bytes ≡ Err BadJson → IfOk answer (IsFaultOf IsJsonFault name bytes) → IfOk answer (IsFaultOf (IsReadFaultIn program) name bytes)
of_json program name bytes (Ok fault) read h = record { named = h.named; told = json_told program bytes fault read h.told }
of_json program name bytes (Err full) read h = tt

pub of_none : {S : Type 0} (program : Program S) (name bytes : List ℕ) (why : ReadFault) → history bytes ≡ Err why → why ≢ BadJson → IsFaultOf (IsReadFaultIn program) name bytes None
of_none program name bytes why read other = record { named = tt; told = none_told program bytes why read other }

-- the workflow type without code of a history in place is that of the bytes that it is read of
pub uncoded : {S : Type 0} (program : Program S) (bytes : List ℕ) (events : List Event) → HasHistory bytes events → unknown_in program (history bytes) ≡ unknown_placed program (Ok events)
uncoded program bytes events has =
    ap (unknown_in program) has.0 ∙ ap (λ fault. unknown_placed program (in_place fault events)) has.1

-- a history without such a type is not told of
of_known : {S : Type 0} (program : Program S) (name bytes : List ℕ) (events : List Event) → history bytes ≡ Ok events → unknown_in program (Ok events) ≡ None → IsFaultOf (IsReadFaultIn program) name bytes None
of_known program name bytes events read known = record { named = tt; told = code_told program bytes events None read (ap (unknown_in program) read ∙ known) }

-- as one that is not in place
pub of_misplaced : {S : Type 0} (program : Program S) (name bytes : List ℕ) (events : List Event) (fault : Fault) → history bytes ≡ Ok events → in_place (history_fault events) events ≡ Err fault → IsFaultOf (IsReadFaultIn program) name bytes None
of_misplaced program name bytes events fault read misplaced = of_known program name bytes events read (ap (unknown_placed program) misplaced)

-- or one for whose workflow type there is code
pub of_coded : {S : Type 0} (program : Program S) (name bytes : List ℕ) (events : List Event) → history bytes ≡ Ok events → not (program.knows (workflow_of events)) ≡ false → IsFaultOf (IsReadFaultIn program) name bytes None
of_coded program name bytes events read coded = of_known program name bytes events read (by_fault (history_fault events))
  where
    by_test : (b : Bool) → not b ≡ false → (if b then None else Some (workflow_of events)) ≡ None
    by_test true h = refl
    by_test false h = cc

    by_fault : (fault : Option (ℕ × PlaceFault)) → unknown_placed program (in_place fault events) ≡ None
    by_fault None = by_test (program.knows (workflow_of events)) coded
    by_fault (Some fault) = refl
