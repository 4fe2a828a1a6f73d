-- What the result of reading a file says of the path of its run.
use Rattle.std.proofs.Common.{◌≡◌, ◌∙◌, ℕ, false, List, [], Option, Some, None, Result, Ok, Err, ap, refl, sym, subst}
use Rattle.std.specs.Prelude.{◌≢◌, IfOk, Vec}
use Rattle.std.specs.declared.alloc.Global.{Global}
use Rattle.wh_events.specs.declared.event.Event.{Event}
use Rattle.wh_events.specs.declared.memory.OutOfMemory.{OutOfMemory}
use Rattle.wh_events.specs.declared.place.PlaceFault.{PlaceFault}
use Rattle.wh_events.specs.Places.{history_fault}
use Rattle.wh_explain.specs.Explaining.{AreTasksIf, AreTasksIn, AreTasksOf, AreTasksPlaced}
use Rattle.wh_explain.specs.Reading.{IsReadOf}
use Rattle.wh_explained_tasks.specs.declared.ExplainedTask.{ExplainedTask}
use Rattle.wh_json.specs.Events.{history}
use Rattle.wh_json.specs.Outcome.{Gives}
use Rattle.wh_json.specs.declared.fault.ReadFault.{ReadFault}
use Rattle.wh_json.specs.declared.fault.ReadFault.TheVariants.{OutOfMemory as ReadMemory}
use Rattle.wh_replay.specs.Replays.{workflow_of}
use Rattle.wh_replay.specs.Tracking.{in_place}
use Rattle.wh_file_page.proofs.Bringing.{way_gone}
use Rattle.wh_file_page.specs.Ways.{IsWayOf, before_start, way_over}
use Rattle.wh_file_page.specs.declared.way.Way.{Way}
use Rattle.wh_table.specs.Program.{is_table, program}

none_of : (events : List Event) → is_table (workflow_of events) ≡ false → AreTasksOf program events []
none_of events other = by (history_fault events)
  where
    by : (fault : Option (ℕ × PlaceFault)) → AreTasksPlaced (in_place fault events) program []
    by (Some fault) = refl
    by None = subst (λ knows. AreTasksIf knows program events []) (sym other) refl

no_way : (bytes : List ℕ) (read : Result (List Event) ReadFault) → history bytes ≡ read → AreTasksIn program read []
    → IsWayOf bytes None
no_way bytes read is none = record {
  tasks = [];
  explained = subst (λ own. AreTasksIn program own []) (sym is) none;
  is = sym (way_gone before_start [] refl);
}

-- a run of a type that is not that of tables takes no path
pub another_type : (bytes : List ℕ) (events : List Event) → history bytes ≡ Ok events
    → is_table (workflow_of events) ≡ false → IsWayOf bytes None
another_type bytes events is other = no_way bytes (Ok events) is (none_of events other)

-- nor does that of a file that can't be read
pub unread : (bytes : List ℕ) (fault : ReadFault) → history bytes ≡ Err fault → IsWayOf bytes None
unread bytes fault is = no_way bytes (Err fault) is refl

-- events that were read are those of the file
pub events_read : (bytes : List ℕ) (read : Result (Vec Event Global) ReadFault) (events : Vec Event Global)
    (shown : List Event) → IsReadOf bytes read → read ≡ Ok events → shown ≡ events.items → history bytes ≡ Ok shown
events_read bytes read events shown own is same =
    subst (λ found. Gives (λ one. one.items) found (history bytes)) is own.exact ∙ ap Ok (sym same)

-- and a fault that was found is that of the file
pub fault_read : (bytes : List ℕ) (read : Result (Vec Event Global) ReadFault) (fault : ReadFault) → IsReadOf bytes read
    → read ≡ Err fault → fault ≢ ReadMemory → history bytes ≡ Err fault
fault_read bytes read fault own is known = subst (λ found. Gives (λ one. one.items) found (history bytes)) is own.exact known

-- a copy of events that were read is what was read
pub copy_read : (bytes : List ℕ) (events : List Event) (copy : Vec Event Global) → history bytes ≡ Ok events
    → copy.items ≡ events → IsReadOf bytes (Ok copy)
copy_read bytes events copy is same = record { exact = is ∙ ap Ok (sym same); memory = tt }

-- the path over the tasks of a file
pub taken : (bytes : List ℕ) (tasks shown : List ExplainedTask) (found : Result (Option Way) OutOfMemory)
    → AreTasksIn program (history bytes) tasks → shown ≡ tasks → IfOk found (λ way. way ≡ way_over shown)
    → IfOk found (IsWayOf bytes)
taken bytes tasks shown (Ok way) explained same is = record {
  tasks = tasks;
  explained = explained;
  is = is ∙ ap way_over same;
}
taken bytes tasks shown (Err full) explained same is = tt
