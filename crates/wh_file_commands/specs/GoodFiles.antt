-- What replay finds of a file that has no fault, and the record of such a file.
use Rattle.std.specs.Prelude.{ℕ, List, [], Option, None, Result, Ok, Err}
use Rattle.std.specs.Result.{result_ok}
use Rattle.wh_events.specs.declared.event.Event.{Event}
use Rattle.wh_json.specs.Events.{history}
use Rattle.wh_json.specs.declared.fault.ReadFault.{ReadFault}
use Rattle.wh_replay.specs.Outcomes.{replayed_tasks}
use Rattle.wh_replay.specs.declared.fault.ReplayedTasks.{ReplayedTasks}
use Rattle.wh_report.specs.declared.records.Record.{Record}
use Rattle.wh_tester.specs.declared.line.Verdict.TheVariants.{Good}
use Rattle.wh_workflow.specs.Law.{Program}

module _ {S : Type 0} where
  -- what replay finds of what was read, if that is a history whose replay has no fault
  abbrev pub tasks_read : Program S → Result (List Event) ReadFault → Option ReplayedTasks
  tasks_read program (Ok events) = result_ok (replayed_tasks program events)
  tasks_read program (Err fault) = None

  -- what replay finds of the history of these bytes, if they have one and its replay has no fault
  abbrev pub tasks_in_file : Program S → List ℕ → Option ReplayedTasks
  tasks_in_file program bytes = tasks_read program (history bytes)

-- the record of a file of this name, of which replay finds this
abbrev pub good_record : List ℕ → ReplayedTasks → Record
good_record name found =
    record {
      line = record { name = name; verdict = Good found };
      detail = None;
      difference = None;
      warnings = [];
    }
