-- What a query of a history file gives.
use Rattle.std.specs.Prelude.{◌≡◌, ℕ, ◌&&◌, Bool, true, false, List, Result, Ok, Err, IfSome, if◌then◌else◌, string_bytes}
use Rattle.wh_console.specs.declared.replay_options.TheConstants.{NO_OPTIONS}
use Rattle.wh_events.specs.declared.event.Event.{Event}
use Rattle.wh_json.specs.Events.{history}
use Rattle.wh_json.specs.declared.fault.ReadFault.{ReadFault}
use Rattle.wh_workflow.specs.Law.{Program}
use Rattle.wh_replay.specs.declared.fault.Fault.{Fault}
use Rattle.wh_workflow.specs.declared.queryable.Query.{Query}
use Rattle.wh_workflow.specs.declared.queryable.QueryResult.{QueryResult}
use Rattle.wh_workflow.specs.declared.queryable.QueryResult.TheVariants.{Answered, Failed}
use Rattle.wh_workflow.specs.Queries.{Queries}
use Rattle.wh_query.specs.Queries.{query_at}
use Rattle.wh_file_faults.specs.Faults.{File}
use Rattle.wh_report.specs.Records.{IsRecordOf}
use Rattle.wh_tester.specs.Faults.{replay_fault_text}
use Rattle.wh_tester.specs.Report.{fault_text, is_good}
use Rattle.wh_file_commands.specs.GoodFiles.{tasks_in_file, good_record}
use Rattle.wh_file_commands.specs.declared.queried.Queried.{Queried}

-- whether the query gave payloads
abbrev pub is_answered : QueryResult → Bool
is_answered (Answered payloads) = true
is_answered (Failed reason) = false

-- 0 if the file is good and the query was answered, and else 1
abbrev pub status_of : Queried → ℕ
status_of queried = if is_good queried.own.line.verdict && is_answered queried.given then 0 else 1

-- what a query gave; if the history can't be replayed it fails with the text of the fault
abbrev pub replayed_result : Result QueryResult Fault → QueryResult
replayed_result (Ok given) = given
replayed_result (Err fault) = Failed (replay_fault_text fault)

module _ {S : Type 0} where
  -- what a query gives at what was read; if nothing could be read it fails with the text of that fault
  abbrev pub read_result : Program S → Queries S → Result (List Event) ReadFault → Query → QueryResult
  read_result program queries (Ok events) query =
      replayed_result (query_at program queries events query.query_type query.input)
  read_result program queries (Err fault) query = Failed (fault_text fault)

  -- what a query gives at the history of these bytes
  abbrev pub file_result : Program S → Queries S → List ℕ → Query → QueryResult
  file_result program queries bytes query = read_result program queries (history bytes) query

  -- the record of the file, which is exact if it is good, and what the query gives at its history
  pub record IsQueried (program : Program S) (queries : Queries S) (file : File) (query : Query)
      (queried : Queried) : Type 0 where
    pub own : IsRecordOf NO_OPTIONS program file queried.own
    pub good : IfSome (tasks_in_file program file.1.items) (λ found. queried.own ≡ good_record (string_bytes file.0) found)
    pub given : queried.given ≡ file_result program queries file.1.items query
