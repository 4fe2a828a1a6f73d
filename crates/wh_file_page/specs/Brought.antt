-- Which histories are those of a run that took a path through a table.
use Rattle.std.specs.Prelude.{◌≡◌, ◌≢◌, ℕ, true, List, [], ◌∷◌, None, Result, Ok}
use Rattle.wh_events.specs.declared.event.Event.{Event}
use Rattle.wh_events.specs.declared.event.Payload.{Payload}
use Rattle.wh_events.specs.declared.kind.EventKind.{EventKind}
use Rattle.wh_events.specs.declared.kind.EventKind.TheVariants.{WorkflowExecutionStarted}
use Rattle.wh_events.specs.Cuts.{cuts}
use Rattle.wh_events.specs.Places.{history_fault}
use Rattle.wh_json.specs.Events.{history}
use Rattle.wh_json.specs.declared.fault.ReadFault.{ReadFault}
use Rattle.wh_replay.specs.Replays.{workflow_of}
use Rattle.wh_row_rules.specs.declared.owned.OwnedTable.{OwnedTable}
use Rattle.wh_table.specs.Program.{is_table, table_in}

-- what an event starts a run with
abbrev pub input_in : EventKind → List Payload
input_in (WorkflowExecutionStarted workflow input) = input
input_in _ = []

-- the input of a run, which its first event has
abbrev pub input_of : List Event → List Payload
input_of [] = []
input_of (event ∷ events) = input_in event.body

-- events that were read are in place, start a run of the type `Table` or `Table:NAME`, have a workflow task that was
-- started, and the first payload of the run's input is a table
pub record BringsIn (read : Result (List Event) ReadFault) : Type 0 where
  pub events : List Event
  pub are : read ≡ Ok events
  pub placed : history_fault events ≡ None
  pub kind : is_table (workflow_of events) ≡ true
  pub started : cuts events ≢ []
  pub table : OwnedTable
  pub brought : table_in (input_of events) ≡ Ok table

-- the same of the bytes of a history file
abbrev pub BringsTable : (bytes : List ℕ) → Type 0
BringsTable bytes = BringsIn (history bytes)
