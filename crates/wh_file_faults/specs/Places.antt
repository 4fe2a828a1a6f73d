-- What an event that is out of place contradicts.
use Rattle.std.specs.Prelude.{ℕ, ◌-◌, List, Option, Some, None, Result, Ok, Err, find, option_and_then, option_map, slice_get}
use Rattle.wh_events.specs.Kinds.{Role, closes_run_of, role_of}
use Rattle.wh_events.specs.Kinds.Role.{Opens, Refers, CancelsChild, Plain}
use Rattle.wh_events.specs.declared.event.Event.{Event}
use Rattle.wh_events.specs.declared.place.PlaceFault.{PlaceFault}
use Rattle.wh_events.specs.declared.place.PlaceFault.TheVariants.{AfterClose, NoSuchRef, WrongKindRef, AlreadyClosed}
use Rattle.wh_json.specs.declared.fault.ReadFault.{ReadFault}
use Rattle.wh_file_faults.specs.declared.detail.FaultDetail.{FaultDetail}
use Rattle.wh_file_faults.specs.declared.detail.FaultDetail.TheVariants as details

-- the number of the first event that closes the run, if there is one
abbrev pub closing_in : List Event → Option ℕ
closing_in events = option_map (λ event. event.number) (find (λ event. closes_run_of event.body) events)

-- the event at a place follows the event that closes the run
abbrev pub follows : List Event → ℕ → Option FaultDetail
follows events at = option_map (λ close. details.Follows at close) (closing_in events)

-- what an event of the role at a place refers to, if it refers to something
abbrev pub of_role : ℕ → Role → Option FaultDetail
of_role at (Refers thing number effect) = Some (details.Refers at number)
of_role at (CancelsChild workflow_id) = Some (details.Names at workflow_id)
of_role at (Opens thing id) = None
of_role at Plain = None

-- what the event at a place, counted from 1, refers to, if there is one and it refers to something
abbrev pub referred : List Event → ℕ → Option FaultDetail
referred events at = option_and_then (λ event. of_role at (role_of event.body)) (slice_get events (at - 1))

-- what the event at a place contradicts, by its fault: one that closes the run, or what it refers to
abbrev pub misplaced_in : List Event → ℕ → PlaceFault → Option FaultDetail
misplaced_in events at AfterClose = follows events at
misplaced_in events at NoSuchRef = referred events at
misplaced_in events at WrongKindRef = referred events at
misplaced_in events at AlreadyClosed = referred events at
misplaced_in events at _ = None

-- what the event at a place contradicts, if the bytes are a history
abbrev pub misplaced : Result (List Event) ReadFault → ℕ → PlaceFault → Option FaultDetail
misplaced (Ok events) at fault = misplaced_in events at fault
misplaced (Err unread) at fault = None
