-- The fault that a worker keeps, and the kind of task that it serves next.
use Rattle.std.specs.Prelude.{Bool, true, false, Option, Some, None, Result, Ok, Err, if◌then◌else◌}
use Rattle.wh_slots.specs.declared.SlotKind.{SlotKind}
use Rattle.wh_slots.specs.declared.SlotKind.TheVariants.{Workflow as WorkflowKind, Activity as ActivityKind}
use Rattle.wh_tasks.specs.declared.source.SourceFault.{SourceFault}
use Rattle.wh_poll.specs.declared.serve.Served.{Served}
use Rattle.wh_poll.specs.declared.serve.Served.TheVariants.{Closed, Draining}
use Rattle.wh_poll.specs.declared.workers.Rota.{Rota}

-- the fault that a worker keeps after a turn: the first
abbrev pub first_fault : Option SourceFault → Result Served SourceFault → Option SourceFault
first_fault (Some first) served = Some first
first_fault None (Ok served) = None
first_fault None (Err fault) = Some fault

-- the other kind
abbrev pub other : SlotKind → SlotKind
other WorkflowKind = ActivityKind
other ActivityKind = WorkflowKind

-- the first turn is for a workflow task, and no kind is closed
abbrev pub first_rota : Rota
first_rota = record { kind = WorkflowKind; other_closed = false }

-- the turn found that the source has no task of the kind, now or later
abbrev pub is_closed : Result Served SourceFault → Bool
is_closed (Ok Closed) = true
is_closed served = false

-- no turn follows: the host drains, or the kind is closed as the other one is
abbrev pub is_last : Bool → Result Served SourceFault → Bool
is_last other_closed (Ok Draining) = true
is_last other_closed (Ok Closed) = other_closed
is_last other_closed served = false

-- the next turn goes to the other kind, unless that one is closed
abbrev pub next_rota : Rota → Result Served SourceFault → Rota
next_rota rota served =
    if rota.other_closed then rota else record { kind = other rota.kind; other_closed = is_closed served }
