-- The activity task that a worker runs, its info, what is known of it, and its heartbeats.
use Rattle.std.specs.Prelude.{ℕ, List, Bool, true, false, ◌&&◌, not, Option, Some, None, bytes_eq, is_some, if◌then◌else◌}
use Rattle.wh_events.specs.declared.event.Payload.{Payload}
use Rattle.wh_tasks.specs.Pace.{interval_of, is_due}
use Rattle.wh_tasks.specs.declared.activity_info.ActivityInfo.{ActivityInfo}
use Rattle.wh_tasks.specs.declared.cell.RunningActivity.{RunningActivity}
use Rattle.wh_tasks.specs.declared.cell.HeartbeatStep.{HeartbeatStep}
use Rattle.wh_tasks.specs.declared.cell.HeartbeatStep.TheVariants.{Send, Hold}
use Rattle.wh_tasks.specs.declared.heartbeat.HeartbeatResponse.{HeartbeatResponse}
use Rattle.wh_tasks.specs.declared.heartbeat.HeartbeatResponse.TheVariants.{GoOn, CancelRequested, Gone, Unheard}

-- the task of the token, with this info, of which nothing was heard or sent so far
abbrev pub begun : List ℕ → ActivityInfo → RunningActivity
begun token info = record {
  token = token;
  info = info;
  is_canceled = false;
  is_told = false;
  is_over = false;
  sent = None;
  is_sending = false;
  held = None;
}

-- there is a task, it is the one of the token, and its handler was told that it is to be canceled
abbrev pub was_canceled : Option RunningActivity → List ℕ → Bool
was_canceled None token = false
was_canceled (Some running) token = running.is_told && bytes_eq running.token token

-- ---- One heartbeat

-- the response to a heartbeat that is held, by what former responses said
abbrev pub known : RunningActivity → HeartbeatResponse
known running = if running.is_over then Gone else (if running.is_canceled then CancelRequested else GoOn)

-- a heartbeat may be sent now: those of the task have not ended, none is on its way, and the interval since the last
-- one is over
abbrev pub may_send : RunningActivity → Option ℕ → Bool
may_send running now =
    not running.is_over && (not running.is_sending
    && is_due running.sent now (interval_of running.info.times.heartbeat_timeout))

-- the task from when a heartbeat is sent, until its response is heard; nothing is held
abbrev pub sending : RunningActivity → Option ℕ → RunningActivity
sending running now = record running { sent = now; is_sending = true; held = None }

-- the task with these details held in place of those before, unless its heartbeats have ended
abbrev pub holding : RunningActivity → List Payload → RunningActivity
holding running details = if running.is_over then running else record running { held = Some details }

-- what becomes of a heartbeat with these details, and of the task
abbrev pub step_of : RunningActivity → List Payload → Option ℕ → HeartbeatStep
step_of running details now = if may_send running now then Send details else Hold (known running)

abbrev pub after_step : RunningActivity → List Payload → Option ℕ → RunningActivity
after_step running details now = if may_send running now then sending running now else holding running details

-- something is held, and may be sent now; what it is, and the task once it is taken to be sent
abbrev pub has_due : RunningActivity → Option ℕ → Bool
has_due running now = is_some running.held && may_send running now

abbrev pub due_of : RunningActivity → Option ℕ → Option (List Payload)
due_of running now = if has_due running now then running.held else None

abbrev pub after_due : RunningActivity → Option ℕ → RunningActivity
after_due running now = if has_due running now then sending running now else running

-- the details to be held, of those that are held and those of which nothing was heard: the later ones
abbrev pub later : Option (List Payload) → List Payload → Option (List Payload)
later None unheard = Some unheard
later (Some held) unheard = Some held

-- the task after the response to a heartbeat with these details
abbrev pub after_response : RunningActivity → List Payload → HeartbeatResponse → RunningActivity
after_response running details GoOn = record running { is_sending = false }
after_response running details CancelRequested = record running { is_sending = false; is_canceled = true }
after_response running details Gone = record running { is_sending = false; is_over = true; held = None }
after_response running details Unheard = record running { is_sending = false; held = later running.held details }

-- the task once its heartbeats have ended, and what was held is taken out
abbrev pub ended : RunningActivity → RunningActivity
ended running = record running { is_over = true; held = None }

-- the task once its handler was told that it is to be canceled
abbrev pub told : RunningActivity → RunningActivity
told running = record running { is_told = true }

-- ---- The same of the task in a cell, if there is one and it is the one of the token

abbrev pub in_task : (RunningActivity → RunningActivity) → Option RunningActivity → List ℕ → Option RunningActivity
in_task change None token = None
in_task change (Some running) token = Some (if bytes_eq running.token token then change running else running)

abbrev pub held_in : Option RunningActivity → List ℕ → Option (List Payload)
held_in None token = None
held_in (Some running) token = if bytes_eq running.token token then running.held else None

abbrev pub step_in : Option RunningActivity → List ℕ → List Payload → Option ℕ → HeartbeatStep
step_in None token details now = Hold Unheard
step_in (Some running) token details now =
    if bytes_eq running.token token then step_of running details now else Hold Unheard

abbrev pub due_in : Option RunningActivity → List ℕ → Option ℕ → Option (List Payload)
due_in None token now = None
due_in (Some running) token now = if bytes_eq running.token token then due_of running now else None

-- something of the task in the cell, whichever it is, is held and may be sent now
abbrev pub has_due_in : Option RunningActivity → Option ℕ → Bool
has_due_in None now = false
has_due_in (Some running) now = has_due running now

-- a heartbeat of the task in the cell is on its way
abbrev pub is_sending : Option RunningActivity → Bool
is_sending None = false
is_sending (Some running) = running.is_sending
