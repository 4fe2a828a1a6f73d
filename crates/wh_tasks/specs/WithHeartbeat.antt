-- The responses to heartbeats, the info of tasks, and the outcomes of runs.
use Rattle.std.specs.Prelude.{List, Bool, true, false, Result, Ok, Err}
use Rattle.wh_events.specs.declared.event.Payload.{Payload}
use Rattle.wh_events.specs.declared.memory.OutOfMemory.{OutOfMemory}
use Rattle.wh_tasks.specs.declared.activity_info.ActivityInfo.{ActivityInfo}
use Rattle.wh_tasks.specs.declared.heartbeat.HeartbeatResponse.{HeartbeatResponse}
use Rattle.wh_tasks.specs.declared.source.ActivityAnswer.{ActivityAnswer}
use Rattle.wh_tasks.specs.declared.source.ActivityAnswer.TheVariants.{Completed, Failed}

-- which responses a heartbeat with these details may get
abbrev pub Brings : Type 1
Brings = List Payload → HeartbeatResponse → Type 0

-- which info a handler may get of a task
abbrev pub Tells : Type 1
Tells = ActivityInfo → Type 0

-- the outcome of a run completes its activity: no later attempt follows
abbrev pub completes : Result ActivityAnswer OutOfMemory → Bool
completes (Ok (Completed outcome)) = true
completes (Ok (Failed failure)) = false
completes (Err refused) = false
