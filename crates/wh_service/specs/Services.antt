-- What a service of recorded histories did, and its status.
use Rattle.std.specs.Prelude.{◌≡◌, ℕ, ◌+◌, ◌<◌, ◌&&◌, List, length, map, get_or, min, codes, All, Bool, false, Option, is_none, Result, Ok, Err, Vec, vec_len, if◌then◌else◌, eqb}
use Rattle.std.specs.List.{list_all, list_any}
use Rattle.std.specs.Io.KnownBytes.{Appends}
use Rattle.std.specs.declared.alloc.Global.{Global}
use Rattle.wh_json.specs.declared.fault.ReadFault.{ReadFault}
use Rattle.wh_slots.specs.declared.sizes.Config.{Config}
use Rattle.wh_host.specs.declared.reply.Totals.{Totals}
use Rattle.wh_slots.specs.Sizes.{IsConfig}
use Rattle.wh_tasks.specs.Failures.{not_found}
use Rattle.wh_tasks.specs.declared.handler.NoActivities.{NoActivities}
use Rattle.wh_tasks.specs.declared.source.ActivityAnswer.TheVariants.{Failed}
use Rattle.wh_poll.specs.declared.hosting.HostEnd.{HostEnd}
use Rattle.wh_poll.specs.declared.observer.NoObserver.{NoObserver}
use Rattle.wh_poll.specs.declared.setup.WorkerSetup.{WorkerSetup}
use Rattle.wh_poll.specs.Ends.{IsHostEnd}
use Rattle.wh_recorded.specs.Rounds.{Stage, Gives, Recounts, deliveries_of, opening_stage, has_last_record}
use Rattle.wh_recorded.specs.Calls.{ComesFrom}
use Rattle.wh_workflow.specs.Law.{Program}
use Rattle.wh_service.specs.declared.assignment.AssignedFile.{AssignedFile}
use Rattle.wh_service.specs.declared.failures.FileFailure.{FileFailure}
use Rattle.wh_service.specs.declared.file_faults.FileFault.{FileFault}
use Rattle.wh_service.specs.declared.outcomes.Service.{Service}
use Rattle.wh_service.specs.declared.rows.FileCounts.{FileCounts}
use Rattle.wh_service.specs.declared.rows.FileRow.{FileRow}
use Rattle.wh_service.specs.declared.service.PendingReport.{PendingReport}
use Rattle.wh_service.specs.declared.service.ServiceEnd.{ServiceEnd}
use Rattle.wh_service.specs.Assignment.{assigned_as, assigned_to, no_source}
use Rattle.wh_service.specs.Readings.{Reading}
use Rattle.wh_service.specs.Rows.{failures_from, rows_from}
use Rattle.wh_service.specs.Texts.{service_text}

-- what a worker of a service begins with, and what is left of its host
abbrev pub ServiceSetup : Type 0
ServiceSetup = WorkerSetup Stage NoActivities NoObserver

abbrev pub ServiceHost : Type 0
ServiceHost = HostEnd Stage NoActivities NoObserver

-- what a host of some sizes may leave of its setups
abbrev pub HostsBy : Type 1
HostsBy = Config → Vec ServiceSetup Global → ServiceHost → Type 0

-- a host was opened with these sizes, worked by a worker for each setup, and closed: what each worker leaves is what
-- turns with the program led to from its setup, its source comes from that of the setup by calls, with no more answers
-- than its seat took tasks, and it has no fault but out of memory; the totals are the sums of what the seats counted
pub record IsHosted {P : Type 0} (program : Program P) (config : Config) (setups : Vec ServiceSetup Global)
    (end : ServiceHost) : Type 0 where
  pub sizes : IsConfig config
  pub seats : config.seats ≡ vec_len setups
  pub left : IsHostEnd program (λ source. Recounts source.histories) (λ source. Gives source.histories)
      (λ source. source.answers) (λ source. 0) ComesFrom
      (λ handler task answer. answer ≡ Failed (not_found (codes "no activities"))) (λ old turn new. new ≡ old)
      config setups end

-- what runs a host: it may be called with setups for all seats of a host of good sizes, and what it leaves has a worker
-- for each setup
pub record IsHost (may : Config → Vec ServiceSetup Global → Type 0) (leaves : HostsBy) : Type 0 where
  pub runs : (config : Config) (setups : Vec ServiceSetup Global) → IsConfig config → config.seats ≡ vec_len setups
      → may config setups
  pub many : (config : Config) (setups : Vec ServiceSetup Global) (end : ServiceHost) → leaves config setups end
      → vec_len end.workers ≡ vec_len setups

-- what is left where a call that runs a host gives it
abbrev pub leaves : {E : Type 0} → (Config → Vec ServiceSetup Global → Result ServiceHost E → Type 0) → HostsBy
leaves gives config setups end = gives config setups (Ok end)

-- a setup has a turn for each task of its source, and two more, one for each kind of tasks, in which the worker learns
-- that there are no more: at most as many as a number of turns may be
abbrev pub HasItsTurns : ServiceSetup → Type 0
HasItsTurns setup = setup.turns ≡ min (deliveries_of setup.source.histories + 2) 0xffff_ffff_ffff_ffff

-- the setups of so many workers: each has a source over the histories that it was assigned, and no others, and its
-- turns
pub record AreSetups (count : ℕ) (readings : List Reading) (setups : List ServiceSetup) : Type 0 where
  pub many : length setups ≡ count
  pub sources : (worker : ℕ) → worker < count
      → get_or (map (λ setup. setup.source) setups) worker no_source ≡ opening_stage (assigned_to count worker readings)
  pub turns : All HasItsTurns setups

-- what is gathered of the files and of what is left of the host: a row for each file, the totals, and whether none of
-- the workers has a fault
pub record IsGathered (end : ServiceHost) (assigned : List AssignedFile) (rows : List FileRow) (totals : Totals)
    (faultless : Bool) : Type 0 where
  pub found : rows ≡ rows_from (map (λ worker. worker.source) end.workers.items) 0 assigned
  pub sums : totals ≡ end.totals
  pub no_fault : faultless ≡ list_all (λ worker. is_none worker.fault) end.workers.items

-- a host of these sizes was run on setups over the files, by what was read of these, and the rest is gathered of what
-- is left of it
pub record IsService (hosts : HostsBy) (config : Config) (readings : List Reading) (rows : List FileRow) (totals : Totals)
    (faultless : Bool) : Type 0 where
  pub setups : Vec ServiceSetup Global
  pub end : ServiceHost
  pub opened : AreSetups config.seats readings setups.items
  pub hosted : hosts config setups end
  pub gathered : IsGathered end (map assigned_as readings) rows totals faultless

-- a service with what is reported of it beside its report: by the sources that the workers leave, the failed tasks of
-- the files, and whether the last task of a history has a record, which it was not compared with
pub record IsServiceWith (hosts : HostsBy) (config : Config) (readings : List Reading) (rows : List FileRow)
    (totals : Totals) (faultless : Bool) (failures : List FileFailure) (uncompared : Bool) : Type 0 where
  pub service : IsService hosts config readings rows totals faultless
  pub failed : failures
      ≡ failures_from (map (λ worker. worker.source) service.end.workers.items) 0 (map assigned_as readings)
  pub last : uncompared ≡ list_any (λ worker. has_last_record worker.source) service.end.workers.items

-- its rows, its totals, whether it is faultless, and what else is reported of it are those of a service
abbrev pub IsServiceOf : HostsBy → Config → List Reading → Service → Type 0
IsServiceOf hosts config readings service =
    IsServiceWith hosts config readings service.rows.items service.totals service.faultless
    service.failures.items service.uncompared

abbrev pub is_good_outcome : Result FileCounts ReadFault → Bool
is_good_outcome (Ok counts) = eqb counts.failed 0
is_good_outcome (Err fault) = false

-- each file was read, and none of its tasks failed
abbrev pub are_good : List FileRow → Bool
are_good rows = list_all (λ row. is_good_outcome row.outcome) rows

-- 0 if no worker has a fault, no task failed and each file was read, and else 1
abbrev pub status_of : Bool → List FileRow → Totals → ℕ
status_of faultless rows totals = if faultless && (eqb totals.failed 0 && are_good rows) then 0 else 1

-- what was served of files is a service of them, and beside it are these faults, which are reported of the files
pub record IsServed (hosts : HostsBy) (config : Config) (readings : List Reading) (faults : List FileFault)
    (served : PendingReport) : Type 0 where
  pub service : IsServiceOf hosts config readings served.service
  pub reported : served.file_faults.items ≡ faults

-- the report of what was served has been written, and the end says the status and what else is reported
pub record IsEndOf (served : PendingReport) (old new : Option (List ℕ)) (end : ServiceEnd) : Type 0 where
  pub written : Appends old new (service_text served.service.rows.items served.service.totals)
  pub ends : end.status ≡ status_of served.service.faultless served.service.rows.items served.service.totals
  pub failures : end.failures.items ≡ served.service.failures.items
  pub uncompared : end.uncompared ≡ served.service.uncompared
  pub faultless : end.faultless ≡ served.service.faultless
  pub faults : end.file_faults.items ≡ served.file_faults.items

-- the end of a service: its report has been written, and the end says the status and what else is reported
pub record IsServiceEnd (hosts : HostsBy) (config : Config) (readings : List Reading) (old new : Option (List ℕ))
    (end : ServiceEnd) : Type 0 where
  pub rows : List FileRow
  pub totals : Totals
  pub service : IsServiceWith hosts config readings rows totals end.faultless end.failures.items end.uncompared
  pub written : Appends old new (service_text rows totals)
  pub ends : end.status ≡ status_of end.faultless rows totals
