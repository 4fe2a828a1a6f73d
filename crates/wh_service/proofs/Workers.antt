-- What a service is, by what is left of its host.
use Rattle.std.proofs.Common.{◌≡◌, ◌∙◌, ℕ, ◌<◌, List, length, map, sym, ap}
use Rattle.std.specs.Prelude.{All, Bool, Vec, is_none, get_or, Option, Result, Ok, Err, IfOk}
use Rattle.std.specs.declared.alloc.Global.{Global}
use Rattle.std.specs.List.{list_all, list_any}
use Rattle.std.proofs.lemmas.List.{length-map}
use Rattle.wh_slots.specs.declared.sizes.Config.{Config}
use Rattle.wh_host.specs.declared.reply.Totals.{Totals}
use Rattle.wh_recorded.specs.Rounds.{Stage, opening_stage, has_last_record}
use Rattle.wh_service.specs.declared.rows.FileRow.{FileRow}
use Rattle.wh_service.specs.declared.failures.FileFailure.{FileFailure}
use Rattle.wh_service.specs.declared.service.PendingReport.{PendingReport}
use Rattle.wh_service.specs.declared.service.ServiceEnd.{ServiceEnd}
use Rattle.wh_service.specs.Services.{IsEndOf, IsServed, IsServiceEnd}
use Rattle.wh_service.specs.declared.file_faults.FileFault.{FileFault}
use Rattle.wh_service.specs.Readings.{Reading}
use Rattle.wh_service.specs.Rows.{rows_from, failures_from}
use Rattle.wh_service.specs.Assignment.{no_source, assigned_as, assigned_to}
use Rattle.wh_service.specs.Services.{HostsBy, ServiceSetup, ServiceHost, HasItsTurns, AreSetups, IsServiceWith}

-- what follows of five facts of a value
pub all_five : {X E : Type 0} {P Q R S T U : X → Type 0} (r : Result X E) → ((x : X) → P x → Q x → R x → S x → T x → U x) → IfOk r P → IfOk r Q → IfOk r R → IfOk r S → IfOk r T → IfOk r U
all_five (Ok x) f p q r s t = f x p q r s t
all_five (Err e) f p q r s t = tt

-- setups over sources, each over what a worker was assigned
pub setups_are : (count : ℕ) (readings : List Reading) (sources : List Stage) (setups : List ServiceSetup)
    → length sources ≡ count
    → ((worker : ℕ) → worker < count → get_or sources worker no_source ≡ opening_stage (assigned_to count worker readings))
    → map (λ setup. setup.source) setups ≡ sources
    → All HasItsTurns setups
    → AreSetups count readings setups
setups_are count readings sources setups many assigned opens turns =
    let source : ServiceSetup → Stage = λ setup. setup.source in
    record {
      many = sym (length-map setups source) ∙ ap length opens ∙ many;
      sources = λ worker below. ap (λ l. get_or l worker no_source) opens ∙ assigned worker below;
      turns = turns;
    }

-- what was gathered of what a host left of setups over what its workers were assigned is a service
pub service_is : (hosts : HostsBy) (config : Config) (readings : List Reading) (setups : Vec ServiceSetup Global) (end : ServiceHost) (rows : List FileRow) (totals : Totals) (faultless : Bool) (failures : List FileFailure) (uncompared : Bool)
    → AreSetups config.seats readings setups.items
    → hosts config setups end
    → rows ≡ rows_from (map (λ worker. worker.source) end.workers.items) 0 (map assigned_as readings)
    → totals ≡ end.totals
    → faultless ≡ list_all (λ worker. is_none worker.fault) end.workers.items
    → failures ≡ failures_from (map (λ worker. worker.source) end.workers.items) 0 (map assigned_as readings)
    → uncompared ≡ list_any (λ worker. has_last_record worker.source) end.workers.items
    → IsServiceWith hosts config readings rows totals faultless failures uncompared
service_is hosts config readings setups end rows totals faultless failures uncompared opened hosted found sums none failed last = record {
  service = record {
    setups = setups;
    end = end;
    opened = opened;
    hosted = hosted;
    gathered = record { found = found; sums = sums; no_fault = none };
  };
  failed = failed;
  last = last;
}

-- a service by one relation is one by each weaker relation
service_by : (hosts other : HostsBy) (config : Config) (readings : List Reading) (rows : List FileRow) (totals : Totals) (faultless : Bool) (failures : List FileFailure) (uncompared : Bool)
    → ((setups : Vec ServiceSetup Global) (left : ServiceHost) → hosts config setups left → other config setups left)
    → IsServiceWith hosts config readings rows totals faultless failures uncompared
    → IsServiceWith other config readings rows totals faultless failures uncompared
service_by hosts other config readings rows totals faultless failures uncompared weaker h = record {
  service = record {
    setups = h.service.setups;
    end = h.service.end;
    opened = h.service.opened;
    hosted = weaker h.service.setups h.service.end h.service.hosted;
    gathered = h.service.gathered;
  };
  failed = h.failed;
  last = h.last;
}

pub end_by : (hosts other : HostsBy) (config : Config) (readings : List Reading) (old new : Option (List ℕ)) (end : ServiceEnd)
    → ((setups : Vec ServiceSetup Global) (left : ServiceHost) → hosts config setups left → other config setups left)
    → IsServiceEnd hosts config readings old new end
    → IsServiceEnd other config readings old new end
end_by hosts other config readings old new end weaker h = record {
  rows = h.rows;
  totals = h.totals;
  service = service_by hosts other config readings h.rows h.totals end.faultless end.failures.items end.uncompared weaker h.service;
  written = h.written;
  ends = h.ends;
}

-- what a closure that runs a host may leave, beside its captures
abbrev pub by_closure : HostsBy → HostsBy
by_closure hosts config setups left = Config × Unit {0} × hosts config setups left

-- the end of what was served of files is the end of a service of them
pub end_of_served : (hosts : HostsBy) (config : Config) (readings : List Reading) (faults : List FileFault) (served : PendingReport) (old new : Option (List ℕ)) (end : ServiceEnd)
    → IsServed hosts config readings faults served → IsEndOf served old new end
    → IsServiceEnd hosts config readings old new end
end_of_served hosts config readings faults served old new end is ended = record {
  rows = served.service.rows.items;
  totals = served.service.totals;
  service = rw (ended.failures, ended.uncompared, ended.faultless) is.service;
  written = ended.written;
  ends = rw ended.faultless ended.ends;
}
