-- What workers leave, by their setups, and what is left of their host.
use Rattle.std.specs.Prelude.{◌≡◌, ℕ, ◌+◌, ◌≤◌, List, length, map, Vec, vec_len}
use Rattle.std.specs.List.{AllZip, zip}
use Rattle.std.specs.declared.alloc.Global.{Global}
use Rattle.wh_workflow.specs.Law.{Program}
use Rattle.wh_host.specs.declared.ledger.Shares.{Shares}
use Rattle.wh_host.specs.Shares.{no_shares, sums_of}
use Rattle.wh_slots.specs.declared.sizes.Config.{Config}
use Rattle.wh_host.specs.Machine.{totals_of}
use Rattle.wh_tasks.specs.Source.{Answers, Answerable, Delivers, MayFetch, KeepsSource, RoseIfFailed, SameMay}
use Rattle.wh_poll.specs.declared.hosting.HostEnd.{HostEnd}
use Rattle.wh_poll.specs.declared.setup.WorkerSetup.{WorkerSetup}
use Rattle.wh_poll.specs.declared.setup.WorkerEnd.{WorkerEnd}
use Rattle.wh_poll.specs.Turns.{Hears, IsLedBy}

module _ {P S A O : Type 0} (program : Program P) (fetches : S → MayFetch) (delivers : S → Delivers)
    (answers : S → Answers) (failures : S → ℕ) (comes_from : S → S → Type 0) (may : A → Answerable)
    (hears : Hears O) where
  -- what a worker leaves, by its setup and what its seat had counted before: it took no more tasks than it had turns,
  -- its fault is one of its own source, its source and its handler keep what every call keeps, it sent no more answers
  -- than it took tasks, and its turns led to what it leaves
  pub record IsEndOf (counted : Shares) (setup : WorkerSetup S A O) (end : WorkerEnd S A O) : Type 0 where
    pub taken : end.counted.taken ≤ counted.taken + setup.turns
    pub fault : RoseIfFailed end.fault (failures setup.source) (failures end.source)
    pub keeps : KeepsSource delivers fetches comes_from setup.source end.source
    pub allows : SameMay (may setup.handler) (may end.handler)
    pub answered : length (answers end.source) + counted.taken ≤ length (answers setup.source) + end.counted.taken
    pub told : IsLedBy program fetches delivers answers failures comes_from may hears counted setup end

  -- a worker that started with a seat and a setup has ended: its seat now, and what it leaves
  pub record IsWorked (seated : Shares × WorkerSetup S A O) (ended : Shares × WorkerEnd S A O) : Type 0 where
    pub seat : ended.0 ≡ ended.1.counted
    pub end : IsEndOf seated.0 seated.1 ended.1

  -- what workers leave, by their setups and what each seat had counted before
  abbrev pub AreEnds : List Shares → List (WorkerSetup S A O) → List (WorkerEnd S A O) → Type 0
  AreEnds seats setups ends = AllZip (λ seated end. IsEndOf seated.0 seated.1 end) (zip seats setups) ends

  -- what is left of a host that was opened with these sizes for these setups, once its workers have ended
  pub record IsHostEnd (config : Config) (setups : Vec (WorkerSetup S A O) Global) (left : HostEnd S A O) : Type 0 where
    pub sizes : left.config ≡ config
    pub count : vec_len left.workers ≡ vec_len setups
    pub ends : AllZip (IsEndOf no_shares) setups.items left.workers.items
    pub gathered : left.totals ≡ totals_of (sums_of (map (λ end. end.counted) left.workers.items))
    pub balanced : left.totals.taken ≡ left.totals.completed + left.totals.failed + left.totals.in_hand
