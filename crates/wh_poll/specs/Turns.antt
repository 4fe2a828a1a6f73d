-- The turns of a worker, one after the other.
use Rattle.std.specs.Prelude.{◌≡◌, ◌⊎◌, ℕ, ◌<◌, true, false, List, [], ◌∷◌, length, None, Result}
use Rattle.wh_workflow.specs.Law.{Program}
use Rattle.wh_slots.specs.declared.SlotKind.{SlotKind}
use Rattle.wh_host.specs.declared.ledger.Shares.{Shares}
use Rattle.wh_tasks.specs.declared.source.SourceFault.{SourceFault}
use Rattle.wh_tasks.specs.Source.{Answers, Answerable, Delivers, MayFetch, FailsOnly, KeepsSource, SameMay}
use Rattle.wh_poll.specs.declared.serve.Served.{Served}
use Rattle.wh_poll.specs.declared.setup.WorkerSetup.{WorkerSetup}
use Rattle.wh_poll.specs.declared.setup.WorkerEnd.{WorkerEnd}
use Rattle.wh_poll.specs.declared.workers.Rota.{Rota}
use Rattle.wh_poll.specs.Serve.{Serves, Counts}
use Rattle.wh_poll.specs.Workers.{first_fault, first_rota, is_last, next_rota}

-- the result of a turn
abbrev pub Turn : Type 0
Turn = Result Served SourceFault

-- how the notification of a turn may change an observer
abbrev pub Hears : Type 0 → Type 1
Hears O = O → Turn → O → Type 0

-- the turns lead from what a worker had to what it has, and from its rota to the next one: each turn is of the kind
-- that the rota before it says, and after each another turn follows
abbrev pub GoesOn : {X : Type 0} → (SlotKind → X → Turn → X → Type 0) → Rota → X → List Turn → Rota → X → Type 0
GoesOn step rota old [] next new = (next ≡ rota) × (new ≡ old)
GoesOn step rota old (turn ∷ rest) next new =
    (between : _) × step rota.kind old turn between × (is_last rota.other_closed turn ≡ false)
    × GoesOn step (next_rota rota turn) between rest next new

-- no turn follows: `count` turns are done, or one more is done, and it is the last
abbrev pub Ends : {X : Type 0} → (SlotKind → X → Turn → X → Type 0) → ℕ → List Turn → Rota → X → X → Type 0
Ends step count turns rota old new =
    ((length turns ≡ count) × (new ≡ old))
    ⊎ ((turn : Turn) × step rota.kind old turn new × (is_last rota.other_closed turn ≡ true) × (length turns < count))

-- what a worker would leave before its first turn
abbrev pub at_first : {S A O : Type 0} → Shares → WorkerSetup S A O → WorkerEnd S A O
at_first counted setup =
    record {
      counted = counted;
      source = setup.source;
      handler = setup.handler;
      observer = setup.observer;
      fault = None;
    }

module _ {P S A O : Type 0} (program : Program P) (fetches : S → MayFetch) (delivers : S → Delivers)
    (answers : S → Answers) (failures : S → ℕ) (comes_from : S → S → Type 0) (may : A → Answerable)
    (hears : Hears O) where
  -- one turn of a worker, of a kind: the answer that it sends, what its seat counts, what its source and its handler
  -- keep, the fault that it keeps, and the notification of its observer
  pub record IsTurn (kind : SlotKind) (old : WorkerEnd S A O) (turn : Turn) (new : WorkerEnd S A O) : Type 0 where
    pub serves : Serves kind program (fetches old.source) (delivers old.source) (may old.handler)
        (answers old.source) (answers new.source) turn
    pub counts : Counts old.counted new.counted turn
    pub failed : FailsOnly turn (failures old.source) (failures new.source)
    pub keeps : KeepsSource delivers fetches comes_from old.source new.source
    pub allows : SameMay (may old.handler) (may new.handler)
    pub kept : new.fault ≡ first_fault old.fault turn
    pub told : hears old.observer turn new.observer

  -- the turns of a setup led to what its worker leaves: workflow and activity tasks alternately, workflow tasks first,
  -- a closed kind not again, until both are closed, the host drains or all turns are done; its observer was notified of
  -- each
  pub record IsLedBy (counted : Shares) (setup : WorkerSetup S A O) (end : WorkerEnd S A O) : Type 0 where
    pub turns : List Turn
    pub rota : Rota
    pub before : WorkerEnd S A O
    pub led : GoesOn IsTurn first_rota (at_first counted setup) turns rota before
    pub ended : Ends IsTurn setup.turns turns rota before end
