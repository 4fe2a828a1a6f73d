-- What workers without observers return, alone and in lists.
use Rattle.std.specs.Prelude.{◌≡◌, ℕ, ◌+◌, ◌≤◌, List, [], ◌∷◌, Option}
use Rattle.wh_workflow.specs.Law.{Program}
use Rattle.wh_host.specs.declared.ledger.Shares.{Shares}
use Rattle.wh_tasks.specs.declared.source.SourceFault.{SourceFault}
use Rattle.wh_tasks.specs.Source.{Answers, Answerable, Delivers, MayFetch, RoseIfFailed}
use Rattle.wh_poll.specs.declared.lists.Worker.{Worker}
use Rattle.wh_poll.specs.declared.observer.NoObserver.{NoObserver}
use Rattle.wh_poll.specs.declared.setup.WorkerEnd.{WorkerEnd}
use Rattle.wh_poll.specs.declared.setup.WorkerSetup.{WorkerSetup}
use Rattle.wh_poll.specs.Turns.{IsLedBy}

-- what a worker returns of what it leaves: its seat, its source and its fault
abbrev pub worker_of : {T C F S A O : Type 0} → Shares × WorkerEnd S A O → Worker T C F S
worker_of ended = record { seat = ended.0; source = ended.1.source; fault = ended.1.fault }

-- what a worker without an observer returns: what its turns led to
pub record IsWorkOf {T C F P S A : Type 0} (program : Program P) (fetches : S → MayFetch) (delivers : S → Delivers)
    (answers : S → Answers) (failures : S → ℕ) (comes_from : S → S → Type 0) (may : A → Answerable)
    (seat : Shares) (source : S) (handler : A) (turns : ℕ) (worker : Worker T C F S) : Type 0 where
  pub setup : WorkerSetup S A NoObserver
  pub source_is : setup.source ≡ source
  pub handler_is : setup.handler ≡ handler
  pub turns_are : setup.turns ≡ turns
  pub end : WorkerEnd S A NoObserver
  pub led : IsLedBy program fetches delivers answers failures comes_from may (λ old turn new. new ≡ old) seat setup end
  pub worker_is : worker ≡ worker_of (end.counted, end)

-- the same for workers, each with the seat, the source, the handler and the turns of its place
abbrev pub AreWorkOf : {T C F P S A : Type 0} → Program P → (S → MayFetch) → (S → Delivers) → (S → Answers) → (S → ℕ)
    → (S → S → Type 0) → (A → Answerable) → List Shares → List S → List A → List ℕ → List (Worker T C F S) → Type 0
AreWorkOf program fetches delivers answers failures comes_from may [] [] [] [] [] = Unit {0}
AreWorkOf program fetches delivers answers failures comes_from may
    (seat ∷ seats) (source ∷ sources) (handler ∷ handlers) (turn ∷ turns) (worker ∷ workers) =
    IsWorkOf program fetches delivers answers failures comes_from may seat source handler turn worker
    × AreWorkOf program fetches delivers answers failures comes_from may seats sources handlers turns workers
AreWorkOf program fetches delivers answers failures comes_from may _ _ _ _ _ = ⊥

-- each seat took at most as many tasks as its worker had turns
abbrev pub WithinTurns : List Shares → List ℕ → List Shares → Type 0
WithinTurns [] [] [] = Unit {0}
WithinTurns (old ∷ olds) (turns ∷ rest) (new ∷ news) = (new.taken ≤ old.taken + turns) × WithinTurns olds rest news
WithinTurns _ _ _ = ⊥

-- if a worker kept a fault, the failures of its source rose: by the failures of the sources at first, the faults, and
-- the failures of the sources in the end
abbrev pub AllRoseIfFailed : List ℕ → List (Option SourceFault) → List ℕ → Type 0
AllRoseIfFailed [] [] [] = Unit {0}
AllRoseIfFailed (old ∷ olds) (fault ∷ faults) (new ∷ news) =
    RoseIfFailed fault old new × AllRoseIfFailed olds faults news
AllRoseIfFailed _ _ _ = ⊥

-- each source was sent at most as many answers as its seat took tasks: by how many answers the sources had and what the
-- seats had counted at first, and both in the end
abbrev pub AllAnsweredWithin : List ℕ → List Shares → List ℕ → List Shares → Type 0
AllAnsweredWithin [] [] [] [] = Unit {0}
AllAnsweredWithin (sent ∷ sents) (old ∷ olds) (more ∷ mores) (new ∷ news) =
    (more + old.taken ≤ sent + new.taken) × AllAnsweredWithin sents olds mores news
AllAnsweredWithin _ _ _ _ = ⊥
