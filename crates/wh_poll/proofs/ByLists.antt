-- What workers without observers return.
use Rattle.std.proofs.Common.{◌≡◌, ℕ, ◌+◌, ◌≤◌, List, [], ◌∷◌, length, map, Option, refl, sym, ap, ◌∙◌, subst, arith}
use Rattle.std.specs.List.{AllZip}
use Rattle.wh_host.specs.declared.ledger.Shares.{Shares}
use Rattle.wh_workflow.specs.Law.{Program}
use Rattle.wh_tasks.specs.declared.source.SourceFault.{SourceFault}
use Rattle.wh_tasks.specs.Source.{Answers, Answerable, Delivers, MayFetch, KeepsOrigin, RoseIfFailed}
use Rattle.wh_poll.specs.declared.lists.Worker.{Worker}
use Rattle.wh_poll.specs.declared.observer.NoObserver.{NoObserver}
use Rattle.wh_poll.specs.declared.setup.WorkerSetup.{WorkerSetup}
use Rattle.wh_poll.specs.declared.setup.WorkerEnd.{WorkerEnd}
use Rattle.wh_poll.specs.Lists.{worker_of, AreWorkOf, IsWorkOf, WithinTurns, AllRoseIfFailed, AllAnsweredWithin}
use Rattle.wh_poll.specs.Ends.{IsWorked}
use Rattle.wh_poll.proofs.Zips.{map-map, moved, moved_two, zip_into, zip_weaker}

-- where each worker keeps within its turns, all do
within_turns : {J W : Type 0} (seat : J → Shares) (turns : J → ℕ) (counted : W → Shares) (pairs : List J) (ended : List W)
    → AllZip (λ j w. (counted w).taken ≤ (seat j).taken + turns j) pairs ended → WithinTurns (map seat pairs) (map turns pairs) (map counted ended)
within_turns seat turns counted [] [] all = tt
within_turns seat turns counted [] (w ∷ ws) all = absurd all
within_turns seat turns counted (j ∷ js) [] all = absurd all
within_turns seat turns counted (j ∷ js) (w ∷ ws) all = (all.0, within_turns seat turns counted js ws all.1)

-- where each worker's fault came of its own source, those of all did
faults_rose : {J W : Type 0} (old : J → ℕ) (fault : W → Option SourceFault) (new : W → ℕ) (pairs : List J) (ended : List W)
    → AllZip (λ j w. RoseIfFailed (fault w) (old j) (new w)) pairs ended → AllRoseIfFailed (map old pairs) (map fault ended) (map new ended)
faults_rose old fault new [] [] all = tt
faults_rose old fault new [] (w ∷ ws) all = absurd all
faults_rose old fault new (j ∷ js) [] all = absurd all
faults_rose old fault new (j ∷ js) (w ∷ ws) all = (all.0, faults_rose old fault new js ws all.1)

-- where each source was sent no more answers than its seat took, all were
all_answered : {J W : Type 0} (sent : J → ℕ) (seat : J → Shares) (more : W → ℕ) (counted : W → Shares) (pairs : List J) (ended : List W)
    → AllZip (λ j w. more w + (seat j).taken ≤ sent j + (counted w).taken) pairs ended
    → AllAnsweredWithin (map sent pairs) (map seat pairs) (map more ended) (map counted ended)
all_answered sent seat more counted [] [] all = tt
all_answered sent seat more counted [] (w ∷ ws) all = absurd all
all_answered sent seat more counted (j ∷ js) [] all = absurd all
all_answered sent seat more counted (j ∷ js) (w ∷ ws) all = (all.0, all_answered sent seat more counted js ws all.1)

module _ {P S A : Type 0} (program : Program P) (fetches : S → MayFetch) (delivers : S → Delivers) (answers : S → Answers) (failures : S → ℕ) (comes_from : S → S → Type 0) (may : A → Answerable) where
  -- of a worker without an observer
  abbrev pub Worked : (Shares × WorkerSetup S A NoObserver) → (Shares × WorkerEnd S A NoObserver) → Type 0
  Worked = IsWorked program fetches delivers answers failures comes_from may (λ old turn new. new ≡ old)

module _ (T C F : Type 0) {P S A : Type 0} (program : Program P) (fetches : S → MayFetch) (delivers : S → Delivers) (answers : S → Answers) (failures : S → ℕ) (comes_from : S → S → Type 0) (may : A → Answerable) where
  -- what a worker returns is what its turns led to
  pub work_of : (seat : Shares) (setup : WorkerSetup S A NoObserver) (end : Shares × WorkerEnd S A NoObserver) → Worked program fetches delivers answers failures comes_from may (seat, setup) end
      → IsWorkOf {T = T} {C = C} {F = F} program fetches delivers answers failures comes_from may seat setup.source setup.handler setup.turns (worker_of end)
  work_of seat setup end worked =
      record { setup = setup; source_is = refl; handler_is = refl; turns_are = refl; end = end.1; led = worked.end.told; worker_is = ap (λ s. worker_of (s, end.1)) worked.seat }

  works : (pairs : List (Shares × WorkerSetup S A NoObserver)) (ended : List (Shares × WorkerEnd S A NoObserver)) → AllZip (Worked program fetches delivers answers failures comes_from may) pairs ended
      → AreWorkOf {T = T} {C = C} {F = F} program fetches delivers answers failures comes_from may (map (λ seated. seated.0) pairs) (map (λ seated. seated.1.source) pairs) (map (λ seated. seated.1.handler) pairs) (map (λ seated. seated.1.turns) pairs) (map worker_of ended)
  works [] [] all = tt
  works [] (w ∷ ws) all = absurd all
  works (j ∷ js) [] all = absurd all
  works (j ∷ js) (w ∷ ws) all = (work_of j.0 j.1 w all.0, works js ws all.1)

module _ {T C F P S A : Type 0} (program : Program P) (fetches : S → MayFetch) (delivers : S → Delivers) (answers : S → Answers) (failures : S → ℕ) (comes_from : S → S → Type 0) (may : A → Answerable)
    (pairs : List (Shares × WorkerSetup S A NoObserver)) (ended : List (Shares × WorkerEnd S A NoObserver)) (setups : List (WorkerSetup S A NoObserver))
    (seats : List Shares) (sources : List S) (handlers : List A) (turns : List ℕ) (workers : List (Worker T C F S))
    (firsts : map (λ seated. seated.0) pairs ≡ seats) (seconds : map (λ seated. seated.1) pairs ≡ setups)
    (sources_are : map (λ setup. setup.source) setups ≡ sources) (handlers_are : map (λ setup. setup.handler) setups ≡ handlers) (turns_are : map (λ setup. setup.turns) setups ≡ turns)
    (workers_are : workers ≡ map worker_of ended)
    (all : AllZip (Worked program fetches delivers answers failures comes_from may) pairs ended) where
  -- a list of the setups is one of the pairs
  of_setups : {X : Type 0} (f : WorkerSetup S A NoObserver → X) (xs : List X) → map f setups ≡ xs → map (λ seated. f seated.1) pairs ≡ xs
  of_setups f xs is = sym (map-map f (λ seated. seated.1) pairs) ∙ ap (map f) seconds ∙ is

  -- a list of the workers is one of what they leave
  of_workers : {X : Type 0} (f : Worker T C F S → X) → map (λ end. f (worker_of end)) ended ≡ map f workers
  of_workers f = sym (map-map f worker_of ended) ∙ ap (map f) (sym workers_are)

  pub workers_within : WithinTurns seats turns (map (λ worker. worker.seat) workers)
  workers_within =
      moved WithinTurns _ _ _ _ _ _ firsts (of_setups (λ setup. setup.turns) turns turns_are) (of_workers (λ worker. worker.seat))
      (within_turns (λ seated. seated.0) (λ seated. seated.1.turns) (λ end. end.0) pairs ended (zip_weaker (Worked program fetches delivers answers failures comes_from may) _ pairs ended all (λ seated end worked. omega (arith, worked.end.taken, ap (λ shares. shares.taken) worked.seat))))

  pub workers_rose : AllRoseIfFailed (map failures sources) (map (λ worker. worker.fault) workers) (map (λ worker. failures worker.source) workers)
  workers_rose =
      moved AllRoseIfFailed _ _ _ _ _ _
      (sym (map-map failures (λ seated. seated.1.source) pairs) ∙ ap (map failures) (of_setups (λ setup. setup.source) sources sources_are)) (of_workers (λ worker. worker.fault)) (of_workers (λ worker. failures worker.source))
      (faults_rose (λ seated. failures seated.1.source) (λ end. end.1.fault) (λ end. failures end.1.source) pairs ended (zip_weaker (Worked program fetches delivers answers failures comes_from may) _ pairs ended all (λ seated end worked. worked.end.fault)))

  pub workers_come : AllZip (KeepsOrigin comes_from) sources (map (λ worker. worker.source) workers)
  workers_come =
      moved_two (AllZip (KeepsOrigin comes_from)) _ _ _ _ (of_setups (λ setup. setup.source) sources sources_are) (of_workers (λ worker. worker.source))
      (zip_into (Worked program fetches delivers answers failures comes_from may) (KeepsOrigin comes_from) (λ seated. seated.1.source) (λ end. end.1.source) pairs ended all (λ seated end worked. worked.end.keeps.origin))

  pub workers_answered : AllAnsweredWithin (map (λ source. length (answers source)) sources) seats (map (λ worker. length (answers worker.source)) workers) (map (λ worker. worker.seat) workers)
  workers_answered =
      subst (λ l. AllAnsweredWithin (map (λ source. length (answers source)) sources) l (map (λ worker. length (answers worker.source)) workers) (map (λ worker. worker.seat) workers)) firsts
      (moved (λ x y z. AllAnsweredWithin x (map (λ seated. seated.0) pairs) y z) _ _ _ _ _ _
      (sym (map-map (λ source. length (answers source)) (λ seated. seated.1.source) pairs) ∙ ap (map (λ source. length (answers source))) (of_setups (λ setup. setup.source) sources sources_are))
      (of_workers (λ worker. length (answers worker.source))) (of_workers (λ worker. worker.seat))
      (all_answered (λ seated. length (answers seated.1.source)) (λ seated. seated.0) (λ end. length (answers end.1.source)) (λ end. end.0) pairs ended (zip_weaker (Worked program fetches delivers answers failures comes_from may) _ pairs ended all (λ seated end worked. omega (arith, worked.end.answered, ap (λ shares. shares.taken) worked.seat)))))

  pub workers_worked : AreWorkOf program fetches delivers answers failures comes_from may seats sources handlers turns workers
  workers_worked =
      moved (λ x y z. AreWorkOf program fetches delivers answers failures comes_from may x y handlers turns z) _ _ _ _ _ _ firsts (of_setups (λ setup. setup.source) sources sources_are) (sym workers_are)
      (moved_two (λ x y. AreWorkOf {T = T} {C = C} {F = F} program fetches delivers answers failures comes_from may (map (λ seated. seated.0) pairs) (map (λ seated. seated.1.source) pairs) x y (map worker_of ended)) _ _ _ _
      (of_setups (λ setup. setup.handler) handlers handlers_are) (of_setups (λ setup. setup.turns) turns turns_are) (works T C F program fetches delivers answers failures comes_from may pairs ended all))
