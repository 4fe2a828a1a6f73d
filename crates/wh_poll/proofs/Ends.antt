-- What workers leave, by their seats and their setups.
use Rattle.std.proofs.Common.{◌≡◌, ℕ, List, [], ◌∷◌, map, refl, sym, ap, ◌∙◌, subst}
use Rattle.std.specs.List.{AllZip, zip}
use Rattle.wh_host.specs.declared.ledger.Shares.{Shares}
use Rattle.wh_workflow.specs.Law.{Program}
use Rattle.wh_tasks.specs.Source.{Answers, Answerable, Delivers, MayFetch}
use Rattle.wh_poll.specs.declared.setup.WorkerSetup.{WorkerSetup}
use Rattle.wh_poll.specs.declared.setup.WorkerEnd.{WorkerEnd}
use Rattle.wh_poll.specs.Turns.{Hears}
use Rattle.wh_poll.specs.Ends.{AreEnds, IsEndOf, IsWorked}
use Rattle.wh_poll.proofs.Zips.{map-self, pairs_are, zip_into}

-- each seat that comes back is what its worker has counted
pub seats_counted : {J S A O : Type 0} (R : J → (Shares × WorkerEnd S A O) → Type 0) (pairs : List J) (ended : List (Shares × WorkerEnd S A O)) → AllZip R pairs ended
    → ((j : J) (w : Shares × WorkerEnd S A O) → R j w → w.0 ≡ w.1.counted) → map (λ end. end.0) ended ≡ map (λ end. end.1.counted) ended
seats_counted R [] [] all own = refl
seats_counted R [] (w ∷ ws) all own = absurd all
seats_counted R (j ∷ js) [] all own = absurd all
seats_counted R (j ∷ js) (w ∷ ws) all own =
    ap (λ l. w.0 ∷ l) (seats_counted R js ws all.1 own) ∙ ap (λ s. s ∷ map (λ end. end.1.counted) ws) (own j w all.0)

module _ {P S A O : Type 0} (program : Program P) (fetches : S → MayFetch) (delivers : S → Delivers) (answers : S → Answers) (failures : S → ℕ) (comes_from : S → S → Type 0) (may : A → Answerable) (hears : Hears O) where
  -- what workers leave of their setups
  pub ends_of_pairs : (pairs : List (Shares × WorkerSetup S A O)) (ended : List (Shares × WorkerEnd S A O)) (seats : List Shares) (setups : List (WorkerSetup S A O)) (ends : List (WorkerEnd S A O))
      → map (λ seated. seated.0) pairs ≡ seats → map (λ seated. seated.1) pairs ≡ setups → ends ≡ map (λ end. end.1) ended
      → AllZip (IsWorked program fetches delivers answers failures comes_from may hears) pairs ended
      → AreEnds program fetches delivers answers failures comes_from may hears seats setups ends
  ends_of_pairs pairs ended seats setups ends firsts seconds are all =
      let R = IsWorked program fetches delivers answers failures comes_from may hears in
      let Q : (Shares × WorkerSetup S A O) → WorkerEnd S A O → Type 0 = λ seated end. IsEndOf program fetches delivers answers failures comes_from may hears seated.0 seated.1 end in
      let own : map (λ seated. seated) pairs ≡ zip seats setups = map-self pairs ∙ pairs_are pairs ∙ ap (λ l. zip l (map (λ seated. seated.1) pairs)) firsts ∙ ap (λ l. zip seats l) seconds in
      subst (λ l. AllZip Q (zip seats setups) l) (sym are)
      (subst (λ l. AllZip Q l (map (λ end. end.1) ended)) own (zip_into R Q (λ seated. seated) (λ end. end.1) pairs ended all (λ seated end worked. worked.end)))
