-- What becomes of the sources of a host.
use Rattle.std.proofs.Common.{◌≡◌, ◌∙◌, ◌≤◌, ◌+◌, ◌∷◌, ◌++◌, [], List, ℕ, length, map, ap, refl, sym, subst, arith, is_some, vec_len}
use Rattle.std.specs.Prelude.{sum_by}
use Rattle.std.specs.List.{AllZip, flat_map}
use Rattle.std.proofs.lemmas.List.{append-nil}
use Rattle.std.proofs.lemmas.List.Sums.{sum_by-cons}
use Rattle.wh_client.specs.declared.options.TaskQueueKind.{TaskQueueKind}
use Rattle.wh_client.specs.declared.options.LiveOptions.{LiveOptions}
use Rattle.wh_slots.specs.declared.sizes.Config.{Config}
use Rattle.wh_host.specs.Shares.{no_shares}
use Rattle.wh_host.specs.declared.ledger.Shares.{Shares}
use Rattle.wh_live.specs.Deliveries.{ComesFrom, LiveView, fresh}
use Rattle.wh_commands.specs.declared.names.WorkerNames.{WorkerNames}
use Rattle.wh_notes.specs.Notes.{counts_of}
use Rattle.wh_poll.specs.Ends.{IsEndOf}
use Rattle.wh_poll.specs.Turns.{Hears}
use Rattle.wh_poll.specs.declared.setup.WorkerEnd.{WorkerEnd}
use Rattle.wh_poll.specs.declared.setup.WorkerSetup.{WorkerSetup}
use Rattle.wh_tasks.specs.Source.{Answerable, Answers, Delivers, MayFetch}
use Rattle.wh_workflow.specs.Law.{Program}
use Rattle.wh_crew.specs.Crews.{normal_workers, roles_of, sources_of}
use Rattle.wh_crew.specs.Counts.{tallies_of}
use Rattle.wh_crew.specs.Serving.{AreServed, HasServed}
use Rattle.wh_crew.specs.declared.serving.LiveEnd.{LiveEnd}

comes_from_itself : (s : LiveView) → ComesFrom s s
comes_from_itself s = record {
  role = refl;
  names = refl;
  more = [];
  answers = sym (append-nil s.answers);
  failures = omega arith;
  more_notes = [];
  notes = sym (append-nil s.notes);
  kinds = refl;
  polled = omega arith;
  noted = omega arith;
}

-- fresh sources were sent no answer
none_sent : (names : WorkerNames) (roles : List TaskQueueKind) → sum_by (λ s. length s.answers) (map (λ role. fresh role names) roles) ≡ 0
none_sent names [] = refl
none_sent names (role ∷ roles) = none_sent names roles

module _ {P A O : Type 0} (program : Program P) (fetches : LiveView → MayFetch) (delivers : LiveView → Delivers)
    (failures : LiveView → ℕ) (may : A → Answerable) (hears : Hears O) where
  -- each source comes from that of its setup
  origins : (setups : List (WorkerSetup LiveView A O)) (ends : List (WorkerEnd LiveView A O))
      → AllZip (IsEndOf program fetches delivers (λ s. s.answers) failures ComesFrom may hears no_shares) setups ends
      → AllZip (λ first later. ComesFrom later first) (map (λ s. s.source) setups) (map (λ e. e.source) ends)
  origins [] [] all = tt
  origins [] (e ∷ ends) all = all
  origins (s ∷ setups) [] all = all
  origins (s ∷ setups) (e ∷ ends) all =
      (all.0.keeps.origin s.source (comes_from_itself s.source), origins setups ends all.1)

  -- together they were sent no more further answers than tasks were taken
  sent : (setups : List (WorkerSetup LiveView A O)) (ends : List (WorkerEnd LiveView A O))
      → AllZip (IsEndOf program fetches delivers (λ s. s.answers) failures ComesFrom may hears no_shares) setups ends
      → sum_by (λ s. length s.answers) (map (λ e. e.source) ends)
      ≤ sum_by (λ s. length s.answers) (map (λ s. s.source) setups) + sum_by (λ c. c.taken) (map (λ e. e.counted) ends)
  sent [] [] all = omega arith
  sent [] (e ∷ ends) all = absurd all
  sent (s ∷ setups) [] all = absurd all
  sent (s ∷ setups) (e ∷ ends) all =
      let one : length e.source.answers + 0 ≤ length s.source.answers + e.counted.taken = all.0.answered in
      let rest = sent setups ends all.1 in
      let later = sum_by-cons (λ (v : LiveView). length v.answers) e.source (map (λ (w : WorkerEnd LiveView A O). w.source) ends) in
      let first = sum_by-cons (λ (v : LiveView). length v.answers) s.source (map (λ (w : WorkerSetup LiveView A O). w.source) setups) in
      let taken = sum_by-cons (λ (c : Shares). c.taken) e.counted (map (λ (w : WorkerEnd LiveView A O). w.counted) ends) in
      omega (arith, one, rest, later, first, taken)

-- what is left of a host that served a crew as large as it has seats
pub served : {P A O : Type 0} (program : Program P) (may : A → Answerable) (hears : Hears O) (config : Config)
    (options : LiveOptions) (workers : ℕ) (crew : List (A × O)) (end : LiveEnd) → length crew ≡ config.seats
    → HasServed program may hears config options workers crew end → AreServed config options workers end
served program may hears config options workers crew end many has =
    let normal = normal_workers workers (is_some options.sticky) in
    let left = has.left.workers.items in
    let begun = has.sources ∙ ap (sources_of options.names normal workers) many in
    let came = origins program _ _ _ may hears has.setups.items left has.ran.ends in
    let most = sent program _ _ _ may hears has.setups.items left has.ran.ends in
    let none = ap (sum_by (λ s. length s.answers)) begun ∙ none_sent options.names (roles_of normal workers config.seats) in
    let taken = ap (λ t. t.taken) (has.totals ∙ has.ran.gathered) in
    record {
      sources = map (λ e. e.source) left;
      from = subst (λ first. AllZip (λ first later. ComesFrom later first) first (map (λ e. e.source) left)) begun came;
      answers = omega (arith, most, none, taken);
      tally = has.tally ∙ ap tallies_of (maps left);
      counts = has.counts ∙ ap counts_of (flats left);
    }
  where
    maps : {A O : Type 0} (ends : List (WorkerEnd LiveView A O)) → map (λ e. e.source.tally) ends ≡ map (λ s. s.tally) (map (λ e. e.source) ends)
    maps [] = refl
    maps (e ∷ ends) = ap (λ rest. e.source.tally ∷ rest) (maps ends)

    flats : {A O : Type 0} (ends : List (WorkerEnd LiveView A O)) → flat_map (λ e. e.source.notes) ends ≡ flat_map (λ s. s.notes) (map (λ e. e.source) ends)
    flats [] = refl
    flats (e ∷ ends) = ap (λ rest. e.source.notes ++ rest) (flats ends)
