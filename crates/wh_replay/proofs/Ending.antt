-- Lists that end in a started task, and runs over a joined list.
use Rattle.std.proofs.Common.{◌≡◌, ℕ, suc, ◌-◌, ◌≤◌, Bool, true, false, List, [], ◌∷◌, ◌++◌, length, take, drop, slice_get, Option, Some, None, Result, Ok, Err, cond, refl, sym, ap, ◌∙◌, subst, length-append, arith}
use Rattle.std.proofs.Math.Numerals.{sub-one}
use Rattle.std.proofs.Math.Seq.{take-append_seam, drop-append_seam}
use Rattle.std.specs.Result.{IsOkAnd}
use Rattle.wh_events.specs.declared.event.Event.{Event}
use Rattle.wh_events.specs.declared.kind.EventKind.{EventKind}
use Rattle.wh_events.specs.declared.kind.EventKind.TheVariants.{WorkflowTaskStarted}
use Rattle.wh_events.specs.Machines.{Machine, machines_of}
use Rattle.wh_events.specs.Cuts.{is_task_started_kind, is_task_started}
use Rattle.wh_events.specs.Places.{fault_after}
use Rattle.wh_workflow.specs.declared.command.Command.{Command}
use Rattle.wh_workflow.specs.Law.{Program, IsLawful}
use Rattle.wh_workflow.specs.Scripts.{Settled}
use Rattle.wh_workflow.specs.Activations.{and_then}
use Rattle.wh_replay.specs.declared.fault.Fault.{Fault}
use Rattle.wh_replay.specs.declared.fault.Fault.TheVariants.{NotATask}
use Rattle.wh_replay.specs.Replays.{ReplayResult, Replayed, with_machines, replay, replay_tasks, ends_in_task}
use Rattle.wh_replay.specs.Runs.{Shows, IsReplayed, run_of, advance_steps}
use Rattle.wh_replay.specs.Private.Runs.{Gives, IsRun, advanced}
use Rattle.wh_replay.specs.Private.Views.{view_of}
use Rattle.wh_replay.proofs.Raising.{top}
use Rattle.wh_replay.specs.declared.fault.RunFault.{RunFault}
use Rattle.wh_replay.specs.declared.fault.RunFault.TheVariants.{Fault as Faulty, OutOfMemory}
use Rattle.wh_replay.specs.Outcomes.{Answers}
use Rattle.wh_replay.specs.Tracking.{joined}
use Rattle.wh_replay.specs.Private.Advances.{GivesHistory}
use Rattle.wh_replay.proofs.Resuming.{taken_parts, run_replay, replay_parts, replayed_gives, replayed_fault, misplaced, advanced_gives, advanced_counts, advanced_fault}
use Rattle.wh_events.proofs.Standing.{no_fault_where_in_place}
use Rattle.wh_workflow.specs.Counting.{risen}

abbrev pub started_in : Option Event → Bool
started_in None = false
started_in (Some event) = is_task_started event

-- a list ends in a started task where its last event is one
pub ends_last : (events : List Event) → ends_in_task events ≡ started_in (slice_get events (length events - 1))
ends_last [] = refl
ends_last (event ∷ []) = refl
ends_last (event ∷ next ∷ rest) =
    ends_last (next ∷ rest)
    ∙ (ap (λ k. started_in (slice_get (next ∷ rest) k)) (sub-one (suc (length rest))) ∙ sym (ap (λ k. started_in (slice_get (event ∷ next ∷ rest) k)) (sub-one (suc (suc (length rest))))))

pub not_started : (kind : EventKind) → (kind ≡ WorkflowTaskStarted → ⊥) → is_task_started_kind kind ≡ false
not_started WorkflowTaskStarted h = absurd (h refl)
not_started _ h = refl

-- a joined list ends as what is joined to it
pub ends_joined : (held new : List Event) → ends_in_task new ≡ true → ends_in_task (held ++ new) ≡ true
ends_joined [] new e = e
ends_joined (event ∷ []) [] e = cc
ends_joined (event ∷ []) (next ∷ rest) e = e
ends_joined (event ∷ next ∷ rest) new e = ends_joined (next ∷ rest) new e

pub front_is : {A : Type 0} (xs ys whole : List A) (n : ℕ) → whole ≡ xs ++ ys → n ≡ length xs → take n whole ≡ xs
front_is xs ys whole n e h = rw (e, h) (take-append_seam xs ys)

pub back_is : {A : Type 0} (xs ys whole : List A) (n : ℕ) → whole ≡ xs ++ ys → n ≡ length xs → drop n whole ≡ ys
back_is xs ys whole n e h = rw (e, h) (drop-append_seam xs ys)

module _ {S : Type 0} where
  replay_of_run : (ends : Bool) (result : Result (Replayed S) Fault) → ends ≡ true → cond ends result (Err NotATask) ≡ result
  replay_of_run true result e = refl
  replay_of_run false result e = cc

  -- a fault of the tasks is one of the run
  pub run_fault : (program : Program S) (events : List Event) (fault : Fault) → ends_in_task events ≡ true → replay_tasks program events 0 ≡ Err fault → run_of program events ≡ Err fault
  run_fault program events fault e h =
      replay_of_run (ends_in_task events) (replay program events 0) e ∙ ap (λ r. and_then r (λ left. Ok (with_machines (machines_of events) left))) h

  -- what a replay on a meter gives makes a run
  pub replayed_run : (program : Program S) (events : List Event) (meter : ℕ) (value : ReplayResult S) → ends_in_task events ≡ true → meter ≤ top → replay_tasks program events meter ≡ Ok value → IsRun program events value.state value.settled value.unsent
  replayed_run program events meter value ends below e = record { ends = ends; gives = replayed_gives program events meter value below e }

  -- the fault of a replay on a meter is what the history begins with
  pub begins_err : {A : Type 0} (program : Program S) (events : List Event) (meter : ℕ) (fault : RunFault) (defined : Result (ReplayResult S) Fault) (seen : A → ReplayResult S) → replay_tasks program events meter ≡ defined → meter ≤ top → ends_in_task events ≡ true
      → Answers (Err fault) defined seen → GivesHistory program events (Err fault)
  begins_err program events meter (Faulty fault) defined seen is below ends answers = run_fault program events fault ends (replayed_fault program events meter fault below (is ∙ answers))
  begins_err program events meter OutOfMemory defined seen is below ends answers = ends

  -- what holds of what the replay gives
  gives_that : (machines : List Machine) (result : Result (ReplayResult S) Fault) (state : S) (settled : Settled) (unsent : List Command) (P : Replayed S → Type 0) → Gives result state settled unsent
      → ((left : ReplayResult S) → left.state ≡ state → left.settled ≡ settled → left.unsent ≡ unsent → P (with_machines machines left)) → IsOkAnd (and_then result (λ left. Ok (with_machines machines left))) P
  gives_that machines (Ok left) state settled unsent P gives h = h left gives.0 gives.1 gives.2
  gives_that machines (Err fault) state settled unsent P gives h = absurd gives

  pub run_that : (program : Program S) (events : List Event) (state : S) (settled : Settled) (unsent : List Command) (P : Replayed S → Type 0) → IsRun program events state settled unsent
      → ((left : ReplayResult S) → left.state ≡ state → left.settled ≡ settled → left.unsent ≡ unsent → P (with_machines (machines_of events) left)) → IsOkAnd (run_of program events) P
  run_that program events state settled unsent P run h =
      let Q : Result (Replayed S) Fault → Type 0 = λ r. IsOkAnd r P in
      subst Q (sym (replay_of_run (ends_in_task events) (replay program events 0) run.ends)) (gives_that (machines_of events) (replay_tasks program events 0) state settled unsent P run.gives h)

  -- the state of a run is what replay gives
  pub run_state : (program : Program S) (events : List Event) (state : S) (settled : Settled) (unsent : List Command) → IsRun program events state settled unsent → IsOkAnd (run_of program events) (λ replayed. state ≡ replayed.state)
  run_state program events state settled unsent run = run_that program events state settled unsent (λ replayed. state ≡ replayed.state) run (λ left same _ _. sym same)

  -- so is what it shows, and it is not too long
  pub is_replayed : (program : Program S) (events : List Event) (state : S) (settled : Settled) (unsent : List Command) → IsRun program events state settled unsent → IsReplayed program (view_of events settled unsent)
  is_replayed program events state settled unsent run =
      let history = view_of events settled unsent in
      record {
        replays = run_that program events state settled unsent (Shows history) run (λ left _ versions commands. record { machines = refl; settled = sym versions; unsent = sym commands });
        most = let kept = run_replay program events state settled unsent (replay_tasks program events 0) refl run.gives in ((no_fault_where_in_place events).0 (replay_parts program events 0 kept.0 kept.1).0).1;
      }

  -- new events, which end in a started task, are joined to those of a run on a meter: a list of which that many first events are held
  pub record IsLonger (program : Program S) (before new joined : List Event) (held meter : ℕ) (state : S) (settled : Settled) (unsent : List Command) : Type 0 where
    pub run : IsRun program before state settled unsent
    pub ends : ends_in_task new ≡ true
    pub joins : joined ≡ before ++ new
    pub count : held ≡ length before
    pub below : meter ≤ top

  -- it is so where new events were taken after held ones
  pub is_longer : (program : Program S) (before new track : List Event) (held meter : ℕ) (state : S) (settled : Settled) (unsent : List Command) → IsRun program before state settled unsent → ends_in_task new ≡ true → joined before new ≡ Ok track → held ≡ length before → meter ≤ top
      → IsLonger program before new track held meter state settled unsent
  is_longer program before new track held meter state settled unsent run ends taken count below = record {
    run = run;
    ends = ends;
    joins = sym (taken_parts (fault_after before new) (before ++ new) track taken).1;
    count = count;
    below = below;
  }

  -- the held events are among the joined ones
  pub longer_within : (program : Program S) (before new joined : List Event) (held meter : ℕ) (state : S) (settled : Settled) (unsent : List Command) → IsLonger program before new joined held meter state settled unsent → held ≤ length joined
  longer_within program before new joined held meter state settled unsent h = omega (arith, h.count, ap length h.joins, length-append before new)

  pub kept_run : (program : Program S) (before new joined : List Event) (held meter : ℕ) (state : S) (settled : Settled) (unsent : List Command) → IsLonger program before new joined held meter state settled unsent → IsRun program (take held joined) state settled unsent
  kept_run program before new joined held meter state settled unsent h =
      let P : List Event → Type 0 = λ l. IsRun program l state settled unsent in subst P (sym (front_is before new joined held h.joins h.count)) h.run

  parted : (program : Program S) (before new joined : List Event) (held meter : ℕ) (state : S) (settled : Settled) (unsent : List Command) → IsLonger program before new joined held meter state settled unsent
      → advanced program before new meter ≡ advanced program (take held joined) (drop held joined) meter
  parted program before new joined held meter state settled unsent h =
      ap (λ l. advanced program l new meter) (sym (front_is before new joined held h.joins h.count))
      ∙ ap (λ l. advanced program (take held joined) l meter) (sym (back_is before new joined held h.joins h.count))

  -- a run that is advanced is a run
  pub longer_run : (program : Program S) → IsLawful program → (before new joined : List Event) (held meter : ℕ) (state : S) (settled : Settled) (unsent : List Command) (value : ReplayResult S) → IsLonger program before new joined held meter state settled unsent
      → advanced program (take held joined) (drop held joined) meter ≡ Ok value → IsRun program (before ++ new) value.state value.settled value.unsent
  longer_run program lawful before new joined held meter state settled unsent value h e = record {
    ends = ends_joined before new h.ends;
    gives = advanced_gives program lawful before new meter state settled unsent value h.run h.below (parted program before new joined held meter state settled unsent h ∙ e);
  }

  -- its meter rises by the steps that were taken
  pub longer_counts : (program : Program S) → IsLawful program → (before new joined : List Event) (held meter : ℕ) (state : S) (settled : Settled) (unsent : List Command) (value : ReplayResult S) → IsLonger program before new joined held meter state settled unsent
      → advanced program (take held joined) (drop held joined) meter ≡ Ok value → value.meter ≡ risen meter (advance_steps program before new)
  longer_counts program lawful before new joined held meter state settled unsent value h e =
      advanced_counts program lawful before new meter state settled unsent value h.run h.below (parted program before new joined held meter state settled unsent h ∙ e)

  -- and its fault is that of the joined history
  pub longer_err : {A : Type 0} (program : Program S) → IsLawful program → (before new joined : List Event) (held meter : ℕ) (state : S) (settled : Settled) (unsent : List Command) (fault : RunFault) (defined : Result (ReplayResult S) Fault) (seen : A → ReplayResult S)
      → IsLonger program before new joined held meter state settled unsent → advanced program (take held joined) (drop held joined) meter ≡ defined → Answers (Err fault) defined seen → GivesHistory program (before ++ new) (Err fault)
  longer_err program lawful before new joined held meter state settled unsent (Faulty fault) defined seen h is answers =
      run_fault program (before ++ new) fault (ends_joined before new h.ends)
      (advanced_fault program lawful before new meter state settled unsent fault h.run h.below (parted program before new joined held meter state settled unsent h ∙ (is ∙ answers)))
  longer_err program lawful before new joined held meter state settled unsent OutOfMemory defined seen h is answers = ends_joined before new h.ends

  -- the fault of new events that are not in place is that of the joined history
  pub refused_err : {A : Type 0} (program : Program S) (before new : List Event) (state : S) (settled : Settled) (unsent : List Command) (fault : RunFault) (seen : A → List Event) → IsRun program before state settled unsent → ends_in_task new ≡ true
      → Answers (Err fault) (joined before new) seen → GivesHistory program (before ++ new) (Err fault)
  refused_err program before new state settled unsent (Faulty fault) seen run ends answers =
      run_fault program (before ++ new) fault (ends_joined before new ends) (misplaced program before new state settled unsent fault run answers)
  refused_err program before new state settled unsent OutOfMemory seen run ends answers = ends_joined before new ends
