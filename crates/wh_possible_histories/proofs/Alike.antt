-- What an activation of a program leaves is what an activation of a run of a table does.
use Rattle.std.proofs.Common.{◌≡◌, ℕ, Bool, true, false, not, ◌&&◌, ◌||◌, List, [], ◌∷◌, Result, Ok, Err, ℤ, refl, sym, ap, subst, ◌∙◌}
use Rattle.std.proofs.lemmas.Bool.{and_parts, and_from}
use Rattle.wh_events.specs.declared.event.Event.{Event}
use Rattle.wh_events.specs.declared.event.Payload.{Payload}
use Rattle.wh_workflow.specs.declared.job.Job.{Job}
use Rattle.wh_workflow.specs.declared.job.Job.TheVariants as jobs
use Rattle.wh_workflow.specs.declared.fault.WorkflowFault.{WorkflowFault}
use Rattle.wh_workflow.specs.Counting.{ticked}
use Rattle.wh_workflow.specs.Law.{Program}
use Rattle.wh_workflow.specs.Names.{mismatch}
use Rattle.wh_workflow.specs.Scripts.{ActivationContext, reduced}
use Rattle.wh_workflow.specs.Activations.{Progress, activate}
use Rattle.wh_replay.specs.Replays.{ReplayResult, begin_at, workflow_of}
use Rattle.wh_rows.specs.declared.row.RowsState.{RowsState}
use Rattle.wh_rows.specs.Tables.{Definition}
use Rattle.wh_rows.specs.Rows.{program}
use Rattle.wh_possible_runs.specs.declared.thing.ThingState.{ThingState}
use Rattle.wh_possible_runs.specs.Situations.{ThingName, Situation}
use Rattle.wh_promise_check.specs.Kept.{input_of}
use Rattle.wh_possible_histories.specs.Tellings.{takes, all_take, in_order, are_known, jobs_fit, may_come}
use Rattle.wh_possible_histories.specs.NextTasks.{starts_in, begun_so}

-- the same jobs, apart from the input of a start
pub data Sees : List Job → List Job → Type 0 where
  sees_same : (list : List Job) → Sees list list
  sees_start : (workflow : List ℕ) (input other : List Payload) (rest : List Job)
      → Sees (jobs.Start workflow input ∷ rest) (jobs.Start workflow other ∷ rest)

start_takes : (workflow : List ℕ) (input other : List Payload) (rest : List Job) (names : List ThingName) (list : List ThingState)
    → all_take names list (jobs.Start workflow input ∷ rest) ≡ all_take names list (jobs.Start workflow other ∷ rest)
start_takes workflow input other rest [] [] = refl
start_takes workflow input other rest [] (one ∷ list) = refl
start_takes workflow input other rest (name ∷ names) [] = refl
start_takes workflow input other rest (name ∷ names) (one ∷ list) =
    ap (λ b. takes name one.phase one.started rest && b) (start_takes workflow input other rest names list)

start_begun : (workflow : List ℕ) (input other : List Payload) (rest : List Job) (test : ThingName → Bool) (names : List ThingName)
    (list : List ThingState)
    → begun_so test names list (jobs.Start workflow input ∷ rest) ≡ begun_so test names list (jobs.Start workflow other ∷ rest)
start_begun workflow input other rest test [] [] = refl
start_begun workflow input other rest test [] (one ∷ list) = refl
start_begun workflow input other rest test (name ∷ names) [] = refl
start_begun workflow input other rest test (name ∷ names) (one ∷ list) =
    ap (λ b. (not (one.started || starts_in name rest) || test name) && b)
    (start_begun workflow input other rest test names list)

-- a server may give both or none of them
pub sees_come : (list shown : List Job) → Sees list shown → (names : List ThingName) (begun : Bool) (now : Situation)
    → may_come names begun now list ≡ true → may_come names begun now shown ≡ true
sees_come list shown (sees_same same) names begun now come = come
sees_come list shown (sees_start workflow input other rest) names begun now come =
    let parts = and_parts (all_take names now.things (jobs.Start workflow input ∷ rest))
    (in_order now.takes_signals (jobs.Start workflow input ∷ rest)
    && (are_known names (jobs.Start workflow input ∷ rest) && jobs_fit begun (jobs.Start workflow input ∷ rest))) come in
    and_from _ _ (sym (start_takes workflow input other rest names now.things) ∙ parts.0) (by begun parts.1)
  where
    more : List Payload → Bool → Bool
    more input begun =
        in_order now.takes_signals (jobs.Start workflow input ∷ rest)
        && (are_known names (jobs.Start workflow input ∷ rest) && jobs_fit begun (jobs.Start workflow input ∷ rest))

    by : (begun : Bool) → more input begun ≡ true → more other begun ≡ true
    by true is = is
    by false is = is

pub sees_begun : (list shown : List Job) → Sees list shown → (test : ThingName → Bool) (names : List ThingName) (things : List ThingState)
    → begun_so test names things list ≡ true → begun_so test names things shown ≡ true
sees_begun list shown (sees_same same) test names things begun = begun
sees_begun list shown (sees_start workflow input other rest) test names things begun =
    subst (λ b. b ≡ true) (start_begun workflow input other rest test names things) begun

-- the states stand for each other, and the commands are recorded alike
pub record Like {S : Type 0} (context : ActivationContext) (Stood : S → RowsState → Type 0) (one : Progress S)
    (other : Progress RowsState) : Type 0 where
  pub state : Stood one.state other.state
  pub records : (history recorded : List Event)
      → mismatch history (reduced context one.script.issued) recorded
      ≡ mismatch history (reduced context other.script.issued) recorded

-- both activations succeed so, or both fail with the same fault
abbrev pub AreAlike : {S : Type 0} → ActivationContext → (S → RowsState → Type 0) → Result (Progress S) WorkflowFault
    → Result (Progress RowsState) WorkflowFault → Type 0
AreAlike context Stood (Ok one) (Ok other) = Like context Stood one other
AreAlike context Stood (Err one) (Err other) = one ≡ other
AreAlike context Stood _ _ = ⊥

-- each activation of the program in a task of the history is like one of a run of the table, in which the input of a
-- start may differ. Only the first task starts the run, by the first event.
abbrev pub Follows : {S : Type 0} → Program S → Definition → List Event → (Bool → S → RowsState → Type 0) → Type 0
Follows {S} code table history Stood =
    (context : ActivationContext) (begun : Bool) (time : ℤ) (list : List Job) (current : ReplayResult S) (run : RowsState)
    → Stood begun current.state run → jobs_fit begun list ≡ true
    → (begun ≡ false → (rest : List Job) × (list ≡ jobs.Start (workflow_of history) (input_of history) ∷ rest))
    → (shown : List Job) × Sees list shown
    × AreAlike context (Stood true) (activate code context (jobs.Time time ∷ list) (begin_at current))
    (activate (program table) context shown
    (record { state = run; script = record { settled = current.settled; issued = [] }; meter = ticked current.meter }))
