-- A table that the decision shows never gets stuck.
use Rattle.std.proofs.Common.{◌≡◌, ℕ, Bool, true, false, not, ◌&&◌, ◌||◌, ◌⊎◌, List, [], ◌∷◌, ◌++◌, length, refl, ap, ap₂, sym, subst, ◌∙◌, inl, inr, Option, Some, None}
use Rattle.std.specs.Prelude.{ltb, nat_eq, bytes_eq, codes, if◌then◌else◌}
use Rattle.std.proofs.lemmas.Bool.{and_parts, eqb-true, not-true, and_from, not_from_false}
use Rattle.wh_events.specs.declared.event.Payload.{Payload}
use Rattle.wh_workflow.specs.declared.job.Job.{Job}
use Rattle.wh_workflow.specs.declared.job.Job.TheVariants as jobs
use Rattle.wh_rows.specs.declared.row.JobPattern.TheVariants as patterns
use Rattle.wh_rows.specs.declared.row.Counters.{Counters}
use Rattle.wh_rows.specs.declared.row.RowsState.{RowsState}
use Rattle.wh_rows.specs.Tables.{JobPattern, Row, Definition}
use Rattle.wh_rows.specs.Rows.{is_for_job, is_for_state, is_start, all_hold, row_for, seen_by, initial, commands_of, row_gives, after_row, after_found, after_effects, gives, after}
use Rattle.wh_rows.specs.Rules.{covers}
use Rattle.wh_rows.specs.Deciding.{place, next_number, next_place, line, lines, is_among, text_of, same_counts, asks_within, all_within, are_cuts, case_of, cuts_of}
use Rattle.wh_rows.proofs.Places.{places_tell}
use Rattle.wh_rows.proofs.Sound.{no_row_at}
use Rattle.wh_rows.proofs.Patterns.{is_none, not_among}
use Rattle.wh_rows.proofs.Cuts.{cut, zero_cut, Cuts, cuts_from, all_hold_cut, effects_cut, effects_at}
use Rattle.wh_possible_runs.specs.Configurations.{Config, is_ready, stays, led, listed, leads, starts, put_before, all_next_things, with_each, next_tasks, steps, begun}
use Rattle.wh_possible_runs.specs.PossibleRuns.{Move, GivesJob, NextTask, moves_on, follow, follow_run, IsStuckFree}
use Rattle.wh_possible_runs.specs.Searches.{Verdict, NeverStuck, GetsStuck, NotDecided, verdict_by, verdict, found}
use Rattle.wh_possible_runs.specs.Shown.{phase_number, touch_number, same_bool, same_thing_state, same_things, same_config, has, each, is_closed, is_plain, all_plain_acts, are_plain, plain_names, shows, names_of, ShownIsStuckFree}
use Rattle.wh_possible_runs.specs.Situations.{Situation, ThingName, keep_first, all_told, next_things, begin_with, next_task, new_situation, after_pattern, after_job, after_commands}
use Rattle.wh_possible_runs.specs.Things.{next_thing}
use Rattle.wh_possible_runs.specs.declared.thing.Phase.{Phase}
use Rattle.wh_possible_runs.specs.declared.thing.Phase.TheVariants.{Absent, Open, AskedToCancel, Ended, EndTold}
use Rattle.wh_possible_runs.specs.declared.thing.ThingState.{ThingState}
use Rattle.wh_possible_runs.specs.declared.thing.Touch.{Touch}
use Rattle.wh_possible_runs.specs.declared.thing.Touch.TheVariants.{Untouched, Opened, Withdrawn, Canceled}
use Rattle.wh_possible_runs.proofs.Hearing.{after_alike, commands_are, each_first, each_append, some_is, keep_some, unmatched_sound}

-- equality of configurations

phase_of : ℕ → Phase
phase_of n = elim (nat_eq n 0) [
  | true ↦ Absent
  | false ↦ elim (nat_eq n 1) [
    | true ↦ Open
    | false ↦ elim (nat_eq n 2) [ true ↦ AskedToCancel | false ↦ elim (nat_eq n 3) [ true ↦ Ended | false ↦ EndTold ] ]
  ]
]

phase_back : (phase : Phase) → phase_of (phase_number phase) ≡ phase
unfolding phase_of
phase_back Absent = refl
phase_back Open = refl
phase_back AskedToCancel = refl
phase_back Ended = refl
phase_back EndTold = refl

touch_of : ℕ → Touch
touch_of n = elim (nat_eq n 0) [
  | true ↦ Untouched
  | false ↦ elim (nat_eq n 1) [ true ↦ Opened | false ↦ elim (nat_eq n 2) [ true ↦ Withdrawn | false ↦ Canceled ] ]
]

touch_back : (touch : Touch) → touch_of (touch_number touch) ≡ touch
unfolding touch_of
touch_back Untouched = refl
touch_back Opened = refl
touch_back Withdrawn = refl
touch_back Canceled = refl

pub bool_is : (one other : Bool) → same_bool one other ≡ true → other ≡ one
bool_is true other same = same
bool_is false other same = not-true other same

pub phase_is : (one other : Phase) → nat_eq (phase_number one) (phase_number other) ≡ true → other ≡ one
phase_is one other same =
    sym (phase_back other) ∙ ap phase_of (sym (eqb-true (phase_number one) (phase_number other) same)) ∙ phase_back one

pub touch_is : (one other : Touch) → nat_eq (touch_number one) (touch_number other) ≡ true → other ≡ one
touch_is one other same =
    sym (touch_back other) ∙ ap touch_of (sym (eqb-true (touch_number one) (touch_number other) same)) ∙ touch_back one

thing_state_is : (one other : ThingState) → same_thing_state one other ≡ true → other ≡ one
thing_state_is one other same =
    let outer : (nat_eq (phase_number one.phase) (phase_number other.phase) ≡ true)
    × ((nat_eq (touch_number one.touch) (touch_number other.touch) && same_bool one.started other.started) ≡ true) =
    and_parts (nat_eq (phase_number one.phase) (phase_number other.phase))
    (nat_eq (touch_number one.touch) (touch_number other.touch) && same_bool one.started other.started) same in
    let inner : (nat_eq (touch_number one.touch) (touch_number other.touch) ≡ true) × (same_bool one.started other.started ≡ true) =
    and_parts (nat_eq (touch_number one.touch) (touch_number other.touch)) (same_bool one.started other.started) outer.1 in
    rw (sym (phase_is one.phase other.phase outer.0), sym (touch_is one.touch other.touch inner.0), sym (bool_is one.started other.started inner.1)) refl

things_same_are : (one other : List ThingState) → same_things one other ≡ true → other ≡ one
things_same_are [] [] same = refl
things_same_are [] (other ∷ others) same = cc
things_same_are (one ∷ rest) [] same = cc
things_same_are (one ∷ rest) (other ∷ others) same = by (things_same_are rest others) (same_thing_state one other) refl same
  where
    by : (same_things rest others ≡ true → others ≡ rest) → (t : Bool) → same_thing_state one other ≡ t
        → ◌≡◌ {A = Bool} (elim t [ true ↦ same_things rest others | false ↦ false ]) true
        → ◌≡◌ {A = List ThingState} (other ∷ others) (one ∷ rest)
    by later true p same = ap₂ (λ (x : ThingState) (xs : List ThingState). x ∷ xs) (thing_state_is one other p) (later same)
    by later false p same = cc

counts_are : (one other : Counters) → same_counts one other ≡ true → other ≡ one
counts_are one other same =
    let halves : ((nat_eq one.a other.a && nat_eq one.b other.b) ≡ true) × ((nat_eq one.c other.c && nat_eq one.d other.d) ≡ true) =
    and_parts (nat_eq one.a other.a && nat_eq one.b other.b) (nat_eq one.c other.c && nat_eq one.d other.d) same in
    let first : (nat_eq one.a other.a ≡ true) × (nat_eq one.b other.b ≡ true) = and_parts (nat_eq one.a other.a) (nat_eq one.b other.b) halves.0 in
    let second : (nat_eq one.c other.c ≡ true) × (nat_eq one.d other.d ≡ true) = and_parts (nat_eq one.c other.c) (nat_eq one.d other.d) halves.1 in
    rw (sym (eqb-true one.a other.a first.0), sym (eqb-true one.b other.b first.1), sym (eqb-true one.c other.c second.0), sym (eqb-true one.d other.d second.1)) refl

pub config_is : (one other : Config) → same_config one other ≡ true → other ≡ one
config_is one other same = by (nat_eq one.state other.state) refl same
  where
    A : Bool
    A = same_bool one.closed other.closed && same_counts one.counts other.counts

    B : Bool
    B = same_bool one.situation.awaits_version other.situation.awaits_version && same_bool one.situation.takes_signals other.situation.takes_signals

    C : Bool
    C = same_bool one.situation.faulty other.situation.faulty && same_things one.situation.things other.situation.things

    by : (t : Bool) → nat_eq one.state other.state ≡ t
        → ◌≡◌ {A = Bool} (elim t [
          | true ↦ (same_bool one.closed other.closed && same_counts one.counts other.counts)
              && ((same_bool one.situation.awaits_version other.situation.awaits_version && same_bool one.situation.takes_signals other.situation.takes_signals)
              && (same_bool one.situation.faulty other.situation.faulty && same_things one.situation.things other.situation.things))
          | false ↦ false
        ]) true → other ≡ one
    by true p same =
        let ab = and_parts (same_bool one.closed other.closed && same_counts one.counts other.counts)
        ((same_bool one.situation.awaits_version other.situation.awaits_version && same_bool one.situation.takes_signals other.situation.takes_signals)
        && (same_bool one.situation.faulty other.situation.faulty && same_things one.situation.things other.situation.things)) same in
        let a = and_parts (same_bool one.closed other.closed) (same_counts one.counts other.counts) ab.0 in
        let bc = and_parts (same_bool one.situation.awaits_version other.situation.awaits_version && same_bool one.situation.takes_signals other.situation.takes_signals)
        (same_bool one.situation.faulty other.situation.faulty && same_things one.situation.things other.situation.things) ab.1 in
        let b = and_parts (same_bool one.situation.awaits_version other.situation.awaits_version) (same_bool one.situation.takes_signals other.situation.takes_signals) bc.0 in
        let c = and_parts (same_bool one.situation.faulty other.situation.faulty) (same_things one.situation.things other.situation.things) bc.1 in
        rw (
          eqb-true one.state other.state p,
          sym (bool_is one.closed other.closed a.0),
          sym (counts_are one.counts other.counts a.1),
          sym (bool_is one.situation.awaits_version other.situation.awaits_version b.0),
          sym (bool_is one.situation.takes_signals other.situation.takes_signals b.1),
          sym (bool_is one.situation.faulty other.situation.faulty c.0),
          sym (things_same_are one.situation.things other.situation.things c.1),
        ) refl
    by false p same = cc

-- the next task

abbrev IsIn : List ThingState → List (List ThingState) → Type 0
IsIn one [] = ⊥
IsIn one (other ∷ rest) = (other ≡ one) ⊎ IsIn one rest

in_left : (one : List ThingState) (first second : List (List ThingState)) → IsIn one first → IsIn one (first ++ second)
in_left one [] second is = absurd is
in_left one (other ∷ rest) second (inl is) = inl is
in_left one (other ∷ rest) second (inr is) = inr (in_left one rest second is)

in_right : (one : List ThingState) (first second : List (List ThingState)) → IsIn one second → IsIn one (first ++ second)
in_right one [] second is = is
in_right one (other ∷ rest) second is = inr (in_right one rest second is)

put_in : (one : ThingState) (list : List ThingState) (lists : List (List ThingState)) → IsIn list lists
    → IsIn (one ∷ list) (put_before (Some one) lists)
put_in one list [] is = absurd is
put_in one list (other ∷ rest) (inl is) = inl (ap (λ (xs : List ThingState). one ∷ xs) is)
put_in one list (other ∷ rest) (inr is) = inr (put_in one list rest is)

next_is_among : (names : List ThingName) (flags : List Bool) (now next : List ThingState) → next_things names flags now ≡ Some next
    → IsIn next (all_next_things names now)
next_is_among (name ∷ names) (flag ∷ flags) (one ∷ rest) next is = by (next_is_among names flags rest) (next_thing flag name.0 one) refl is
  where
    choose : (flag : Bool) (lists : List (List ThingState)) → IsIn next (put_before (next_thing flag name.0 one) lists)
        → IsIn next (put_before (next_thing false name.0 one) lists ++ put_before (next_thing true name.0 one) lists)
    choose false lists there = in_left next (put_before (next_thing false name.0 one) lists) (put_before (next_thing true name.0 one) lists) there
    choose true lists there = in_right next (put_before (next_thing false name.0 one) lists) (put_before (next_thing true name.0 one) lists) there

    by : ((tail : List ThingState) → next_things names flags rest ≡ Some tail → IsIn tail (all_next_things names rest))
        → (x : Option ThingState) → next_thing flag name.0 one ≡ x
        → ◌≡◌ {A = Option (List ThingState)} (elim x [ Some next ↦ keep_first next (next_things names flags rest) | None ↦ None ]) (Some next)
        → IsIn next (all_next_things (name ∷ names) (one ∷ rest))
    by later None p is = cc
    by later (Some head) p is =
        let tail : (r : List ThingState) × (next_things names flags rest ≡ Some r) × (next ≡ head ∷ r) =
        keep_some head (next_things names flags rest) next is in
        choose flag (all_next_things names rest)
        (subst (λ (x : Option ThingState). IsIn next (put_before x (all_next_things names rest))) (sym p)
        (subst (λ list. IsIn list (put_before (Some head) (all_next_things names rest))) (sym tail.2)
        (put_in head tail.0 (all_next_things names rest) (later tail.0 tail.1))))
next_is_among (name ∷ names) [] (one ∷ rest) next is = cc
next_is_among [] flags (one ∷ rest) next is = cc
next_is_among (name ∷ names) [] [] next is = inl (some_is [] next is)
next_is_among (name ∷ names) (flag ∷ flags) [] next is = inl (some_is [] next is)
next_is_among [] flags [] next is = inl (some_is [] next is)

with_each_sound : (test : Config → Bool) (one : Config) (lists : List (List ThingState)) (list : List ThingState) → IsIn list lists
    → each test (with_each one lists) ≡ true → test (stays one (record one.situation { things = list; takes_signals = true })) ≡ true
with_each_sound test one [] list is pass = absurd is
with_each_sound test one (other ∷ rest) list (inl is) pass =
    subst (λ (list : List ThingState). test (stays one (record one.situation { things = list; takes_signals = true })) ≡ true) is
    (each_first test (stays one (record one.situation { things = other; takes_signals = true })) (with_each one rest) pass).0
with_each_sound test one (other ∷ rest) list (inr is) pass =
    with_each_sound test one rest list is
    (each_first test (stays one (record one.situation { things = other; takes_signals = true })) (with_each one rest) pass).1

pub next_sound : (test : Config → Bool) (names : List ThingName) (ended : List Bool) (one : Config) (next : Situation)
    → next_task names ended one.situation ≡ Some next → each test (next_tasks names one) ≡ true → test (stays one next) ≡ true
next_sound test names ended one next is pass = by (all_told one.situation.things && not one.situation.awaits_version) is pass
  where
    by_cut : (x : Option (List ThingState)) → next_things names ended one.situation.things ≡ x → begin_with one.situation x ≡ Some next
        → each test (with_each one (all_next_things names one.situation.things)) ≡ true → test (stays one next) ≡ true
    by_cut None p is pass = cc
    by_cut (Some list) p is pass =
        subst (λ situation. test (stays one situation) ≡ true) (some_is (record one.situation { things = list; takes_signals = true }) next is)
        (with_each_sound test one (all_next_things names one.situation.things) list (next_is_among names ended one.situation.things list p) pass)

    by : (t : Bool)
        → ◌≡◌ {A = Option Situation} (elim t [ true ↦ begin_with one.situation (next_things names ended one.situation.things) | false ↦ None ]) (Some next)
        → each test (elim t [ true ↦ with_each one (all_next_things names one.situation.things) | false ↦ [] ]) ≡ true
        → test (stays one next) ≡ true
    by true is pass = by_cut (next_things names ended one.situation.things) refl is pass
    by false is pass = cc

pub ready_test : (closed is holds : Bool) → ((not closed && is) && holds)
    ≡ elim closed [ true ↦ false | false ↦ elim is [ true ↦ holds | false ↦ false ] ]
ready_test true is holds = refl
ready_test false true holds = refl
ready_test false false holds = refl

module _ (table : Definition) (names : List ThingName) (tops : Counters) (fine : Cuts table.bounds tops) where
  -- the configuration of a run
  abbrev pub config_at : RowsState → Situation → Config
  config_at state now =
      record { state = place state.at table.rows; closed = state.closed; counts = cut tops state.counts; situation = now }

  -- the configuration after the row that applies, if there is one
  abbrev config_after : Option Row → RowsState → Job → Situation → Config
  config_after row state job now =
      config_at (after_found row table.bounds state job) (after_commands names (row_gives row state job) now)

  next_is : (row : Row) (state : RowsState) (job : Job)
      → place (after_row row table.bounds state job).at table.rows ≡ next_place (next_number row.next table.rows) (place state.at table.rows)
  next_is row state job = by (bytes_eq row.next (codes "same"))
    where
      by : (t : Bool) → place (if t then (after_effects row.effects table.bounds state job).at else row.next) table.rows
          ≡ next_place (elim t [ true ↦ None | false ↦ Some (place row.next table.rows) ]) (place state.at table.rows)
      by true = ap (λ name. place name table.rows) (effects_at row.effects table.bounds state job)
      by false = refl

  pub led_is : (row : Row) (state : RowsState) (job : Job) (begun now : Situation) → all_plain_acts row.gives ≡ true
      → led names tops (line table.rows row) (config_at state begun) now
      ≡ config_at (after_row row table.bounds state job) (after_commands names (commands_of row.gives state job) now)
  led_is row state job begun now plain =
      rw (commands_are names row.gives state job now plain, next_is row state job, effects_cut row.effects table.bounds tops state job fine) refl

  -- a line is ready exactly if its row fits apart from the job
  pub ready_is : (row : Row) (state : RowsState) (now : Situation)
      → (ltb (place row.state table.rows) (length table.rows) && asks_within tops row.conditions) ≡ true
      → (is_for_state row.state state && all_hold row.conditions state.counts) ≡ is_ready (line table.rows row) (config_at state now)
  ready_is row state now fit =
      let parts : (ltb (place row.state table.rows) (length table.rows) ≡ true) × (asks_within tops row.conditions ≡ true) =
      and_parts (ltb (place row.state table.rows) (length table.rows)) (asks_within tops row.conditions) fit in
      ap₂ (λ (is holds : Bool). (not state.closed && (bytes_eq row.state (codes "any") || is)) && holds)
      (sym (places_tell row.state state.at table.rows parts.0)) (sym (all_hold_cut row.conditions tops state.counts parts.1))
      ∙ ready_test state.closed (bytes_eq row.state (codes "any") || nat_eq (place row.state table.rows) (place state.at table.rows))
      (all_hold row.conditions (cut tops state.counts))

  -- the configuration after a job is among those that are computed
  leads_sound : (test : Config → Bool) (rest : List Row) (passed : List JobPattern) (state : RowsState) (job : Job) (now next : Situation)
      → all_within (length table.rows) tops (lines table.rows rest) ≡ true → are_plain rest ≡ true → plain_names names ≡ true
      → is_none passed state job ≡ true → is_start job ≡ false → after_job names job now ≡ Some next
      → each test (leads names tops (lines table.rows rest) passed (config_at state now)) ≡ true
      → test (config_after (row_for rest state job) state job next) ≡ true
  unfolding row_for
  leads_sound test [] passed state job now next fit plain named none other is pass =
      unmatched_sound test (stays (config_at state now)) names passed now next state job none named other is pass
  leads_sound test (row ∷ rest) passed state job now next fit plain named none other is pass =
      let parts : ((ltb (place row.state table.rows) (length table.rows) && asks_within tops row.conditions) ≡ true)
      × (all_within (length table.rows) tops (lines table.rows rest) ≡ true) =
      and_parts (ltb (place row.state table.rows) (length table.rows) && asks_within tops row.conditions)
      (all_within (length table.rows) tops (lines table.rows rest)) fit in
      by (λ passed none. leads_sound test rest passed state job now next parts.1 plains.1 named none other is)
      (is_for_state row.state state) (all_hold row.conditions state.counts) (is_for_job row.job state job) refl
      (is_among row.job passed) refl
      (subst (λ is. each test (chosen is (is_among row.job passed)) ≡ true) (sym (ready_is row state now parts.0)) pass)
    where
      plains : ((is_plain (text_of row.job) && all_plain_acts row.gives) ≡ true) × (are_plain rest ≡ true)
      plains = and_parts (is_plain (text_of row.job) && all_plain_acts row.gives) (are_plain rest) plain

      plain_row : (is_plain (text_of row.job) ≡ true) × (all_plain_acts row.gives ≡ true)
      plain_row = and_parts (is_plain (text_of row.job)) (all_plain_acts row.gives) plains.0

      L : List JobPattern → List Config
      L passed = leads names tops (lines table.rows rest) passed (config_at state now)

      J : List Config
      J = listed (led names tops (line table.rows row) (config_at state now)) (after_pattern names row.job now)

      chosen : Bool → Bool → List Config
      chosen is it = elim is [ true ↦ elim it [ true ↦ L passed | false ↦ J ++ L (row.job ∷ passed) ] | false ↦ L passed ]

      taken : (x : Option Situation) → x ≡ Some next
          → each test (listed (led names tops (line table.rows row) (config_at state now)) x) ≡ true
          → test (led names tops (line table.rows row) (config_at state now) next) ≡ true
      taken None p pass = cc
      taken (Some one) p pass =
          subst (λ situation. test (led names tops (line table.rows row) (config_at state now) situation) ≡ true) (some_is one next p)
          (each_first test (led names tops (line table.rows row) (config_at state now) one) [] pass).0

      by : ((passed : List JobPattern) → is_none passed state job ≡ true → each test (L passed) ≡ true
          → test (config_after (row_for rest state job) state job next) ≡ true)
          → (is holds : Bool) (on : Bool) → is_for_job row.job state job ≡ on → (it : Bool) → is_among row.job passed ≡ it
          → each test (chosen (is && holds) it) ≡ true
          → test (config_after (if (is && on) && holds then Some row else row_for rest state job) state job next) ≡ true
      by later false holds on p it q pass = later passed none pass
      by later true false true p it q pass = later passed none pass
      by later true false false p it q pass = later passed none pass
      by later true true true p true q pass = absurd (not_among row.job passed state job none q p)
      by later true true true p false q pass =
          subst (λ one. test one ≡ true) (led_is row state job now next plain_row.1)
          (taken (after_pattern names row.job now) (after_alike names row.job state job now plain_row.0 p ∙ is)
          (each_append test J (L (row.job ∷ passed)) pass).0)
      by later true true false p true q pass = later passed none pass
      by later true true false p false q pass =
          later (row.job ∷ passed) (and_from (not (is_for_job row.job state job)) (is_none passed state job) (not_from_false (is_for_job row.job state job) p) none)
          (each_append test J (L (row.job ∷ passed)) pass).1

  pub on_start : (one : JobPattern) (state : RowsState) (workflow : List ℕ) (input : List Payload)
      → is_for_job one state (jobs.Start workflow input) ≡ covers one patterns.Start
  on_start patterns.Start state workflow input = refl
  on_start (patterns.Signal _) state workflow input = refl
  on_start patterns.CancelRequested state workflow input = refl
  on_start (patterns.Done _) state workflow input = refl
  on_start (patterns.NotDone _) state workflow input = refl
  on_start (patterns.Fired _) state workflow input = refl
  on_start (patterns.ChildStarted _) state workflow input = refl
  on_start (patterns.ChildDone _) state workflow input = refl
  on_start (patterns.ChildCanceled _) state workflow input = refl
  on_start (patterns.ChildNotDone _) state workflow input = refl
  on_start (patterns.Version _ _) state workflow input = refl
  on_start (patterns.AnyVersion _) state workflow input = refl

  -- the configuration after the start is among those that are computed
  starts_sound : (test : Config → Bool) (rest : List Row) (state : RowsState) (workflow : List ℕ) (input : List Payload) (now : Situation)
      → all_within (length table.rows) tops (lines table.rows rest) ≡ true → are_plain rest ≡ true
      → each test (starts names tops (lines table.rows rest) (config_at state now)) ≡ true
      → test (config_after (row_for rest state (jobs.Start workflow input)) state (jobs.Start workflow input) now) ≡ true
  unfolding row_for
  starts_sound test [] state workflow input now fit plain pass = (each_first test (config_at state now) [] pass).0
  starts_sound test (row ∷ rest) state workflow input now fit plain pass =
      let parts : ((ltb (place row.state table.rows) (length table.rows) && asks_within tops row.conditions) ≡ true)
      × (all_within (length table.rows) tops (lines table.rows rest) ≡ true) =
      and_parts (ltb (place row.state table.rows) (length table.rows) && asks_within tops row.conditions)
      (all_within (length table.rows) tops (lines table.rows rest)) fit in
      by (starts_sound test rest state workflow input now parts.1 plains.1)
      (is_for_state row.state state) (all_hold row.conditions state.counts) (is_for_job row.job state (jobs.Start workflow input))
      (subst (λ is. each test (chosen is) ≡ true)
      (sym (ap₂ (λ a b. a && b) (ready_is row state now parts.0) (on_start row.job state workflow input))) pass)
    where
      plains : ((is_plain (text_of row.job) && all_plain_acts row.gives) ≡ true) × (are_plain rest ≡ true)
      plains = and_parts (is_plain (text_of row.job) && all_plain_acts row.gives) (are_plain rest) plain

      plain_row : (is_plain (text_of row.job) ≡ true) × (all_plain_acts row.gives ≡ true)
      plain_row = and_parts (is_plain (text_of row.job)) (all_plain_acts row.gives) plains.0

      L : List Config
      L = starts names tops (lines table.rows rest) (config_at state now)

      J : Config
      J = led names tops (line table.rows row) (config_at state now) now

      chosen : Bool → List Config
      chosen is = elim is [ true ↦ J ∷ [] | false ↦ L ]

      by : (each test L ≡ true → test (config_after (row_for rest state (jobs.Start workflow input)) state (jobs.Start workflow input) now) ≡ true)
          → (is holds on : Bool) → each test (chosen ((is && holds) && on)) ≡ true
          → test (config_after (if (is && on) && holds then Some row else row_for rest state (jobs.Start workflow input)) state (jobs.Start workflow input) now) ≡ true
      by later false holds on pass = later pass
      by later true false true pass = later pass
      by later true false false pass = later pass
      by later true true false pass = later pass
      by later true true true pass =
          subst (λ one. test one ≡ true) (led_is row state (jobs.Start workflow input) now now plain_row.1) (each_first test J [] pass).0

  -- the input and the name that a start sets are no part of a configuration
  pub seen_stands : (state : RowsState) (job : Job) (now : Situation) → config_at state now ≡ config_at (seen_by table state job) now
  seen_stands state (jobs.Start _ _) now = refl
  seen_stands state _ now = refl

  module _ (known : Config → Bool) (fit : all_within (length table.rows) tops (lines table.rows table.rows) ≡ true)
      (plain : are_plain table.rows ≡ true) (named : plain_names names ≡ true)
      (good : (one : Config) → known one ≡ true
      → (one.situation.faulty ≡ false) × (each known (steps names tops (lines table.rows table.rows) one) ≡ true)) where
    -- from a known configuration on, no command is at fault
    never_on : (later : List Move) (state : RowsState) (now last : Situation) → moves_on later ≡ true
        → known (config_at state now) ≡ true → follow table names state now later ≡ Some last → last.faulty ≡ false
    never_on [] state now last on here is =
        subst (λ (situation : Situation). situation.faulty ≡ false) (some_is now last is) (good (config_at state now) here).0
    never_on (GivesJob job ∷ later) state now last on here is =
        by (never_on later) (after_job names job now) refl is
      where
        parts : (not (is_start job) ≡ true) × (moves_on later ≡ true)
        parts = and_parts (not (is_start job)) (moves_on later) on

        led_to : each known (leads names tops (lines table.rows table.rows) (patterns.Start ∷ []) (config_at (seen_by table state job) now)) ≡ true
        led_to =
            subst (λ one. each known (leads names tops (lines table.rows table.rows) (patterns.Start ∷ []) one) ≡ true) (seen_stands state job now)
            (each_append known (leads names tops (lines table.rows table.rows) (patterns.Start ∷ []) (config_at state now))
            (next_tasks names (config_at state now)) (good (config_at state now) here).1).0

        by : ((state : RowsState) (now last : Situation) → moves_on later ≡ true
            → known (config_at state now) ≡ true → follow table names state now later ≡ Some last → last.faulty ≡ false)
            → (x : Option Situation) → after_job names job now ≡ x
            → ◌≡◌ {A = Option Situation} (elim x [
              | Some next ↦ follow table names (after table state job) (after_commands names (gives table state job) next) later
              | None ↦ None
            ]) (Some last)
            → last.faulty ≡ false
        by further None p is = cc
        by further (Some next) p is =
            further (after table state job) (after_commands names (gives table state job) next) last parts.1
            (leads_sound known table.rows (patterns.Start ∷ []) (seen_by table state job) job now next fit plain named
            (and_from (not (is_start job)) true parts.0 refl) (not-true (is_start job) parts.0) p led_to) is
    never_on (NextTask ended ∷ later) state now last on here is =
        by (never_on later) (next_task names ended now) refl is
      where
        led_to : each known (next_tasks names (config_at state now)) ≡ true
        led_to =
            (each_append known (leads names tops (lines table.rows table.rows) (patterns.Start ∷ []) (config_at state now))
            (next_tasks names (config_at state now)) (good (config_at state now) here).1).1

        by : ((state : RowsState) (now last : Situation) → moves_on later ≡ true
            → known (config_at state now) ≡ true → follow table names state now later ≡ Some last → last.faulty ≡ false)
            → (x : Option Situation) → next_task names ended now ≡ x
            → ◌≡◌ {A = Option Situation} (elim x [ Some next ↦ follow table names state next later | None ↦ None ]) (Some last)
            → last.faulty ≡ false
        by further None p is = cc
        by further (Some next) p is =
            further state next last on (next_sound known names ended (config_at state now) next p led_to) is

  -- the configurations of a closed list are good
  has_good : (all : Config → Bool) (list : List Config) (one : Config)
      → is_closed names tops (lines table.rows table.rows) all list ≡ true → has list one ≡ true
      → (one.situation.faulty ≡ false) × (each all (steps names tops (lines table.rows table.rows) one) ≡ true)
  has_good all [] one closed there = cc
  has_good all (other ∷ rest) one closed there =
      by (has_good all rest one) other.situation.faulty refl (each all (steps names tops (lines table.rows table.rows) other)) refl closed
    where
      by_same : (t : Bool) → same_config one other ≡ t → ◌≡◌ {A = Bool} (elim t [ true ↦ true | false ↦ has rest one ]) true
          → (has rest one ≡ true → (one.situation.faulty ≡ false) × (each all (steps names tops (lines table.rows table.rows) one) ≡ true))
          → (other.situation.faulty ≡ false) × (each all (steps names tops (lines table.rows table.rows) other) ≡ true)
          → (one.situation.faulty ≡ false) × (each all (steps names tops (lines table.rows table.rows) one) ≡ true)
      by_same true p there later good =
          subst (λ (config : Config). (config.situation.faulty ≡ false) × (each all (steps names tops (lines table.rows table.rows) config) ≡ true))
          (config_is one other p) good
      by_same false p there later good = later there

      by : (is_closed names tops (lines table.rows table.rows) all rest ≡ true → has rest one ≡ true
          → (one.situation.faulty ≡ false) × (each all (steps names tops (lines table.rows table.rows) one) ≡ true))
          → (f : Bool) → other.situation.faulty ≡ f → (e : Bool) → each all (steps names tops (lines table.rows table.rows) other) ≡ e
          → ◌≡◌ {A = Bool} (elim f [
            | true ↦ false
            | false ↦ elim e [ true ↦ is_closed names tops (lines table.rows table.rows) all rest | false ↦ false ]
          ]) true
          → (one.situation.faulty ≡ false) × (each all (steps names tops (lines table.rows table.rows) one) ≡ true)
      by later true p e q closed = cc
      by later false p false q closed = cc
      by later false p true q closed = by_same (same_config one other) refl there (λ more. later closed more) (p, q)

pub cut_nothing : (table : Definition) (names : List ThingName) (tops : Counters) → begun names (place table.first table.rows) ≡ record {
  state = place table.first table.rows;
  closed = false;
  counts = cut tops (record { a = 0; b = 0; c = 0; d = 0 });
  situation = new_situation names;
}
cut_nothing table names tops = sym (rw (zero_cut tops.a, zero_cut tops.b, zero_cut tops.c, zero_cut tops.d) refl)

-- configurations that pass the test show that no run gets stuck once it starts
from_start : (table : Definition) (names : List ThingName) (tops : Counters) (all : List Config) → shows table names tops all ≡ true
    → (workflow : List ℕ) (input : List Payload) (later : List Move) (now : Situation) → moves_on later ≡ true
    → follow_run table names (GivesJob (jobs.Start workflow input) ∷ later) ≡ Some now → now.faulty ≡ false
from_start table names tops all good workflow input later now on is =
    let halves : (((are_cuts table.bounds tops && all_within (length table.rows) tops (lines table.rows table.rows))
    && (are_plain table.rows && plain_names names)) ≡ true)
    × ((each (has all) (starts names tops (lines table.rows table.rows) (begun names (place table.first table.rows)))
    && is_closed names tops (lines table.rows table.rows) (has all) all) ≡ true) =
    and_parts ((are_cuts table.bounds tops && all_within (length table.rows) tops (lines table.rows table.rows))
    && (are_plain table.rows && plain_names names))
    (each (has all) (starts names tops (lines table.rows table.rows) (begun names (place table.first table.rows)))
    && is_closed names tops (lines table.rows table.rows) (has all) all) good in
    let tests : ((are_cuts table.bounds tops && all_within (length table.rows) tops (lines table.rows table.rows)) ≡ true)
    × ((are_plain table.rows && plain_names names) ≡ true) =
    and_parts (are_cuts table.bounds tops && all_within (length table.rows) tops (lines table.rows table.rows))
    (are_plain table.rows && plain_names names) halves.0 in
    let within : (are_cuts table.bounds tops ≡ true) × (all_within (length table.rows) tops (lines table.rows table.rows) ≡ true) =
    and_parts (are_cuts table.bounds tops) (all_within (length table.rows) tops (lines table.rows table.rows)) tests.0 in
    let plains : (are_plain table.rows ≡ true) × (plain_names names ≡ true) =
    and_parts (are_plain table.rows) (plain_names names) tests.1 in
    let lists : (each (has all) (starts names tops (lines table.rows table.rows) (begun names (place table.first table.rows))) ≡ true)
    × (is_closed names tops (lines table.rows table.rows) (has all) all ≡ true) =
    and_parts (each (has all) (starts names tops (lines table.rows table.rows) (begun names (place table.first table.rows))))
    (is_closed names tops (lines table.rows table.rows) (has all) all) halves.1 in
    let fine : Cuts table.bounds tops = cuts_from table.bounds tops within.0 in
    let job : Job = jobs.Start workflow input in
    let first : each (has all) (starts names tops (lines table.rows table.rows) (config_at table names tops fine (initial table) (new_situation names))) ≡ true =
    subst (λ one. each (has all) (starts names tops (lines table.rows table.rows) one) ≡ true) (cut_nothing table names tops) lists.0 in
    never_on table names tops fine (has all) within.1 plains.0 plains.1
    (λ one there. has_good table names tops fine (has all) all one lists.1 there)
    later (after table (initial table) job) (after_commands names (gives table (initial table) job) (new_situation names)) now on
    (starts_sound table names tops fine (has all) table.rows (seen_by table (initial table) job) workflow input (new_situation names)
    within.1 plains.0 first)
    is

-- configurations that pass the test show that no run gets stuck
pub shown : ShownIsStuckFree
shown table names tops all good [] now on is = ap (λ (situation : Situation). situation.faulty) (sym (some_is (new_situation names) now is))
shown table names tops all good (GivesJob (jobs.Start workflow input) ∷ later) now on is =
    from_start table names tops all good workflow input later now on is
shown table names tops all good (GivesJob (jobs.Time time) ∷ later) now on is =
    shown table names tops all good later now on
    (subst (λ (found : Option Row). follow table names (after_found found table.bounds (initial table) (jobs.Time time))
    (after_commands names (row_gives found (initial table) (jobs.Time time)) (new_situation names)) later ≡ Some now)
    (no_row_at table.rows (initial table) time) is)
shown table names tops all good _ now on is = cc

verdict_shown : (table : Definition) (names : List ThingName) (tops : Counters) (all : List Config)
    → verdict_by table names tops all ≡ NeverStuck → IsStuckFree table names
verdict_shown table names tops all is = by (shows table names tops all) refl is
  where
    by : (t : Bool) → shows table names tops all ≡ t
        → ◌≡◌ {A = Verdict} (elim t [
          | true ↦ NeverStuck
          | false ↦ elim all [
            | [] ↦ NotDecided
            | one ∷ rest ↦ elim one.situation.faulty [ true ↦ GetsStuck one | false ↦ NotDecided ]
          ]
        ]) NeverStuck → IsStuckFree table names
    by true p is = shown table names tops all p
    by false p is = absurd (none all is)
      where
        of_fault : (one : Config) (t : Bool) → ◌≡◌ {A = Verdict} (elim t [ true ↦ GetsStuck one | false ↦ NotDecided ]) NeverStuck → ⊥
        of_fault one true is = cc
        of_fault one false is = cc

        none : (all : List Config) → ◌≡◌ {A = Verdict} (elim all [
          | [] ↦ NotDecided
          | one ∷ rest ↦ elim one.situation.faulty [ true ↦ GetsStuck one | false ↦ NotDecided ]
        ]) NeverStuck → ⊥
        none [] is = cc
        none (one ∷ rest) is = of_fault one one.situation.faulty is

-- a table with the verdict `Never` does not get stuck
pub never : (fuel : ℕ) (table : Definition) → verdict fuel table ≡ NeverStuck → IsStuckFree table (names_of table)
never fuel table is =
    verdict_shown table (names_of table) (cuts_of (case_of table))
    (found fuel (names_of table) (cuts_of (case_of table)) (lines table.rows table.rows) []
    (starts (names_of table) (cuts_of (case_of table)) (lines table.rows table.rows) (begun (names_of table) (place table.first table.rows)))) is
