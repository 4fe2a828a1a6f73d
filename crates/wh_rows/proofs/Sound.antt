-- A table without a fault keeps what it promises, whatever jobs come.
use Rattle.std.proofs.Common.{◌≡◌, ℕ, zero, suc, ◌+◌, ◌-◌, ◌<◌, ◌≤◌, ℤ, Bool, true, false, not, cond, ◌&&◌, ◌||◌, List, [], ◌∷◌, ◌++◌, length, refl, ap, ap₂, sym, subst, ◌∙◌, arith, Option, Some, None}
use Rattle.std.specs.Prelude.{leb, ltb, nat_eq, bytes_eq, codes, if◌then◌else◌}
use Rattle.std.proofs.lemmas.Bool.{and_parts, leb-true, eqb-true, not-true, and_from, not_from_false}
use Rattle.wh_events.specs.declared.event.Payload.{Payload}
use Rattle.wh_workflow.specs.declared.job.Job.{Job}
use Rattle.wh_workflow.specs.declared.job.Job.TheVariants as jobs
use Rattle.wh_rows.specs.declared.row.JobPattern.TheVariants as patterns
use Rattle.wh_rows.specs.declared.row.Counters.{Counters}
use Rattle.wh_rows.specs.declared.row.RowsState.{RowsState}
use Rattle.wh_rows.specs.Tables.{JobPattern, Row, Definition}
use Rattle.wh_rows.specs.Rows.{is_for_job, is_for_state, is_start, all_hold, row_for, seen_by, initial, commands_of, row_gives, after_row, after_found, after_effects, gives, after}
use Rattle.wh_rows.specs.Rules.{covers}
use Rattle.wh_rows.specs.Courses.{Happening, Comes, Gives, Completes, Fails, Cancels, ContinuesAsNew, Closes, Came, comes, gave, course, goes_on, begins}
use Rattle.wh_rows.specs.Watches.{Turn, Watch, Standing, new_standing, turn_for, turned, watched, Keeps}
use Rattle.wh_rows.specs.Promises.{Promise, PromisesAll, watch_of}
use Rattle.wh_rows.specs.Deciding.{Config, Tree, Leaf, Node, place, next_number, next_place, line, lines, is_among, job_turns, stays, is_ready, led, leads, starts, steps, same_counts, covered, key_of, has_under, has, each, is_closed, asks_within, all_within, are_cuts, begun, case_of, shows, PromiseFault, broken, fault_by, fault_at, reached, first_fault, cuts_of, promise_fault}
use Rattle.wh_rows.proofs.Places.{places_tell}
use Rattle.wh_rows.proofs.Patterns.{is_none, not_among}
use Rattle.wh_rows.proofs.Cuts.{cut, zero_cut, Cuts, cuts_from, all_hold_cut, effects_cut, effects_at}
use Rattle.wh_rows.proofs.Turns.{each_append, given_is, watched_append, watched_ahead, ahead, turns_sound}
use Rattle.wh_rows.proofs.Meant.{means}

ready_test : (closed is holds : Bool) → ((not closed && is) && holds)
    ≡ elim closed [ true ↦ false | false ↦ elim is [ true ↦ holds | false ↦ false ] ]
ready_test true is holds = refl
ready_test false true holds = refl
ready_test false false holds = refl

config_same : (other : Config) (state : ℕ) (closed : Bool) (counts : Counters) (at spent : ℕ)
    → other.state ≡ state → other.closed ≡ closed → other.counts ≡ counts → other.watch.at ≡ at → other.watch.spent ≡ spent
    → other ≡ record { state = state; closed = closed; counts = counts; watch = record { at = at; spent = spent } }
config_same other state closed counts at spent p q c w sum = rw (sym p, sym q, sym c, sym w, sym sum) refl

module _ (table : Definition) (tops : Counters) (turns : List Turn) (fine : Cuts table.bounds tops) where
  -- the configuration of a run and a watch
  abbrev stand_at : RowsState → Standing → Config
  stand_at state now =
      record { state = place state.at table.rows; closed = state.closed; counts = cut tops state.counts; watch = now }

  -- the standing of the watch after the job comes
  abbrev told : RowsState → Job → Standing → Standing
  told state job now = turned turns (λ what. comes what state job) now

  -- the configuration after the row that applies, if there is one
  abbrev then_at : Option Row → RowsState → Job → Standing → Config
  then_at row state job now =
      stand_at (after_found row table.bounds state job) (watched turns (told state job now) (gave (row_gives row state job)))

  next_is : (row : Row) (state : RowsState) (job : Job)
      → place (after_row row table.bounds state job).at table.rows ≡ next_place (next_number row.next table.rows) (place state.at table.rows)
  next_is row state job = by (bytes_eq row.next (codes "same"))
    where
      by : (t : Bool) → place (if t then (after_effects row.effects table.bounds state job).at else row.next) table.rows
          ≡ next_place (elim t [ true ↦ None | false ↦ Some (place row.next table.rows) ]) (place state.at table.rows)
      by true = ap (λ name. place name table.rows) (effects_at row.effects table.bounds state job)
      by false = refl

  led_is : (row : Row) (state : RowsState) (job : Job) (begun now : Standing)
      → led tops turns (line table.rows row) (stand_at state begun) now
      ≡ stand_at (after_row row table.bounds state job) (watched turns now (gave (commands_of row.gives state job)))
  led_is row state job begun now =
      rw (given_is turns row.gives state job now, next_is row state job, effects_cut row.effects table.bounds tops state job fine) refl

  -- a line is ready exactly if its row fits apart from the job
  ready_is : (row : Row) (state : RowsState) (now : Standing)
      → (ltb (place row.state table.rows) (length table.rows) && asks_within tops row.conditions) ≡ true
      → (is_for_state row.state state && all_hold row.conditions state.counts) ≡ is_ready (line table.rows row) (stand_at state now)
  ready_is row state now fit =
      let parts : (ltb (place row.state table.rows) (length table.rows) ≡ true) × (asks_within tops row.conditions ≡ true) =
      and_parts (ltb (place row.state table.rows) (length table.rows)) (asks_within tops row.conditions) fit in
      ap₂ (λ (is holds : Bool). (not state.closed && (bytes_eq row.state (codes "any") || is)) && holds)
      (sym (places_tell row.state state.at table.rows parts.0)) (sym (all_hold_cut row.conditions tops state.counts parts.1))
      ∙ ready_test state.closed (bytes_eq row.state (codes "any") || nat_eq (place row.state table.rows) (place state.at table.rows))
      (all_hold row.conditions (cut tops state.counts))

  -- the configuration after a job is among those that are computed
  leads_sound : (test : Config → Bool) (rest : List Row) (passed : List JobPattern) (state : RowsState) (job : Job) (now : Standing)
      → all_within (length table.rows) tops (lines table.rows rest) ≡ true → is_none passed state job ≡ true
      → each test (leads tops turns (lines table.rows rest) passed (stand_at state now)) ≡ true
      → test (then_at (row_for rest state job) state job now) ≡ true
  unfolding row_for
  leads_sound test [] passed state job now fit none pass =
      turns_sound test (stays (stand_at state now)) turns None passed state job now tt none pass
  leads_sound test (row ∷ rest) passed state job now fit none pass =
      let parts : ((ltb (place row.state table.rows) (length table.rows) && asks_within tops row.conditions) ≡ true)
      × (all_within (length table.rows) tops (lines table.rows rest) ≡ true) =
      and_parts (ltb (place row.state table.rows) (length table.rows) && asks_within tops row.conditions)
      (all_within (length table.rows) tops (lines table.rows rest)) fit in
      by (λ passed. leads_sound test rest passed state job now parts.1)
      (is_for_state row.state state) (all_hold row.conditions state.counts) (is_for_job row.job state job) refl
      (is_among row.job passed) refl
      (subst (λ is. each test (chosen is (is_among row.job passed)) ≡ true) (sym (ready_is row state now parts.0)) pass)
    where
      L : List JobPattern → List Config
      L passed = leads tops turns (lines table.rows rest) passed (stand_at state now)

      J : List Config
      J = job_turns (led tops turns (line table.rows row) (stand_at state now)) turns (Some row.job) passed now

      chosen : Bool → Bool → List Config
      chosen is it = elim is [ true ↦ elim it [ true ↦ L passed | false ↦ J ++ L (row.job ∷ passed) ] | false ↦ L passed ]

      by : ((passed : List JobPattern) → is_none passed state job ≡ true → each test (L passed) ≡ true
          → test (then_at (row_for rest state job) state job now) ≡ true)
          → (is holds : Bool) (on : Bool) → is_for_job row.job state job ≡ on → (it : Bool) → is_among row.job passed ≡ it
          → each test (chosen (is && holds) it) ≡ true
          → test (then_at (if (is && on) && holds then Some row else row_for rest state job) state job now) ≡ true
      by later false holds on p it q pass = later passed none pass
      by later true false true p it q pass = later passed none pass
      by later true false false p it q pass = later passed none pass
      by later true true true p true q pass = absurd (not_among row.job passed state job none q p)
      by later true true true p false q pass =
          subst (λ one. test one ≡ true) (led_is row state job now (told state job now))
          (turns_sound test (led tops turns (line table.rows row) (stand_at state now)) turns (Some row.job) passed state job now p none
          (each_append test J (L (row.job ∷ passed)) pass).0)
      by later true true false p true q pass = later passed none pass
      by later true true false p false q pass =
          later (row.job ∷ passed) (and_from (not (is_for_job row.job state job)) (is_none passed state job) (not_from_false (is_for_job row.job state job) p) none)
          (each_append test J (L (row.job ∷ passed)) pass).1

  on_start : (one : JobPattern) (state : RowsState) (workflow : List ℕ) (input : List Payload)
      → is_for_job one state (jobs.Start workflow input) ≡ covers one patterns.Start
  on_start patterns.Start state workflow input = refl
  on_start (patterns.Signal _) state workflow input = refl
  on_start patterns.CancelRequested state workflow input = refl
  on_start (patterns.Done _) state workflow input = refl
  on_start (patterns.NotDone _) state workflow input = refl
  on_start (patterns.Fired _) state workflow input = refl
  on_start (patterns.ChildStarted _) state workflow input = refl
  on_start (patterns.ChildDone _) state workflow input = refl
  on_start (patterns.ChildCanceled _) state workflow input = refl
  on_start (patterns.ChildNotDone _) state workflow input = refl
  on_start (patterns.Version _ _) state workflow input = refl
  on_start (patterns.AnyVersion _) state workflow input = refl

  -- the configuration after the start is among those that are computed
  starts_sound : (test : Config → Bool) (rest : List Row) (state : RowsState) (workflow : List ℕ) (input : List Payload) (now : Standing)
      → all_within (length table.rows) tops (lines table.rows rest) ≡ true
      → each test (starts tops turns (lines table.rows rest) (stand_at state now)) ≡ true
      → test (then_at (row_for rest state (jobs.Start workflow input)) state (jobs.Start workflow input) now) ≡ true
  unfolding row_for
  starts_sound test [] state workflow input now fit pass =
      turns_sound test (stays (stand_at state now)) turns (Some patterns.Start) [] state (jobs.Start workflow input) now refl refl pass
  starts_sound test (row ∷ rest) state workflow input now fit pass =
      let parts : ((ltb (place row.state table.rows) (length table.rows) && asks_within tops row.conditions) ≡ true)
      × (all_within (length table.rows) tops (lines table.rows rest) ≡ true) =
      and_parts (ltb (place row.state table.rows) (length table.rows) && asks_within tops row.conditions)
      (all_within (length table.rows) tops (lines table.rows rest)) fit in
      by (starts_sound test rest state workflow input now parts.1)
      (is_for_state row.state state) (all_hold row.conditions state.counts) (is_for_job row.job state (jobs.Start workflow input))
      (subst (λ is. each test (chosen is) ≡ true)
      (sym (ap₂ (λ a b. a && b) (ready_is row state now parts.0) (on_start row.job state workflow input))) pass)
    where
      L : List Config
      L = starts tops turns (lines table.rows rest) (stand_at state now)

      J : List Config
      J = job_turns (led tops turns (line table.rows row) (stand_at state now)) turns (Some patterns.Start) [] now

      chosen : Bool → List Config
      chosen is = elim is [ true ↦ J | false ↦ L ]

      by : (each test L ≡ true → test (then_at (row_for rest state (jobs.Start workflow input)) state (jobs.Start workflow input) now) ≡ true)
          → (is holds on : Bool) → each test (chosen ((is && holds) && on)) ≡ true
          → test (then_at (if (is && on) && holds then Some row else row_for rest state (jobs.Start workflow input)) state (jobs.Start workflow input) now) ≡ true
      by later false holds on pass = later pass
      by later true false true pass = later pass
      by later true false false pass = later pass
      by later true true false pass = later pass
      by later true true true pass =
          subst (λ one. test one ≡ true) (led_is row state (jobs.Start workflow input) now (told state (jobs.Start workflow input) now))
          (turns_sound test (led tops turns (line table.rows row) (stand_at state now)) turns (Some patterns.Start) [] state (jobs.Start workflow input) now refl refl pass)

  -- the input and the name that a start sets are no part of a configuration
  seen_stands : (state : RowsState) (job : Job) (now : Standing) → stand_at state now ≡ stand_at (seen_by table state job) now
  seen_stands state (jobs.Start _ _) now = refl
  seen_stands state _ now = refl

  -- a configuration keeps to the budget, and leads to known ones
  abbrev pub IsGood : ℕ → (Config → Bool) → Config → Type 0
  IsGood budget known one =
      (leb one.watch.spent budget ≡ true) × (each known (steps tops turns (lines table.rows table.rows) one) ≡ true)

  module _ (budget : ℕ) (all : Tree) where
    -- each configuration of a tree is good
    abbrev closed_tree : Tree → Bool
    closed_tree tree = is_closed tops (record { turns = turns; budget = budget }) (lines table.rows table.rows) all tree

    node_parts : (one : Config) (less more : Tree) → (key : ℕ) → closed_tree (Node key one less more) ≡ true
        → IsGood budget (has all) one × (closed_tree less ≡ true) × (closed_tree more ≡ true)
    node_parts one less more key good =
        by (leb one.watch.spent budget) (each (has all) (steps tops turns (lines table.rows table.rows) one)) (closed_tree less) good
      where
        by : (few led first : Bool)
            → ◌≡◌ {A = Bool} (elim few [
              | true ↦ elim led [
                | true ↦ elim first [ true ↦ closed_tree more | false ↦ false ]
                | false ↦ false
              ]
              | false ↦ false
            ]) true
            → ((few ≡ true) × (led ≡ true)) × (first ≡ true) × (closed_tree more ≡ true)
        by true true true good = ((refl, refl), refl, good)
        by true true false good = cc
        by true false first good = cc
        by false led first good = cc

    -- a configuration that covers another in the tree is good
    under_key : (key : ℕ) (one : Config) (tree : Tree) → has_under key one tree ≡ true → closed_tree tree ≡ true
        → (other : Config) × (covered one other ≡ true) × IsGood budget (has all) other
    under_key key one Leaf there good = cc
    under_key key one (Node other it less more) there good =
        let parts : IsGood budget (has all) it × (closed_tree less ≡ true) × (closed_tree more ≡ true) = node_parts it less more other good in
        by parts.0 (λ is. under_key key one less is parts.1) (λ is. under_key key one more is parts.2) (nat_eq key other) (ltb key other) there
      where
        by : IsGood budget (has all) it
            → (has_under key one less ≡ true → (other : Config) × (covered one other ≡ true) × IsGood budget (has all) other)
            → (has_under key one more ≡ true → (other : Config) × (covered one other ≡ true) × IsGood budget (has all) other)
            → (same below : Bool)
            → ◌≡◌ {A = Bool} (elim same [ true ↦ covered one it | false ↦ elim below [ true ↦ has_under key one less | false ↦ has_under key one more ] ]) true
            → (other : Config) × (covered one other ≡ true) × IsGood budget (has all) other
        by good first second true below there = (it, there, good)
        by good first second false true there = first there
        by good first second false false there = second there

  counts_same : (one other : Counters) → same_counts one other ≡ true → other ≡ one
  counts_same one other same =
      let halves : ((nat_eq one.a other.a && nat_eq one.b other.b) ≡ true) × ((nat_eq one.c other.c && nat_eq one.d other.d) ≡ true) =
      and_parts (nat_eq one.a other.a && nat_eq one.b other.b) (nat_eq one.c other.c && nat_eq one.d other.d) same in
      let first : (nat_eq one.a other.a ≡ true) × (nat_eq one.b other.b ≡ true) = and_parts (nat_eq one.a other.a) (nat_eq one.b other.b) halves.0 in
      let second : (nat_eq one.c other.c ≡ true) × (nat_eq one.d other.d ≡ true) = and_parts (nat_eq one.c other.c) (nat_eq one.d other.d) halves.1 in
      rw (sym (eqb-true one.a other.a first.0), sym (eqb-true one.b other.b first.1), sym (eqb-true one.c other.c second.0), sym (eqb-true one.d other.d second.1)) refl

  closed_same : (one other : Bool) → cond one other (not other) ≡ true → other ≡ one
  closed_same true other same = same
  closed_same false other same = not-true other same

  -- a configuration that covers another only may have spent more
  covering : (one other : Config) → covered one other ≡ true
      → (more : ℕ) × (other ≡ record { state = one.state; closed = one.closed; counts = one.counts; watch = ahead more one.watch })
  covering one other it =
      let outer : ((nat_eq one.state other.state && cond one.closed other.closed (not other.closed)) ≡ true)
      × ((same_counts one.counts other.counts && (nat_eq one.watch.at other.watch.at && leb one.watch.spent other.watch.spent)) ≡ true) =
      and_parts (nat_eq one.state other.state && cond one.closed other.closed (not other.closed))
      (same_counts one.counts other.counts && (nat_eq one.watch.at other.watch.at && leb one.watch.spent other.watch.spent)) it in
      let places : (nat_eq one.state other.state ≡ true) × (cond one.closed other.closed (not other.closed) ≡ true) =
      and_parts (nat_eq one.state other.state) (cond one.closed other.closed (not other.closed)) outer.0 in
      let rest : (same_counts one.counts other.counts ≡ true) × ((nat_eq one.watch.at other.watch.at && leb one.watch.spent other.watch.spent) ≡ true) =
      and_parts (same_counts one.counts other.counts) (nat_eq one.watch.at other.watch.at && leb one.watch.spent other.watch.spent) outer.1 in
      let watches : (nat_eq one.watch.at other.watch.at ≡ true) × (leb one.watch.spent other.watch.spent ≡ true) =
      and_parts (nat_eq one.watch.at other.watch.at) (leb one.watch.spent other.watch.spent) rest.1 in
      let p : one.state ≡ other.state = eqb-true one.state other.state places.0 in
      let q : other.closed ≡ one.closed = closed_same one.closed other.closed places.1 in
      let c : other.counts ≡ one.counts = counts_same one.counts other.counts rest.0 in
      let w : one.watch.at ≡ other.watch.at = eqb-true one.watch.at other.watch.at watches.0 in
      let few : one.watch.spent ≤ other.watch.spent = leb-true one.watch.spent other.watch.spent watches.1 in
      let sum : other.watch.spent ≡ one.watch.spent + (other.watch.spent - one.watch.spent) = omega (arith, few) in (
        other.watch.spent - one.watch.spent,
        config_same other one.state one.closed one.counts one.watch.at (one.watch.spent + (other.watch.spent - one.watch.spent)) (sym p) q c (sym w) sum,
      )

  -- the configuration of a run is known, or has spent less than a known one
  abbrev Holds : (Config → Bool) → RowsState → Standing → Type 0
  Holds known state now = (more : ℕ) × (known (stand_at state (ahead more now)) ≡ true)

  -- after known configurations, so many jobs without a start keep to the budget
  abbrev pub KeepsOn : ℕ → (Config → Bool) → ℕ → Type 0
  KeepsOn budget known many =
      (state : RowsState) (now : Standing) (later : List Job) → goes_on later ≡ true → length later < many
      → Holds known state now → (watched turns now (course table state later)).spent ≤ budget

  ahead_twice : (first second : ℕ) (now : Standing) → ahead second (ahead first now) ≡ ahead (first + second) now
  ahead_twice first second now =
      let sum : (now.spent + first) + second ≡ now.spent + (first + second) = omega arith in
      ap (λ (n : ℕ). let there : Standing = record { at = now.at; spent = n } in there) sum

  -- the standing of the watch after a job and its commands
  abbrev through : RowsState → Job → Standing → Standing
  through state job now = watched turns (told (seen_by table state job) job now) (gave (gives table state job))

  through_ahead : (state : RowsState) (job : Job) (more : ℕ) (now : Standing) → through state job (ahead more now) ≡ ahead more (through state job now)
  through_ahead state job more now =
      watched_ahead turns more now (Came (seen_by table state job) job ∷ gave (gives table state job))

  -- the entries of a job and its commands, and the later ones
  course_splits : (state : RowsState) (now : Standing) (job : Job) (later : List Job)
      → watched turns now (course table state (job ∷ later)) ≡ watched turns (through state job now) (course table (after table state job) later)
  course_splits state now job later =
      watched_append turns (told (seen_by table state job) job now) (gave (gives table state job)) (course table (after table state job) later)

  module _ (budget : ℕ) (fit : all_within (length table.rows) tops (lines table.rows table.rows) ≡ true) where
    module _ (known next : Config → Bool)
        (under : (one : Config) → known one ≡ true → (other : Config) × (covered one other ≡ true) × IsGood budget next other) where
      -- so it is at a good one
      good_at : (state : RowsState) (now : Standing) → Holds known state now → (more : ℕ) × IsGood budget next (stand_at state (ahead more now))
      good_at state now holds =
          let here : Config = stand_at state (ahead holds.0 now) in
          let found : (other : Config) × (covered here other ≡ true) × IsGood budget next other = under here holds.1 in
          let more : (more : ℕ) × (found.0 ≡ stand_at state (ahead more (ahead holds.0 now))) = covering here found.0 found.1 in
          (holds.0 + more.0, subst (IsGood budget next) (more.1 ∙ ap (stand_at state) (ahead_twice holds.0 more.0 now)) found.2)

      goes : (state : RowsState) (now : Standing) (job : Job) → is_start job ≡ false → Holds known state now
          → Holds next (after table state job) (through state job now)
      goes state now job other holds =
          let good : (more : ℕ) × IsGood budget next (stand_at state (ahead more now)) = good_at state now holds in
          let led_to : each next (steps tops turns (lines table.rows table.rows) (stand_at (seen_by table state job) (ahead good.0 now))) ≡ true =
          subst (λ one. each next (steps tops turns (lines table.rows table.rows) one) ≡ true) (seen_stands state job (ahead good.0 now)) good.1.1 in
          let there : next (stand_at (after table state job) (through state job (ahead good.0 now))) ≡ true =
          leads_sound next table.rows (patterns.Start ∷ []) (seen_by table state job) job (ahead good.0 now) fit
          (and_from (not (is_start job)) true (not_from_false (is_start job) other) refl) led_to in
          (good.0, subst (λ standing. next (stand_at (after table state job) standing) ≡ true) (through_ahead state job good.0 now) there)

      keeps_here : (state : RowsState) (now : Standing) → Holds known state now → now.spent ≤ budget
      keeps_here state now holds =
          let good : (more : ℕ) × IsGood budget next (stand_at state (ahead more now)) = good_at state now holds in
          let few : now.spent + good.0 ≤ budget = leb-true (now.spent + good.0) budget good.1.0 in
          omega (arith, few)

      -- if known configurations are good, and so many jobs after those that they lead to keep to the budget, so does
      -- one more job
      pub keeps_on : (many : ℕ) → KeepsOn budget next many → KeepsOn budget known (suc many)
      keeps_on many later_on state now [] start few holds = keeps_here state now holds
      keeps_on many later_on state now (job ∷ later) start few holds =
          let parts : (not (is_start job) ≡ true) × (goes_on later ≡ true) = and_parts (not (is_start job)) (goes_on later) start in
          let fewer : length later < many = omega (arith, few) in
          subst (λ (standing : Standing). standing.spent ≤ budget) (sym (course_splits state now job later))
          (later_on (after table state job) (through state job now) later parts.1 fewer
          (goes state now job (not-true (is_start job) parts.0) holds))

    module _ (known : Config → Bool) where
      -- no jobs keep to the budget
      pub keeps_none : KeepsOn budget known 0
      keeps_none state now later start few holds = omega (arith, few)

      -- any number of jobs keep to the budget, if known configurations lead to known ones
      keeps_ever : ((one : Config) → known one ≡ true → (other : Config) × (covered one other ≡ true) × IsGood budget known other)
          → (many : ℕ) → KeepsOn budget known many
      keeps_ever under zero = keeps_none
      keeps_ever under (suc many) = keeps_on known known under many (keeps_ever under many)

      -- the same after the start
      begin : (state : RowsState) (now : Standing) (workflow : List ℕ) (input : List Payload) (later : List Job) → goes_on later ≡ true
          → each known (starts tops turns (lines table.rows table.rows) (stand_at state now)) ≡ true
          → KeepsOn budget known (suc (length later))
          → (watched turns now (course table state (jobs.Start workflow input ∷ later))).spent ≤ budget
      begin state now workflow input later start first keeps =
          let job : Job = jobs.Start workflow input in
          let there : known (stand_at (after table state job) (through state job now)) ≡ true =
          starts_sound known table.rows (seen_by table state job) workflow input now fit first in
          let none : through state job now ≡ ahead 0 (through state job now) =
          let sum : (through state job now).spent ≡ (through state job now).spent + 0 = omega arith in
          ap (λ (n : ℕ). let standing : Standing = record { at = (through state job now).at; spent = n } in standing) sum in
          let fewer : length later < suc (length later) = omega arith in
          subst (λ (standing : Standing). standing.spent ≤ budget) (sym (course_splits state now job later))
          (keeps (after table state job) (through state job now) later start fewer
          (0, subst (λ standing. known (stand_at (after table state job) standing) ≡ true) none there))

time_is_none : (one : JobPattern) (state : RowsState) (time : ℤ) → is_for_job one state (jobs.Time time) ≡ false
time_is_none patterns.Start state time = refl
time_is_none (patterns.Signal _) state time = refl
time_is_none patterns.CancelRequested state time = refl
time_is_none (patterns.Done _) state time = refl
time_is_none (patterns.NotDone _) state time = refl
time_is_none (patterns.Fired _) state time = refl
time_is_none (patterns.ChildStarted _) state time = refl
time_is_none (patterns.ChildDone _) state time = refl
time_is_none (patterns.ChildCanceled _) state time = refl
time_is_none (patterns.ChildNotDone _) state time = refl
time_is_none (patterns.Version _ _) state time = refl
time_is_none (patterns.AnyVersion _) state time = refl

passed_by : (is on holds : Bool) (row : Row) (other : Option Row) → on ≡ false → (if (is && on) && holds then Some row else other) ≡ other
passed_by is true holds row other off = cc
passed_by false false holds row other off = refl
passed_by true false holds row other off = refl

-- no row is for the job that gives the time
pub no_row_at : (rest : List Row) (state : RowsState) (time : ℤ) → row_for rest state (jobs.Time time) ≡ None
unfolding row_for
no_row_at [] state time = refl
no_row_at (row ∷ rest) state time =
    passed_by (is_for_state row.state state) (is_for_job row.job state (jobs.Time time)) (all_hold row.conditions state.counts)
    row (row_for rest state (jobs.Time time)) (time_is_none row.job state time)
    ∙ no_row_at rest state time

comes_none : (what : Happening) (state : RowsState) (time : ℤ) → comes what state (jobs.Time time) ≡ false
comes_none (Comes one) state time = time_is_none one state time
comes_none (Gives kind) state time = refl
comes_none Completes state time = refl
comes_none Fails state time = refl
comes_none Cancels state time = refl
comes_none ContinuesAsNew state time = refl
comes_none Closes state time = refl

-- no turn is for the job that gives the time
no_turn_at : (turns : List Turn) (state : RowsState) (time : ℤ) (at : ℕ) → turn_for turns (λ what. comes what state (jobs.Time time)) at ≡ None
no_turn_at [] state time at = refl
no_turn_at (turn ∷ rest) state time at =
    by (no_turn_at rest state time at) (nat_eq turn.from at) (comes turn.what state (jobs.Time time)) (comes_none turn.what state time)
  where
    by : turn_for rest (λ what. comes what state (jobs.Time time)) at ≡ None → (from come : Bool) → come ≡ false
        → ◌≡◌ {A = Option Turn} (elim from [
          | true ↦ elim come [ true ↦ Some turn | false ↦ turn_for rest (λ what. comes what state (jobs.Time time)) at ]
          | false ↦ turn_for rest (λ what. comes what state (jobs.Time time)) at
        ]) None
    by later from true off = cc
    by later true false off = later
    by later false false off = later

-- the job that gives the time does not change what happens later
time_stays : (table : Definition) (turns : List Turn) (state : RowsState) (now : Standing) (time : ℤ) (later : List Job)
    → watched turns now (course table state (jobs.Time time ∷ later)) ≡ watched turns now (course table state later)
time_stays table turns state now time later =
    rw (no_row_at table.rows state time, no_turn_at turns state time now.at) refl

-- what holds for a promise without a fault
record Shown (table : Definition) (watch : Watch) : Type 0 where
  tops : Counters
  all : Tree
  shown : shows (case_of table) tops watch all ≡ true

by_found : (table : Definition) (watch : Watch) (number : ℕ) (tops : Counters) (found : Option Tree)
    → fault_by number (case_of table) tops watch found ≡ None → Shown table watch
by_found table watch number tops None none = cc
by_found table watch number tops (Some all) none =
    record { tops = tops; all = all; shown = by (shows (case_of table) tops watch all) none }
  where
    by : (t : Bool) → ◌≡◌ {A = Option PromiseFault} (elim t [ true ↦ None | false ↦ Some (broken number (case_of table) tops watch (Some all)) ]) None
        → t ≡ true
    by true none = refl
    by false none = cc

cut_nothing : (table : Definition) (tops : Counters) → begun (place table.first table.rows) ≡ record {
  state = place table.first table.rows;
  closed = false;
  counts = cut tops (record { a = 0; b = 0; c = 0; d = 0 });
  watch = new_standing;
}
cut_nothing table tops = sym (rw (zero_cut tops.a, zero_cut tops.b, zero_cut tops.c, zero_cut tops.d) refl)

module _ (table : Definition) (watch : Watch) (tops : Counters) (fine : Cuts table.bounds tops) (known : Config → Bool)
    (fit : all_within (length table.rows) tops (lines table.rows table.rows) ≡ true)
    (first : each known (starts tops watch.turns (lines table.rows table.rows) (begun (place table.first table.rows))) ≡ true) where
  -- if the configurations after the start are known, and so many jobs without a start after them keep to the budget, so
  -- do as many jobs from the start
  pub keeps_before : (many : ℕ) → KeepsOn table tops watch.turns fine watch.budget known many
      → (list : List Job) → begins list ≡ true → length list ≤ many
      → (watched watch.turns new_standing (course table (initial table) list)).spent ≤ watch.budget
  keeps_before many keeps [] start few = omega arith
  keeps_before many keeps (jobs.Start workflow input ∷ later) start few =
      begin table tops watch.turns fine watch.budget fit known
      (initial table) new_standing workflow input later start
      (subst (λ one. each known (starts tops watch.turns (lines table.rows table.rows) one) ≡ true) (cut_nothing table tops) first)
      (λ state now behind on fewer holds.
      let below : length behind < many = omega (arith, few, fewer) in
      keeps state now behind on below holds)
  keeps_before many keeps (jobs.Time time ∷ later) start few =
      let fewer : length later ≤ many = omega (arith, few) in
      subst (λ (standing : Standing). standing.spent ≤ watch.budget)
      (sym (time_stays table watch.turns (initial table) new_standing time later)) (keeps_before many keeps later start fewer)
  keeps_before many keeps _ start few = cc

  -- known configurations, each of which leads to known ones, show that a watch keeps to its budget
  pub keeps_all : ((one : Config) → known one ≡ true
      → (other : Config) × (covered one other ≡ true) × IsGood table tops watch.turns fine watch.budget known other)
      → (list : List Job) → begins list ≡ true
      → (watched watch.turns new_standing (course table (initial table) list)).spent ≤ watch.budget
  keeps_all under list start =
      let all : length list ≤ length list = omega arith in
      keeps_before (length list) (keeps_ever table tops watch.turns fine watch.budget fit known under (length list)) list start all

-- a tree that passes the test shows the promise
keeps_shown : (table : Definition) (watch : Watch) (tops : Counters) (all : Tree) → shows (case_of table) tops watch all ≡ true
    → Keeps table watch
keeps_shown table watch tops all good =
    let halves : ((are_cuts table.bounds tops && all_within (length table.rows) tops (lines table.rows table.rows)) ≡ true)
    × ((each (has all) (starts tops watch.turns (lines table.rows table.rows) (begun (place table.first table.rows)))
    && is_closed tops watch (lines table.rows table.rows) all all) ≡ true) = and_parts _ _ good in
    let cuts : (are_cuts table.bounds tops ≡ true) × (all_within (length table.rows) tops (lines table.rows table.rows) ≡ true) =
    and_parts _ _ halves.0 in
    let trees : (each (has all) (starts tops watch.turns (lines table.rows table.rows) (begun (place table.first table.rows))) ≡ true)
    × (is_closed tops watch (lines table.rows table.rows) all all ≡ true) = and_parts _ _ halves.1 in
    let fine : Cuts table.bounds tops = cuts_from table.bounds tops cuts.0 in
    keeps_all table watch tops fine (has all) cuts.1 trees.0
    (λ one there. under_key table tops watch.turns fine watch.budget all (key_of one) one all there trees.1)

-- a watch without a fault keeps to its budget
keeps_one : (table : Definition) (number : ℕ) (watch : Watch) (tops : Counters)
    → fault_at number (case_of table) tops watch ≡ None → Keeps table watch
keeps_one table number watch tops none list start =
    let shown : Shown table watch =
    by_found table watch number tops
    (reached tops watch (lines table.rows table.rows) (starts tops watch.turns (lines table.rows table.rows) (begun (place table.first table.rows)))) none in
    keeps_shown table watch shown.tops shown.all shown.shown list start

keeps_these : (table : Definition) (number : ℕ) (promises : List Promise) (tops : Counters)
    → first_fault number (case_of table) tops promises ≡ None → PromisesAll table promises
keeps_these table number [] tops none = tt
keeps_these table number (promise ∷ rest) tops none =
    by (λ none. keeps_these table (suc number) rest tops none) (fault_at number (case_of table) tops (watch_of promise)) refl none
  where
    by : (first_fault (suc number) (case_of table) tops rest ≡ None → PromisesAll table rest)
        → (fault : Option PromiseFault) → fault_at number (case_of table) tops (watch_of promise) ≡ fault
        → ◌≡◌ {A = Option PromiseFault} (elim fault [
          | Some fault ↦ Some fault
          | None ↦ first_fault (suc number) (case_of table) tops rest
        ]) None
        → PromisesAll table (promise ∷ rest)
    by later (Some fault) is none = cc
    by later None is none = (means table promise (keeps_one table number (watch_of promise) tops is), later none)

-- a table without a fault keeps what it promises
pub keeps : (table : Definition) (promises : List Promise) → promise_fault table promises ≡ None → PromisesAll table promises
keeps table promises none = keeps_these table 1 promises (cuts_of (case_of table)) none
