-- What a server may tell a run is what the run can hear.
use Rattle.std.proofs.Common.{◌≡◌, ℕ, Bool, true, false, not, ◌&&◌, ◌||◌, List, [], ◌∷◌, Option, Some, None, refl, ap, ap₂, sym, subst, ◌∙◌}
use Rattle.std.specs.Prelude.{bytes_eq}
use Rattle.std.proofs.lemmas.Bool.{and_parts, and_from, not-true}
use Rattle.std.proofs.lemmas.Slice.Eq.{bytes_eq-Decides}
use Rattle.wh_events.specs.declared.place.Thing.{Thing}
use Rattle.wh_events.specs.declared.place.Thing.TheVariants as things
use Rattle.wh_events.specs.Machines.{same_thing}
use Rattle.wh_workflow.specs.declared.command.Command.{Command}
use Rattle.wh_workflow.specs.declared.job.Job.{Job}
use Rattle.wh_workflow.specs.declared.job.Job.TheVariants as jobs
use Rattle.wh_workflow.specs.declared.job.ActivityEnd.TheVariants as ends
use Rattle.wh_workflow.specs.declared.job.ChildEnd.TheVariants as child_ends
use Rattle.wh_workflow.specs.Scripts.{ActivationContext, Act, act_of}
use Rattle.wh_workflow.specs.Scripts.Act.{Opening, Cancelling, Asking, Closing, Other}
use Rattle.wh_workflow.specs.ActivationScripts.{is_version}
use Rattle.wh_possible_runs.specs.declared.thing.Phase.{Phase}
use Rattle.wh_possible_runs.specs.declared.thing.Phase.TheVariants.{Absent, Open, AskedToCancel, Ended, EndTold}
use Rattle.wh_possible_runs.specs.declared.thing.Touch.TheVariants.{Opened}
use Rattle.wh_possible_runs.specs.declared.thing.ThingState.{ThingState}
use Rattle.wh_possible_runs.specs.Things.{is_free, may_cancel, touch_after_cancel, open_thing, cancel_thing, is_untold, is_running, end_thing, start_child}
use Rattle.wh_possible_runs.specs.Situations.{ThingName, is_named, keep_first, change_first, with_change, Situation, or_faulty, after_act, after_commands, past_signals, after_job}
use Rattle.wh_possible_runs.specs.Shown.{has_name}
use Rattle.wh_possible_runs.specs.Rules.{by_rules, AreSo, is_new, are_distinct}
use Rattle.wh_possible_runs.proofs.Rules.{things_are}
use Rattle.wh_possible_histories.specs.NextTasks.{starts_in, begun_so}
use Rattle.wh_possible_histories.specs.Tellings.{ending, starting, is_name, takes, all_take, is_known, in_order}

-- what a job that tells of nothing leaves
quiet : (job : Job) (names : List ThingName) (list : List ThingState) (rest : List Job) → ending job ≡ None → starting job ≡ None
    → all_take names list (job ∷ rest) ≡ all_take names list rest
quiet job [] [] rest end start = refl
quiet job [] (one ∷ list) rest end start = refl
quiet job (name ∷ names) [] rest end start = refl
quiet job (name ∷ names) (one ∷ list) rest end start =
    ap₂ (λ (a b : Bool). elim a [
      | true ↦ is_untold one.phase && takes name EndTold one.started rest
      | false ↦ elim b [
        | true ↦ ((is_running one.phase || is_untold one.phase) && not one.started) && takes name one.phase true rest
        | false ↦ takes name one.phase one.started rest
      ]
    ] && all_take names list (job ∷ rest)) (ap (is_name name) end) (ap (is_name name) start)
    ∙ ap (λ b. takes name one.phase one.started rest && b) (quiet job names list rest end start)

-- what is so of what started, once a job is told

less_begun : (a b c test : Bool) → (not (a || (b || c)) || test) ≡ true → (not (a || c) || test) ≡ true
less_begun true b c test is = is
less_begun false true true test is = is
less_begun false true false test is = refl
less_begun false false c test is = is

begun_rest : (test : ThingName → Bool) (job : Job) (names : List ThingName) (list : List ThingState) (rest : List Job)
    → begun_so test names list (job ∷ rest) ≡ true → begun_so test names list rest ≡ true
begun_rest test job [] [] rest is = refl
begun_rest test job [] (one ∷ list) rest is = refl
begun_rest test job (name ∷ names) [] rest is = refl
begun_rest test job (name ∷ names) (one ∷ list) rest is =
    let parts = and_parts (not (one.started || starts_in name (job ∷ rest)) || test name) (begun_so test names list (job ∷ rest)) is in
    and_from _ _ (less_begun one.started (is_name name (starting job)) (starts_in name rest) (test name) parts.0) (begun_rest test job names list rest parts.1)

-- the things once one changes, of which a server may tell the rest
abbrev Changes : Job → List Job → Thing → List ℕ → (ThingState → Option ThingState) → List ThingName → List ThingState → Type 0
Changes job rest thing id change names list =
    (next : List ThingState) × (with_change change names thing id list ≡ Some next) × (all_take names next rest ≡ true)
    × ((context : ActivationContext) (earlier : List Command) → AreSo context earlier names list → AreSo context earlier names next)
    × ((test : ThingName → Bool) → begun_so test names list (job ∷ rest) ≡ true → begun_so test names next rest ≡ true)

-- a thing that changes
module _ (job : Job) (rest : List Job) (thing : Thing) (id : List ℕ) (change : ThingState → Option ThingState)
    (off : (name : ThingName) (phase : Phase) (started : Bool) → is_named thing id name ≡ false
    → takes name phase started (job ∷ rest) ≡ takes name phase started rest)
    (on : (name : ThingName) (one : ThingState) → is_named thing id name ≡ true
    → takes name one.phase one.started (job ∷ rest) ≡ true
    → (later : ThingState) × (change one ≡ Some later) × (takes name later.phase later.started rest ≡ true)
    × (by_rules later.phase ≡ by_rules one.phase) × (later.touch ≡ one.touch)
    × ((test : ThingName → Bool) → (not (one.started || starts_in name (job ∷ rest)) || test name) ≡ true
    → (not (later.started || starts_in name rest) || test name) ≡ true)) where
  others : (name : ThingName) (names : List ThingName) (list : List ThingState) → is_named thing id name ≡ true
      → is_new name names ≡ true → all_take names list (job ∷ rest) ≡ true → all_take names list rest ≡ true
  others name [] [] is new take = refl
  others name [] (one ∷ list) is new take = cc
  others name (other ∷ names) [] is new take = cc
  others name (other ∷ names) (one ∷ list) is new take =
      let parts : (not (is_named name.0 name.1 other) ≡ true) × (is_new name names ≡ true) =
      and_parts (not (is_named name.0 name.1 other)) (is_new name names) new in
      let both : (same_thing thing name.0 ≡ true) × (bytes_eq id name.1 ≡ true) = and_parts (same_thing thing name.0) (bytes_eq id name.1) is in
      let t : thing ≡ name.0 = things_are thing name.0 both.0 in
      let i : id ≡ name.1 = (bytes_eq-Decides id name.1).0 both.1 in
      let not_it : is_named thing id other ≡ false =
      subst (λ kind. is_named kind id other ≡ false) (sym t)
      (subst (λ text. is_named name.0 text other ≡ false) (sym i) (not-true (is_named name.0 name.1 other) parts.0)) in
      let both_take = and_parts (takes other one.phase one.started (job ∷ rest)) (all_take names list (job ∷ rest)) take in
      and_from _ _ (sym (off other one.phase one.started not_it) ∙ both_take.0) (others name names list is parts.1 both_take.1)

  changes : (names : List ThingName) (list : List ThingState) → has_name names thing id ≡ true → are_distinct names ≡ true
      → all_take names list (job ∷ rest) ≡ true → Changes job rest thing id change names list
  changes [] list there distinct take = cc
  changes (name ∷ names) [] there distinct take = cc
  changes (name ∷ names) (one ∷ list) there distinct take =
      by (changes names list) (is_named thing id name) refl there
    where
      parts : (is_new name names ≡ true) × (are_distinct names ≡ true)
      parts = and_parts (is_new name names) (are_distinct names) distinct

      both_take : (takes name one.phase one.started (job ∷ rest) ≡ true) × (all_take names list (job ∷ rest) ≡ true)
      both_take = and_parts (takes name one.phase one.started (job ∷ rest)) (all_take names list (job ∷ rest)) take

      by : (has_name names thing id ≡ true → are_distinct names ≡ true → all_take names list (job ∷ rest) ≡ true → Changes job rest thing id change names list)
          → (t : Bool) → is_named thing id name ≡ t
          → ◌≡◌ {A = Bool} (elim t [ true ↦ true | false ↦ has_name names thing id ]) true
          → (next : List ThingState)
          × (◌≡◌ {A = Option (List ThingState)} (elim t [
            | true ↦ change_first (change one) list
            | false ↦ keep_first one (with_change change names thing id list)
          ]) (Some next))
          × (all_take (name ∷ names) next rest ≡ true)
          × ((context : ActivationContext) (earlier : List Command) → AreSo context earlier (name ∷ names) (one ∷ list)
          → AreSo context earlier (name ∷ names) next)
          × ((test : ThingName → Bool) → begun_so test (name ∷ names) (one ∷ list) (job ∷ rest) ≡ true
          → begun_so test (name ∷ names) next rest ≡ true)
      by deeper true p there =
          let here = on name one p both_take.0 in (
            here.0 ∷ list,
            ap (λ (x : Option ThingState). change_first x list) here.1,
            and_from _ _ here.2 (others name names list p parts.0 both_take.1),
            λ context earlier so. ((here.3 ∙ so.0.0, here.4 ∙ so.0.1), so.1),
            λ test begun.
                let both_begun = and_parts (not (one.started || starts_in name (job ∷ rest)) || test name) (begun_so test names list (job ∷ rest)) begun in
                and_from _ _ (here.5 test both_begun.0) (begun_rest test job names list rest both_begun.1),
          )
      by deeper false p there =
          let deep = deeper there parts.1 both_take.1 in (
            one ∷ deep.0,
            ap (λ (x : Option (List ThingState)). keep_first one x) deep.1,
            and_from _ _ (sym (off name one.phase one.started p) ∙ both_take.0) deep.2,
            λ context earlier so. (so.0, deep.3 context earlier so.1),
            λ test begun.
                let both_begun = and_parts (not (one.started || starts_in name (job ∷ rest)) || test name) (begun_so test names list (job ∷ rest)) begun in
                and_from _ _ (less_begun one.started (is_name name (starting job)) (starts_in name rest) (test name) both_begun.0) (deep.4 test both_begun.1),
          )

-- an end
module _ (job : Job) (rest : List Job) (thing : Thing) (id : List ℕ) (is : ending job ≡ Some (thing, id)) (none : starting job ≡ None) where
  pub end_by : (name : ThingName) (phase : Phase) (started t : Bool) → is_named thing id name ≡ t
      → takes name phase started (job ∷ rest)
      ≡ elim t [ true ↦ is_untold phase && takes name EndTold started rest | false ↦ takes name phase started rest ]
  end_by name phase started t p =
      ap₂ (λ (a b : Bool). let all : Bool = elim a [
        | true ↦ is_untold phase && takes name EndTold started rest
        | false ↦ elim b [
          | true ↦ ((is_running phase || is_untold phase) && not started) && takes name phase true rest
          | false ↦ takes name phase started rest
        ]
      ] in all) (ap (is_name name) is ∙ p) (ap (is_name name) none)

  end_off : (name : ThingName) (phase : Phase) (started : Bool) → is_named thing id name ≡ false
      → takes name phase started (job ∷ rest) ≡ takes name phase started rest
  end_off name phase started p = end_by name phase started false p

  untold_rules : (phase : Phase) → is_untold phase ≡ true → by_rules EndTold ≡ by_rules phase
  untold_rules Ended is = refl
  untold_rules Absent is = cc
  untold_rules Open is = cc
  untold_rules AskedToCancel is = cc
  untold_rules EndTold is = cc

  end_on : (name : ThingName) (one : ThingState) → is_named thing id name ≡ true
      → takes name one.phase one.started (job ∷ rest) ≡ true
      → (later : ThingState) × (end_thing one ≡ Some later) × (takes name later.phase later.started rest ≡ true)
      × (by_rules later.phase ≡ by_rules one.phase) × (later.touch ≡ one.touch)
      × ((test : ThingName → Bool) → (not (one.started || starts_in name (job ∷ rest)) || test name) ≡ true
      → (not (later.started || starts_in name rest) || test name) ≡ true)
  end_on name one p take =
      let parts : (is_untold one.phase ≡ true) × (takes name EndTold one.started rest ≡ true) =
      and_parts (is_untold one.phase) (takes name EndTold one.started rest) (sym (end_by name one.phase one.started true p) ∙ take) in (
        record one { phase = EndTold },
        ap (λ (x : Bool). let next : Option ThingState = elim x [ true ↦ Some (record one { phase = EndTold }) | false ↦ None ] in next) parts.0,
        parts.1,
        untold_rules one.phase parts.0,
        refl,
        λ test. less_begun one.started (is_name name (starting job)) (starts_in name rest) (test name),
      )

-- the start of a child
module _ (job : Job) (rest : List Job) (thing : Thing) (id : List ℕ) (none : ending job ≡ None) (is : starting job ≡ Some (thing, id)) where
  pub start_by : (name : ThingName) (phase : Phase) (started t : Bool) → is_named thing id name ≡ t
      → takes name phase started (job ∷ rest)
      ≡ elim t [
        | true ↦ ((is_running phase || is_untold phase) && not started) && takes name phase true rest
        | false ↦ takes name phase started rest
      ]
  start_by name phase started t p =
      ap₂ (λ (a b : Bool). let all : Bool = elim a [
        | true ↦ is_untold phase && takes name EndTold started rest
        | false ↦ elim b [
          | true ↦ ((is_running phase || is_untold phase) && not started) && takes name phase true rest
          | false ↦ takes name phase started rest
        ]
      ] in all) (ap (is_name name) none) (ap (is_name name) is ∙ p)

  start_off : (name : ThingName) (phase : Phase) (started : Bool) → is_named thing id name ≡ false
      → takes name phase started (job ∷ rest) ≡ takes name phase started rest
  start_off name phase started p = start_by name phase started false p

  begun_one : (a c test : Bool) → (not (a || (true || c)) || test) ≡ true → (not (true || c) || test) ≡ true
  begun_one true c test is = is
  begun_one false c test is = is

  start_on : (name : ThingName) (one : ThingState) → is_named thing id name ≡ true
      → takes name one.phase one.started (job ∷ rest) ≡ true
      → (later : ThingState) × (start_child one ≡ Some later) × (takes name later.phase later.started rest ≡ true)
      × (by_rules later.phase ≡ by_rules one.phase) × (later.touch ≡ one.touch)
      × ((test : ThingName → Bool) → (not (one.started || starts_in name (job ∷ rest)) || test name) ≡ true
      → (not (later.started || starts_in name rest) || test name) ≡ true)
  start_on name one p take =
      let parts : (((is_running one.phase || is_untold one.phase) && not one.started) ≡ true) × (takes name one.phase true rest ≡ true) =
      and_parts ((is_running one.phase || is_untold one.phase) && not one.started) (takes name one.phase true rest)
      (sym (start_by name one.phase one.started true p) ∙ take) in (
        record one { started = true },
        ap (λ (x : Bool). let next : Option ThingState = elim x [ true ↦ Some (record one { started = true }) | false ↦ None ] in next) parts.0,
        parts.1,
        refl,
        refl,
        λ test begun.
            begun_one one.started (starts_in name rest) (test name)
            (subst (λ b. (not (one.started || (b || starts_in name rest)) || test name) ≡ true) (ap (is_name name) is ∙ p) begun),
      )

-- one job
pub record Heard (names : List ThingName) (job : Job) (rest : List Job) (now : Situation) : Type 0 where
  pub next : Situation
  pub is : after_job names job now ≡ Some next
  pub takes_rest : all_take names next.things rest ≡ true
  pub ordered : in_order next.takes_signals rest ≡ true
  pub awaits : next.awaits_version ≡ false
  pub so : (context : ActivationContext) (earlier : List Command) → AreSo context earlier names now.things → AreSo context earlier names next.things
  pub begun : (test : ThingName → Bool) → begun_so test names now.things (job ∷ rest) ≡ true → begun_so test names next.things rest ≡ true

module _ (names : List ThingName) (distinct : are_distinct names ≡ true) (rest : List Job) (now : Situation)
    (awaits : now.awaits_version ≡ false) where
  abbrev unless_awaits : Option Situation → Option Situation
  unless_awaits next = elim now.awaits_version [ true ↦ None | false ↦ next ]

  flat : (early : Bool) → (early && true) ≡ early
  flat true = refl
  flat false = refl

  flat_off : (early : Bool) → (early && false) ≡ false
  flat_off true = refl
  flat_off false = refl

  -- a job that changes nothing
  as_before : (job : Job) → ending job ≡ None → starting job ≡ None → after_job names job now ≡ Some now
      → all_take names now.things (job ∷ rest) ≡ true → in_order now.takes_signals rest ≡ true → Heard names job rest now
  as_before job end start is take order = record {
    next = now;
    is = is;
    takes_rest = sym (quiet job names now.things rest end start) ∙ take;
    ordered = order;
    awaits = awaits;
    so = λ context earlier so. so;
    begun = λ test begun. begun_rest test job names now.things rest begun;
  }

  changed_to : (job : Job) (thing : Thing) (id : List ℕ) (change : ThingState → Option ThingState)
      → after_job names job now ≡ past_signals now (with_change change names thing id now.things)
      → Changes job rest thing id change names now.things → in_order false rest ≡ true → Heard names job rest now
  changed_to job thing id change is all order = record {
    next = record now { things = all.0; takes_signals = false };
    is = is ∙ ap (λ (x : Option (List ThingState)). past_signals now x) all.1;
    takes_rest = all.2;
    ordered = order;
    awaits = awaits;
    so = all.3;
    begun = all.4;
  }

  ended : (job : Job) (thing : Thing) (id : List ℕ) → ending job ≡ Some (thing, id) → starting job ≡ None
      → after_job names job now ≡ past_signals now (with_change end_thing names thing id now.things)
      → is_known names (ending job) ≡ true → all_take names now.things (job ∷ rest) ≡ true → in_order false rest ≡ true
      → Heard names job rest now
  ended job thing id end start is known take order =
      changed_to job thing id end_thing is
      (changes job rest thing id end_thing (end_off job rest thing id end start) (end_on job rest thing id end start) names now.things
      (sym (ap (is_known names) end) ∙ known) distinct take) order

  begun : (job : Job) (thing : Thing) (id : List ℕ) → ending job ≡ None → starting job ≡ Some (thing, id)
      → after_job names job now ≡ past_signals now (with_change start_child names thing id now.things)
      → is_known names (starting job) ≡ true → all_take names now.things (job ∷ rest) ≡ true → in_order false rest ≡ true
      → Heard names job rest now
  begun job thing id end start is known take order =
      changed_to job thing id start_child is
      (changes job rest thing id start_child (start_off job rest thing id end start) (start_on job rest thing id end start) names now.things
      (sym (ap (is_known names) start) ∙ known) distinct take) order

  unawaited : (next : Option Situation) (other : Option Situation) → elim now.awaits_version [ true ↦ other | false ↦ next ] ≡ next
  unawaited next other = ap (λ (b : Bool). let x : Option Situation = elim b [ true ↦ other | false ↦ next ] in x) awaits

  off_order : in_order (now.takes_signals && false) rest ≡ true → in_order false rest ≡ true
  off_order order = sym (ap (λ b. in_order b rest) (flat_off now.takes_signals)) ∙ order

  on_order : in_order (now.takes_signals && true) rest ≡ true → in_order now.takes_signals rest ≡ true
  on_order order = sym (ap (λ b. in_order b rest) (flat now.takes_signals)) ∙ order

  -- a job that a server may give is heard
  pub hears : (job : Job) → all_take names now.things (job ∷ rest) ≡ true → in_order now.takes_signals (job ∷ rest) ≡ true
      → is_known names (ending job) ≡ true → is_known names (starting job) ≡ true → is_version job ≡ false
      → Heard names job rest now
  hears (jobs.Time t) take order end start version =
      as_before (jobs.Time t) refl refl (unawaited (Some now) None) take (on_order order)
  hears (jobs.Start w i) take order end start version =
      as_before (jobs.Start w i) refl refl (unawaited (Some now) None) take (on_order order)
  hears (jobs.CancelSent id) take order end start version =
      as_before (jobs.CancelSent id) refl refl (unawaited (Some now) None) take (on_order order)
  hears (jobs.CancelFailed id) take order end start version =
      as_before (jobs.CancelFailed id) refl refl (unawaited (Some now) None) take (on_order order)
  hears (jobs.SignalSent id s) take order end start version =
      as_before (jobs.SignalSent id s) refl refl (unawaited (Some now) None) take (on_order order)
  hears (jobs.SignalFailed id s) take order end start version =
      as_before (jobs.SignalFailed id s) refl refl (unawaited (Some now) None) take (on_order order)
  hears (jobs.Signal name i) take order end start version =
      let parts = and_parts now.takes_signals (in_order now.takes_signals rest) order in
      as_before (jobs.Signal name i) refl refl
      (unawaited (elim now.takes_signals [ true ↦ Some now | false ↦ None ]) None
      ∙ ap (λ (b : Bool). let x : Option Situation = elim b [ true ↦ Some now | false ↦ None ] in x) parts.0) take parts.1
  hears jobs.CancelRequested take order end start version = record {
    next = record now { takes_signals = false };
    is = unawaited (Some (record now { takes_signals = false })) None;
    takes_rest = sym (quiet jobs.CancelRequested names now.things rest refl refl) ∙ take;
    ordered = off_order order;
    awaits = awaits;
    so = λ context earlier so. so;
    begun = λ test begun. begun_rest test jobs.CancelRequested names now.things rest begun;
  }
  hears (jobs.Activity id (ends.Completed r)) take order end start version =
      ended (jobs.Activity id (ends.Completed r)) things.Activity id refl refl (unawaited _ None) end take (off_order order)
  hears (jobs.Activity id ends.Failed) take order end start version =
      ended (jobs.Activity id ends.Failed) things.Activity id refl refl (unawaited _ None) end take (off_order order)
  hears (jobs.Activity id ends.TimedOut) take order end start version =
      ended (jobs.Activity id ends.TimedOut) things.Activity id refl refl (unawaited _ None) end take (off_order order)
  hears (jobs.Activity id ends.Canceled) take order end start version =
      ended (jobs.Activity id ends.Canceled) things.Activity id refl refl (unawaited _ None) end take (off_order order)
  hears (jobs.TimerFired id) take order end start version =
      ended (jobs.TimerFired id) things.Timer id refl refl (unawaited _ None) end take (off_order order)
  hears (jobs.ChildStarted id) take order end start version =
      begun (jobs.ChildStarted id) things.Child id refl refl (unawaited _ None) start take (off_order order)
  hears (jobs.Child id (child_ends.Completed r)) take order end start version =
      ended (jobs.Child id (child_ends.Completed r)) things.Child id refl refl (unawaited _ None) end take (off_order order)
  hears (jobs.Child id child_ends.Failed) take order end start version =
      ended (jobs.Child id child_ends.Failed) things.Child id refl refl (unawaited _ None) end take (off_order order)
  hears (jobs.Child id child_ends.Canceled) take order end start version =
      ended (jobs.Child id child_ends.Canceled) things.Child id refl refl (unawaited _ None) end take (off_order order)
  hears (jobs.Child id child_ends.TimedOut) take order end start version =
      ended (jobs.Child id child_ends.TimedOut) things.Child id refl refl (unawaited _ None) end take (off_order order)
  hears (jobs.Child id child_ends.Terminated) take order end start version =
      ended (jobs.Child id child_ends.Terminated) things.Child id refl refl (unawaited _ None) end take (off_order order)
  hears (jobs.Child id child_ends.StartFailed) take order end start version =
      ended (jobs.Child id child_ends.StartFailed) things.Child id refl refl (unawaited _ None) end take (off_order order)
  hears (jobs.Version c v) take order end start version = cc

-- commands do not change what a server may tell

module _ (list : List Job) where
  -- a change that a command makes
  abbrev Keeps : (ThingState → Option ThingState) → Type 0
  Keeps change =
      (name : ThingName) (one later : ThingState) → change one ≡ Some later → (later.phase ≡ one.phase) × (later.started ≡ one.started)

  abbrev KeptThings : List ThingName → List ThingState → List ThingState → Type 0
  KeptThings names now next =
      (all_take names next list ≡ all_take names now list)
      × ((test : ThingName → Bool) → begun_so test names next list ≡ begun_so test names now list)

  change_keeps : (change : ThingState → Option ThingState) → Keeps change → (names : List ThingName) (thing : Thing) (id : List ℕ)
      (now next : List ThingState) → with_change change names thing id now ≡ Some next → KeptThings names now next
  change_keeps change keeps [] thing id now next is = cc
  change_keeps change keeps (name ∷ names) thing id [] next is = cc
  change_keeps change keeps (name ∷ names) thing id (one ∷ rest) next is =
      by (change_keeps change keeps names thing id rest) (is_named thing id name) is
    where
      first : (found : Option ThingState) → change one ≡ found → change_first found rest ≡ Some next
          → KeptThings (name ∷ names) (one ∷ rest) next
      first None p is = cc
      first (Some later) p is =
          let same : later ∷ rest ≡ next = cc in
          let both = keeps name one later p in
          subst (λ l. KeptThings (name ∷ names) (one ∷ rest) l) same (
            ap₂ (λ (p : Phase) (s : Bool). takes name p s list && all_take names rest list) both.0 both.1,
            λ test. ap (λ (s : Bool). (not (s || starts_in name list) || test name) && begun_so test names rest list) both.1,
          )

      deep : ((next : List ThingState) → with_change change names thing id rest ≡ Some next → KeptThings names rest next)
          → (found : Option (List ThingState)) → with_change change names thing id rest ≡ found → keep_first one found ≡ Some next
          → KeptThings (name ∷ names) (one ∷ rest) next
      deep deeper None p is = cc
      deep deeper (Some tail) p is =
          let same : one ∷ tail ≡ next = cc in
          let more = deeper tail p in
          subst (λ l. KeptThings (name ∷ names) (one ∷ rest) l) same (
            ap (λ b. takes name one.phase one.started list && b) more.0,
            λ test. ap (λ b. (not (one.started || starts_in name list) || test name) && b) (more.1 test),
          )

      by : ((next : List ThingState) → with_change change names thing id rest ≡ Some next → KeptThings names rest next)
          → (t : Bool) → ◌≡◌ {A = Option (List ThingState)} (elim t [
            | true ↦ change_first (change one) rest
            | false ↦ keep_first one (with_change change names thing id rest)
          ]) (Some next) → KeptThings (name ∷ names) (one ∷ rest) next
      by deeper true is = first (change one) refl is
      by deeper false is = deep deeper (with_change change names thing id rest) refl is

  open_keeps : (thing : Thing) → Keeps (open_thing thing)
  open_keeps thing name one later is = by (is_free thing one.phase one.touch) is
    where
      by : (t : Bool) → ◌≡◌ {A = Option ThingState} (elim t [ true ↦ Some (record one { touch = Opened }) | false ↦ None ]) (Some later)
          → (later.phase ≡ one.phase) × (later.started ≡ one.started)
      by true is =
          let same : record one { touch = Opened } ≡ later = cc in
          subst (λ (x : ThingState). (x.phase ≡ one.phase) × (x.started ≡ one.started)) same (refl, refl)
      by false is = cc

  cancel_keeps : Keeps cancel_thing
  cancel_keeps name one later is = by (may_cancel one.phase one.touch) is
    where
      by : (t : Bool) → ◌≡◌ {A = Option ThingState} (elim t [
        | true ↦ Some (record one { touch = touch_after_cancel one.phase one.touch })
        | false ↦ None
      ]) (Some later) → (later.phase ≡ one.phase) × (later.started ≡ one.started)
      by true is =
          let same : record one { touch = touch_after_cancel one.phase one.touch } ≡ later = cc in
          subst (λ (x : ThingState). (x.phase ≡ one.phase) × (x.started ≡ one.started)) same (refl, refl)
      by false is = cc

  abbrev Kept : List ThingName → Situation → Situation → Type 0
  Kept names now next = KeptThings names now.things next.things × (next.takes_signals ≡ now.takes_signals)

  faulty_keeps : (names : List ThingName) (now : Situation) (found : Option (List ThingState))
      → ((next : List ThingState) → found ≡ Some next → KeptThings names now.things next) → Kept names now (or_faulty now found)
  faulty_keeps names now None keeps = ((refl, λ test. refl), refl)
  faulty_keeps names now (Some next) keeps = (keeps next refl, refl)

  act_keeps : (names : List ThingName) (act : Act) (now : Situation) → Kept names now (after_act names act now)
  act_keeps names (Opening thing id) now =
      faulty_keeps names now (with_change (open_thing thing) names thing id now.things)
      (λ next is. change_keeps (open_thing thing) (open_keeps thing) names thing id now.things next is)
  act_keeps names (Cancelling thing id) now =
      faulty_keeps names now (with_change cancel_thing names thing id now.things)
      (λ next is. change_keeps cancel_thing cancel_keeps names thing id now.things next is)
  act_keeps names (Asking _ _ _) now = ((refl, λ test. refl), refl)
  act_keeps names Closing now = ((refl, λ test. refl), refl)
  act_keeps names Other now = ((refl, λ test. refl), refl)

  pub commands_keep : (names : List ThingName) (list_of : List Command) (now : Situation) → Kept names now (after_commands names list_of now)
  commands_keep names [] now = ((refl, λ test. refl), refl)
  commands_keep names (command ∷ rest) now =
      let first = act_keeps names (act_of command) now in
      let later = commands_keep names rest (after_act names (act_of command) now) in
      ((later.0.0 ∙ first.0.0, λ test. later.0.1 test ∙ first.0.1 test), later.1 ∙ first.1)
