-- What a run knows once a job comes is among what the decision takes into account.
use Rattle.std.proofs.Common.{◌≡◌, ℕ, Bool, true, false, ◌⊎◌, List, [], ◌∷◌, ◌++◌, Option, Some, None, refl, ap, sym, subst, ◌∙◌, inl, inr}
use Rattle.std.specs.Prelude.{bytes_eq, codes}
use Rattle.std.proofs.lemmas.Bool.{both_ways, and_parts, not-true}
use Rattle.std.proofs.lemmas.Slice.Eq.{bytes_eq-Decides}
use Rattle.wh_events.specs.declared.place.Thing.{Thing}
use Rattle.wh_events.specs.declared.place.Thing.TheVariants as things
use Rattle.wh_events.specs.Machines.{same_thing}
use Rattle.wh_workflow.specs.declared.job.Job.{Job}
use Rattle.wh_workflow.specs.declared.job.Job.TheVariants as jobs
use Rattle.wh_workflow.specs.declared.job.ActivityEnd.TheVariants as ends
use Rattle.wh_workflow.specs.declared.job.ChildEnd.TheVariants as child_ends
use Rattle.wh_workflow.specs.Scripts.{act_of}
use Rattle.wh_workflow.specs.Scripts.Act.{Opening, Cancelling, Asking}
use Rattle.wh_rows.specs.declared.row.JobPattern.TheVariants as patterns
use Rattle.wh_rows.specs.declared.row.CommandTemplate.TheVariants as templates
use Rattle.wh_rows.specs.declared.row.RowsState.{RowsState}
use Rattle.wh_rows.specs.Tables.{JobPattern, CommandTemplate}
use Rattle.wh_rows.specs.Rows.{is_for_job, is_start, named, command_of, commands_of}
use Rattle.wh_rows.specs.Deciding.{text_of, is_among}
use Rattle.wh_rows.proofs.Patterns.{is_none, not_among}
use Rattle.wh_possible_runs.specs.Configurations.{Config, act_by, after_templates, patterns_of, all_patterns, listed, each_told, unmatched}
use Rattle.wh_possible_runs.specs.Shown.{each, is_plain, is_plain_act, all_plain_acts, plain_names}
use Rattle.wh_possible_runs.specs.Situations.{Situation, ThingName, is_named, keep_first, with_change, after_act, past_signals, after_news, after_version, after_pattern, pattern_of, after_any, after_job, after_commands, change_first}
use Rattle.wh_possible_runs.specs.Things.{end_thing, start_child}
use Rattle.wh_possible_runs.specs.declared.thing.ThingState.{ThingState}

same : (a b : List ℕ) → bytes_eq a b ≡ true → b ≡ a
same a b is = sym ((bytes_eq-Decides a b).0 is)

plainly : (text : List ℕ) (state : RowsState) → is_plain text ≡ true → named text state ≡ text
unfolding named
plainly text state plain = rw (not-true (bytes_eq text (codes "@")) plain) refl

is_id : (wanted id : List ℕ) (state : RowsState) → is_plain wanted ≡ true → bytes_eq id (named wanted state) ≡ true → wanted ≡ id
is_id wanted id state plain is = sym (plainly wanted state plain) ∙ same id (named wanted state) is

pub own_id : (id : List ℕ) (state : RowsState) → is_plain id ≡ true → bytes_eq id (named id state) ≡ true
own_id id state plain = (bytes_eq-Decides id (named id state)).1 (sym (plainly id state plain))

-- a job that a pattern matches tells the same as the pattern
pub after_alike : (names : List ThingName) (one : JobPattern) (state : RowsState) (job : Job) (now : Situation)
    → is_plain (text_of one) ≡ true → is_for_job one state job ≡ true → after_pattern names one now ≡ after_job names job now
after_alike names patterns.Start state (jobs.Start _ _) now plain is = refl
after_alike names patterns.CancelRequested state jobs.CancelRequested now plain is = refl
after_alike names (patterns.Signal wanted) state (jobs.Signal id _) now plain is =
    ap (λ text. after_pattern names (patterns.Signal text) now) (is_id wanted id state plain is)
after_alike names (patterns.Done wanted) state (jobs.Activity id (ends.Completed _)) now plain is =
    ap (λ text. after_pattern names (patterns.Done text) now) (is_id wanted id state plain is)
after_alike names (patterns.NotDone wanted) state (jobs.Activity id ends.Failed) now plain is =
    ap (λ text. after_pattern names (patterns.NotDone text) now) (is_id wanted id state plain is)
after_alike names (patterns.NotDone wanted) state (jobs.Activity id ends.TimedOut) now plain is =
    ap (λ text. after_pattern names (patterns.NotDone text) now) (is_id wanted id state plain is)
after_alike names (patterns.NotDone wanted) state (jobs.Activity id ends.Canceled) now plain is =
    ap (λ text. after_pattern names (patterns.NotDone text) now) (is_id wanted id state plain is)
after_alike names (patterns.Fired wanted) state (jobs.TimerFired id) now plain is =
    ap (λ text. after_pattern names (patterns.Fired text) now) (is_id wanted id state plain is)
after_alike names (patterns.ChildStarted wanted) state (jobs.ChildStarted id) now plain is =
    ap (λ text. after_pattern names (patterns.ChildStarted text) now) (is_id wanted id state plain is)
after_alike names (patterns.ChildDone wanted) state (jobs.Child id (child_ends.Completed _)) now plain is =
    ap (λ text. after_pattern names (patterns.ChildDone text) now) (is_id wanted id state plain is)
after_alike names (patterns.ChildCanceled wanted) state (jobs.Child id child_ends.Canceled) now plain is =
    ap (λ text. after_pattern names (patterns.ChildNotDone text) now) (is_id wanted id state plain is)
after_alike names (patterns.ChildNotDone wanted) state (jobs.Child id child_ends.Canceled) now plain is =
    ap (λ text. after_pattern names (patterns.ChildNotDone text) now) (is_id wanted id state plain is)
after_alike names (patterns.ChildNotDone wanted) state (jobs.Child id child_ends.Failed) now plain is =
    ap (λ text. after_pattern names (patterns.ChildNotDone text) now) (is_id wanted id state plain is)
after_alike names (patterns.ChildNotDone wanted) state (jobs.Child id child_ends.TimedOut) now plain is =
    ap (λ text. after_pattern names (patterns.ChildNotDone text) now) (is_id wanted id state plain is)
after_alike names (patterns.ChildNotDone wanted) state (jobs.Child id child_ends.Terminated) now plain is =
    ap (λ text. after_pattern names (patterns.ChildNotDone text) now) (is_id wanted id state plain is)
after_alike names (patterns.ChildNotDone wanted) state (jobs.Child id child_ends.StartFailed) now plain is =
    ap (λ text. after_pattern names (patterns.ChildNotDone text) now) (is_id wanted id state plain is)
after_alike names (patterns.Version wanted number) state (jobs.Version id version) now plain is = refl
after_alike names (patterns.AnyVersion wanted) state (jobs.Version id version) now plain is = refl
after_alike names _ state _ now plain is = cc

pub act_alike : (one : CommandTemplate) (state : RowsState) (job : Job) → is_plain_act (act_by one) ≡ true
    → act_of (command_of one state job) ≡ act_by one
act_alike (templates.StartActivity id _ _) state job plain = ap (Opening things.Activity) (plainly id state plain)
act_alike (templates.CancelActivity id) state job plain = ap (Cancelling things.Activity) (plainly id state plain)
act_alike (templates.StartTimer id _) state job plain = ap (Opening things.Timer) (plainly id state plain)
act_alike (templates.CancelTimer id) state job plain = ap (Cancelling things.Timer) (plainly id state plain)
act_alike (templates.StartChild id _ _) state job plain = ap (Opening things.Child) (plainly id state plain)
act_alike (templates.CancelChild id) state job plain = ap (Cancelling things.Child) (plainly id state plain)
act_alike (templates.Ask change low high) state job plain = ap (λ text. Asking text low high) (plainly change state plain)
act_alike (templates.SignalExternal _ _ _) state job plain = refl
act_alike (templates.Complete _) state job plain = refl
act_alike (templates.Fail _) state job plain = refl
act_alike templates.Cancel state job plain = refl
act_alike (templates.ContinueAsNew _ _) state job plain = refl

-- the commands of a row do what the row says
pub commands_are : (names : List ThingName) (gives : List CommandTemplate) (state : RowsState) (job : Job) (now : Situation)
    → all_plain_acts gives ≡ true → after_commands names (commands_of gives state job) now ≡ after_templates names gives now
unfolding commands_of
commands_are names [] state job now plain = refl
commands_are names (one ∷ rest) state job now plain =
    let parts : (is_plain_act (act_by one) ≡ true) × (all_plain_acts rest ≡ true) =
    and_parts (is_plain_act (act_by one)) (all_plain_acts rest) plain in
    commands_are names rest state job (after_act names (act_of (command_of one state job)) now) parts.1
    ∙ ap (λ act. after_templates names rest (after_act names act now)) (act_alike one state job parts.0)

pub each_first : (test : Config → Bool) (one : Config) (rest : List Config) → each test (one ∷ rest) ≡ true
    → (test one ≡ true) × (each test rest ≡ true)
each_first test one rest pass = by (test one) pass
  where
    by : (t : Bool) → ◌≡◌ {A = Bool} (elim t [ true ↦ each test rest | false ↦ false ]) true
        → (t ≡ true) × (each test rest ≡ true)
    by true pass = (refl, pass)
    by false pass = cc

pub each_append : (test : Config → Bool) (first second : List Config) → each test (first ++ second) ≡ true
    → (each test first ≡ true) × (each test second ≡ true)
each_append test [] second pass = (refl, pass)
each_append test (one ∷ rest) second pass = by (test one) pass (each_append test rest second)
  where
    by : (t : Bool) → ◌≡◌ {A = Bool} (elim t [ true ↦ each test (rest ++ second) | false ↦ false ]) true
        → (each test (rest ++ second) ≡ true → (each test rest ≡ true) × (each test second ≡ true))
        → (◌≡◌ {A = Bool} (elim t [ true ↦ each test rest | false ↦ false ]) true) × (each test second ≡ true)
    by true pass later = later pass
    by false pass later = cc

-- the list has it
abbrev pub IsIn : JobPattern → List JobPattern → Type 0
IsIn one [] = ⊥
IsIn one (other ∷ rest) = (other ≡ one) ⊎ IsIn one rest

in_left : (one : JobPattern) (first second : List JobPattern) → IsIn one first → IsIn one (first ++ second)
in_left one [] second is = absurd is
in_left one (other ∷ rest) second (inl is) = inl is
in_left one (other ∷ rest) second (inr is) = inr (in_left one rest second is)

in_right : (one : JobPattern) (first second : List JobPattern) → IsIn one second → IsIn one (first ++ second)
in_right one [] second is = is
in_right one (other ∷ rest) second is = inr (in_right one rest second is)

things_same : (one other : Thing) → same_thing one other ≡ true → other ≡ one
things_same things.Activity things.Activity is = refl
things_same things.Timer things.Timer is = refl
things_same things.Child things.Child is = refl
things_same things.CancelRequest things.CancelRequest is = refl
things_same things.SignalRequest things.SignalRequest is = refl
things_same _ _ is = cc

pub some_is : {A : Type 0} (one other : A) → Some one ≡ Some other → one ≡ other
some_is one other is = cc

pub keep_some : (one : ThingState) (x : Option (List ThingState)) (all : List ThingState) → keep_first one x ≡ Some all
    → (rest : List ThingState) × (x ≡ Some rest) × (all ≡ one ∷ rest)
keep_some one None all is = cc
keep_some one (Some rest) all is = (rest, refl, sym (some_is (one ∷ rest) all is))

pub past_some : (now : Situation) (x : Option (List ThingState)) (next : Situation) → past_signals now x ≡ Some next
    → (rest : List ThingState) × (x ≡ Some rest)
past_some now None next is = cc
past_some now (Some rest) next is = (rest, refl)

-- what is known of a thing that changes
abbrev pub Tells : List ThingName → Thing → List ℕ → Type 0
Tells names thing id =
    (is_plain id ≡ true) × ((one : JobPattern) → IsIn one (patterns_of thing id) → IsIn one (all_patterns names))

pub change_tells : (change : ThingState → Option ThingState) (names : List ThingName) (thing : Thing) (id : List ℕ) (now all : List ThingState)
    → with_change change names thing id now ≡ Some all → plain_names names ≡ true → Tells names thing id
change_tells change [] thing id now all is plain = cc
change_tells change (name ∷ names) thing id [] all is plain = cc
change_tells change (name ∷ names) thing id (one ∷ rest) all is plain =
    by (λ r is. change_tells change names thing id rest r is parts.1) (is_named thing id name) refl is
  where
    parts : (is_plain name.1 ≡ true) × (plain_names names ≡ true)
    parts = and_parts (is_plain name.1) (plain_names names) plain

    by : ((r : List ThingState) → with_change change names thing id rest ≡ Some r → Tells names thing id)
        → (t : Bool) → is_named thing id name ≡ t
        → ◌≡◌ {A = Option (List ThingState)} (elim t [
          | true ↦ change_first (change one) rest
          | false ↦ keep_first one (with_change change names thing id rest)
        ]) (Some all)
        → Tells (name ∷ names) thing id
    by deeper true p is =
        let both : (same_thing thing name.0 ≡ true) × (bytes_eq id name.1 ≡ true) = and_parts (same_thing thing name.0) (bytes_eq id name.1) p in
        let t : name.0 ≡ thing = things_same thing name.0 both.0 in
        let i : name.1 ≡ id = same id name.1 both.1 in (
          subst (λ text. is_plain text ≡ true) i parts.0,
          λ pattern there. in_left pattern (patterns_of name.0 name.1) (all_patterns names)
              (subst (λ text. IsIn pattern (patterns_of name.0 text)) (sym i)
              (subst (λ kind. IsIn pattern (patterns_of kind id)) (sym t) there)),
        )
    by deeper false p is =
        let tail : (r : List ThingState) × (with_change change names thing id rest ≡ Some r) × (all ≡ one ∷ r) =
        keep_some one (with_change change names thing id rest) all is in
        let later : Tells names thing id = deeper tail.0 tail.1 in
        (later.0, λ pattern there. in_right pattern (patterns_of name.0 name.1) (all_patterns names) (later.1 pattern there))

module _ (test : Config → Bool) (make : Situation → Config) (names : List ThingName) (passed : List JobPattern) (now next : Situation) where
  made : (x : Option Situation) (rest : List Config) → x ≡ Some next → each test (listed make x ++ rest) ≡ true → test (make next) ≡ true
  made x rest is pass =
      (each_first test (make next) rest
      (subst (λ (y : Option Situation). each test (listed make y ++ rest) ≡ true) is pass)).0

  each_told_sound : (list : List JobPattern) (one : JobPattern) → IsIn one list → is_among one passed ≡ false
      → after_news names one now ≡ Some next → each test (each_told make names list passed now) ≡ true → test (make next) ≡ true
  each_told_sound [] one there new is pass = absurd there
  each_told_sound (other ∷ rest) one there new is pass =
      by (each_told_sound rest one) (is_among other passed) refl pass there
    where
      by : (IsIn one rest → is_among one passed ≡ false → after_news names one now ≡ Some next
          → each test (each_told make names rest passed now) ≡ true → test (make next) ≡ true)
          → (t : Bool) → is_among other passed ≡ t
          → each test (elim t [
            | true ↦ each_told make names rest passed now
            | false ↦ listed make (after_news names other now) ++ each_told make names rest passed now
          ]) ≡ true
          → (other ≡ one) ⊎ IsIn one rest → test (make next) ≡ true
      by later true p pass (inl alike) =
          absurd (both_ways (is_among one passed) new (subst (λ pattern. is_among pattern passed ≡ true) alike p))
      by later true p pass (inr more) = later more new is pass
      by later false p pass (inl alike) =
          made (after_news names other now) (each_told make names rest passed now)
          (ap (λ pattern. after_news names pattern now) alike ∙ is) pass
      by later false p pass (inr more) =
          later more new is (each_append test (listed make (after_news names other now)) (each_told make names rest passed now) pass).1

  answered : (one : JobPattern) → after_version one now ≡ Some next → record now { awaits_version = false } ≡ next
  answered (patterns.Version _ _) is = some_is _ _ is
  answered (patterns.AnyVersion _) is = some_is _ _ is
  answered _ is = cc

  module _ (state : RowsState) (job : Job) (none : is_none passed state job ≡ true) where
    new_to : (one : JobPattern) → is_for_job one state job ≡ true → is_among one passed ≡ false
    new_to one is = by (is_among one passed) refl
      where
        by : (t : Bool) → is_among one passed ≡ t → t ≡ false
        by true p = absurd (not_among one passed state job none p is)
        by false p = refl

    -- tidings of a thing
    news_sound : (thing : Thing) (id : List ℕ) (change : ThingState → Option ThingState) (one : JobPattern)
        → plain_names names ≡ true → IsIn one (patterns_of thing id)
        → (is_plain id ≡ true → is_for_job one state job ≡ true)
        → past_signals now (with_change change names thing id now.things) ≡ Some next
        → after_news names one now ≡ Some next
        → each test (each_told make names (all_patterns names) passed now) ≡ true → test (make next) ≡ true
    news_sound thing id change one plain there matches late is pass =
        let rest : (r : List ThingState) × (with_change change names thing id now.things ≡ Some r) =
        past_some now (with_change change names thing id now.things) next late in
        let tells : Tells names thing id = change_tells change names thing id now.things rest.0 rest.1 plain in
        each_told_sound (all_patterns names) one (tells.1 one there) (new_to one (matches tells.0)) is pass

    abbrev Third : List Config
    Third = each_told make names (all_patterns names) passed now

    abbrev Second : List Config
    Second = make (record now { takes_signals = false }) ∷ Third

    abbrev Rest : List Config
    Rest = make now ∷ Second

    early_is : (t : Bool) → ◌≡◌ {A = Option Situation} (elim t [ true ↦ Some now | false ↦ None ]) (Some next) → now ≡ next
    early_is true is = some_is now next is
    early_is false is = cc

    first_is : now ≡ next → each test Rest ≡ true → test (make next) ≡ true
    first_is is pass = subst (λ one. test (make one) ≡ true) is (each_first test (make now) Second pass).0

    further : each test Rest ≡ true → each test (each_told make names (all_patterns names) passed now) ≡ true
    further pass = (each_first test (make (record now { takes_signals = false })) Third (each_first test (make now) Second pass).1).1

  -- while no version is awaited
  after_news_sound : (state : RowsState) (job : Job) → is_none passed state job ≡ true → plain_names names ≡ true → is_start job ≡ false
      → ◌≡◌ {A = Option Situation} (elim (pattern_of job) [ Some one ↦ after_news names one now | None ↦ Some now ]) (Some next)
      → each test (make now ∷ make (record now { takes_signals = false }) ∷ each_told make names (all_patterns names) passed now) ≡ true
      → test (make next) ≡ true
  after_news_sound state (jobs.Start w i) none plain other is pass = cc
  after_news_sound state (jobs.Signal name i) none plain other is pass =
      first_is state (jobs.Signal name i) none (early_is state (jobs.Signal name i) none now.takes_signals is) pass
  after_news_sound state jobs.CancelRequested none plain other is pass =
      subst (λ one. test (make one) ≡ true) (some_is (record now { takes_signals = false }) next is)
      (each_first test (make (record now { takes_signals = false })) (each_told make names (all_patterns names) passed now)
      (each_first test (make now) (make (record now { takes_signals = false }) ∷ each_told make names (all_patterns names) passed now) pass).1).0
  after_news_sound state (jobs.Activity id (ends.Completed r)) none plain other is pass =
      news_sound state (jobs.Activity id (ends.Completed r)) none things.Activity id end_thing (patterns.Done id) plain (inl refl)
      (λ p. own_id id state p) is is (further state (jobs.Activity id (ends.Completed r)) none pass)
  after_news_sound state (jobs.Activity id ends.Failed) none plain other is pass =
      news_sound state (jobs.Activity id ends.Failed) none things.Activity id end_thing (patterns.NotDone id) plain (inr (inl refl))
      (λ p. own_id id state p) is is (further state (jobs.Activity id ends.Failed) none pass)
  after_news_sound state (jobs.Activity id ends.TimedOut) none plain other is pass =
      news_sound state (jobs.Activity id ends.TimedOut) none things.Activity id end_thing (patterns.NotDone id) plain (inr (inl refl))
      (λ p. own_id id state p) is is (further state (jobs.Activity id ends.TimedOut) none pass)
  after_news_sound state (jobs.Activity id ends.Canceled) none plain other is pass =
      news_sound state (jobs.Activity id ends.Canceled) none things.Activity id end_thing (patterns.NotDone id) plain (inr (inl refl))
      (λ p. own_id id state p) is is (further state (jobs.Activity id ends.Canceled) none pass)
  after_news_sound state (jobs.TimerFired id) none plain other is pass =
      news_sound state (jobs.TimerFired id) none things.Timer id end_thing (patterns.Fired id) plain (inl refl)
      (λ p. own_id id state p) is is (further state (jobs.TimerFired id) none pass)
  after_news_sound state (jobs.ChildStarted id) none plain other is pass =
      news_sound state (jobs.ChildStarted id) none things.Child id start_child (patterns.ChildStarted id) plain (inl refl)
      (λ p. own_id id state p) is is (further state (jobs.ChildStarted id) none pass)
  after_news_sound state (jobs.Child id (child_ends.Completed r)) none plain other is pass =
      news_sound state (jobs.Child id (child_ends.Completed r)) none things.Child id end_thing (patterns.ChildDone id) plain (inr (inl refl))
      (λ p. own_id id state p) is is (further state (jobs.Child id (child_ends.Completed r)) none pass)
  after_news_sound state (jobs.Child id child_ends.Failed) none plain other is pass =
      news_sound state (jobs.Child id child_ends.Failed) none things.Child id end_thing (patterns.ChildNotDone id) plain (inr (inr (inl refl)))
      (λ p. own_id id state p) is is (further state (jobs.Child id child_ends.Failed) none pass)
  after_news_sound state (jobs.Child id child_ends.Canceled) none plain other is pass =
      news_sound state (jobs.Child id child_ends.Canceled) none things.Child id end_thing (patterns.ChildNotDone id) plain (inr (inr (inl refl)))
      (λ p. own_id id state p) is is (further state (jobs.Child id child_ends.Canceled) none pass)
  after_news_sound state (jobs.Child id child_ends.TimedOut) none plain other is pass =
      news_sound state (jobs.Child id child_ends.TimedOut) none things.Child id end_thing (patterns.ChildNotDone id) plain (inr (inr (inl refl)))
      (λ p. own_id id state p) is is (further state (jobs.Child id child_ends.TimedOut) none pass)
  after_news_sound state (jobs.Child id child_ends.Terminated) none plain other is pass =
      news_sound state (jobs.Child id child_ends.Terminated) none things.Child id end_thing (patterns.ChildNotDone id) plain (inr (inr (inl refl)))
      (λ p. own_id id state p) is is (further state (jobs.Child id child_ends.Terminated) none pass)
  after_news_sound state (jobs.Child id child_ends.StartFailed) none plain other is pass =
      news_sound state (jobs.Child id child_ends.StartFailed) none things.Child id end_thing (patterns.ChildNotDone id) plain (inr (inr (inl refl)))
      (λ p. own_id id state p) is is (further state (jobs.Child id child_ends.StartFailed) none pass)
  after_news_sound state (jobs.Version c v) none plain other is pass = cc
  after_news_sound state (jobs.Time t) none plain other is pass =
      first_is state (jobs.Time t) none (some_is now next is) pass
  after_news_sound state (jobs.CancelSent id) none plain other is pass =
      first_is state (jobs.CancelSent id) none (some_is now next is) pass
  after_news_sound state (jobs.CancelFailed id) none plain other is pass =
      first_is state (jobs.CancelFailed id) none (some_is now next is) pass
  after_news_sound state (jobs.SignalSent id s) none plain other is pass =
      first_is state (jobs.SignalSent id s) none (some_is now next is) pass
  after_news_sound state (jobs.SignalFailed id s) none plain other is pass =
      first_is state (jobs.SignalFailed id s) none (some_is now next is) pass

  -- what comes of a job that matches no row
  pub unmatched_sound : (state : RowsState) (job : Job) → is_none passed state job ≡ true → plain_names names ≡ true
      → is_start job ≡ false → after_job names job now ≡ Some next → each test (unmatched make names passed now) ≡ true
      → test (make next) ≡ true
  unmatched_sound state job none plain other is pass = by_pattern (pattern_of job) (after_news_sound state job none plain other) is pass
    where
      by_pattern : (found : Option JobPattern)
          → (◌≡◌ {A = Option Situation} (elim found [ Some one ↦ after_news names one now | None ↦ Some now ]) (Some next)
          → each test (make now ∷ make (record now { takes_signals = false }) ∷ each_told make names (all_patterns names) passed now) ≡ true
          → test (make next) ≡ true)
          → after_any names found now ≡ Some next → each test (unmatched make names passed now) ≡ true → test (make next) ≡ true
      by_pattern None tells is pass = by now.awaits_version is pass
        where
          by : (t : Bool) → ◌≡◌ {A = Option Situation} (elim t [ true ↦ None | false ↦ Some now ]) (Some next)
              → each test (elim t [
                | true ↦ make (record now { awaits_version = false }) ∷ []
                | false ↦ make now ∷ make (record now { takes_signals = false }) ∷ each_told make names (all_patterns names) passed now
              ]) ≡ true → test (make next) ≡ true
          by true is pass = cc
          by false is pass = tells is pass
      by_pattern (Some one) tells is pass = by now.awaits_version is pass
        where
          by : (t : Bool) → ◌≡◌ {A = Option Situation} (elim t [ true ↦ after_version one now | false ↦ after_news names one now ]) (Some next)
              → each test (elim t [
                | true ↦ make (record now { awaits_version = false }) ∷ []
                | false ↦ make now ∷ make (record now { takes_signals = false }) ∷ each_told make names (all_patterns names) passed now
              ]) ≡ true → test (make next) ≡ true
          by true is pass =
              subst (λ situation. test (make situation) ≡ true) (answered one is) (each_first test (make (record now { awaits_version = false })) [] pass).0
          by false is pass = tells is pass
