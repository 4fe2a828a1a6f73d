-- How a task ends, and why no other follows.
use Rattle.std.proofs.Common.{◌≡◌, ◌∙◌, ℕ, ◌≤◌, Bool, true, false, ◌||◌, cond, List, [], ◌∷◌, ◌++◌, length, Option, Some, None, is_some, Result, Ok, Err, refl, sym, ap, subst}
use Rattle.std.specs.Prelude.{IfOk, IfSome}
use Rattle.std.specs.List.{list_any}
use Rattle.wh_events.specs.declared.event.Event.{Event}
use Rattle.wh_workflow.specs.declared.command.Command.{Command}
use Rattle.wh_workflow.specs.declared.job.Job.{Job}
use Rattle.wh_workflow.specs.declared.fault.Mismatch.{Mismatch}
use Rattle.wh_workflow.specs.declared.fault.WorkflowFault.{WorkflowFault}
use Rattle.wh_workflow.specs.Law.{Program, IsLawful}
use Rattle.wh_workflow.specs.Names.{mismatch}
use Rattle.wh_workflow.specs.Scripts.{ActivationContext, Settled, reduced}
use Rattle.wh_workflow.specs.Activations.{Progress}
use Rattle.wh_workflow.specs.ActivationScripts.{Step, IsLongest, fault_in, issued_in, ok_unless, settled_after, state_after}
use Rattle.wh_replay.specs.declared.fault.Fault.{Fault}
use Rattle.wh_replay.specs.declared.fault.RunFault.{RunFault}
use Rattle.wh_replay.specs.declared.fault.RunFault.TheVariants.{Fault as Faulty, OutOfMemory}
use Rattle.wh_replay.specs.declared.state.ReplayState.{ReplayState}
use Rattle.wh_replay.specs.Replays.{ReplayResult, close_task, reached, task_after, unless_mismatch}
use Rattle.wh_replay.specs.Views.{context_after}
use Rattle.wh_replay.proofs.Stepping.{task_at}
use Rattle.wh_explain.specs.declared.explanation.DetailLevel.{DetailLevel}
use Rattle.wh_explain.specs.declared.explanation.DetailLevel.TheVariants.{Verdict, Steps}
use Rattle.wh_explained_tasks.specs.declared.Ending.{Ending}
use Rattle.wh_explained_tasks.specs.declared.Ending.TheVariants.{Refused, Live, Recorded}
use Rattle.wh_explained_tasks.specs.declared.ExplainedTask.{ExplainedTask}
use Rattle.wh_explained_tasks.specs.declared.Pairing.{Pairing}
use Rattle.wh_explain.specs.Differences.{difference_at, difference_of, if_differs, last_difference, last_of}
use Rattle.wh_explain.specs.Explaining.{IsTask, IsTaskAt, sent_ending, stops, unless_refused}
use Rattle.wh_explain.specs.Pairings.{differs}
use Rattle.wh_explain.specs.Private.Explaining.{LeavesTask}
use Rattle.wh_explain.specs.Private.Stepping.{Keeps, Leaves}
use Rattle.wh_explain.specs.Private.Tasks.{AddsKept, AddsUnless, EndsTask, KeepsTask, KeepsTasks, OnFault, TakesTask, explained_task, fault_at, is_passed, mismatch_at, mismatch_with, task_fault}
use Rattle.wh_explain.proofs.Agreeing.{activates, below_risen, differ_is, left_of, top}
use Rattle.wh_explain.proofs.Found.{last_more, last_pushed}
use Rattle.wh_explain.proofs.Tasks.{same_ending, task_stepped}

-- ---- what is kept

-- what is kept of a task with what is kept of its steps
pub keeps_task : (detail : DetailLevel) (at : ℕ) (shown told given : List ℕ) (seen kept steps : List Step) (ending whole : Ending) → shown ≡ told → seen ≡ kept → Keeps detail told given → Keeps detail kept steps → ending ≡ whole
    → KeepsTask detail (explained_task at shown seen ending) (explained_task at given steps whole)
keeps_task Verdict at shown told given seen kept steps ending whole a b known all here = here
keeps_task Steps at shown told given seen kept steps ending whole a b known all here =
    ap (λ n. explained_task at n seen ending) (a ∙ known) ∙ (ap (λ l. explained_task at given l ending) (b ∙ all) ∙ ap (explained_task at given steps) here)

-- what is kept of tasks has their difference
pub last_kept : (detail : DetailLevel) (kept tasks : List ExplainedTask) → KeepsTasks detail kept tasks → last_difference kept ≡ last_difference tasks
last_kept Verdict kept tasks keeps = keeps
last_kept Steps kept tasks keeps = ap last_difference keeps

-- tasks are kept where they are the same
pub keeps_tasks : (detail : DetailLevel) (kept tasks : List ExplainedTask) → kept ≡ tasks → KeepsTasks detail kept tasks
keeps_tasks Verdict kept tasks is = ap last_difference is
keeps_tasks Steps kept tasks is = is

-- what is kept of tasks may be all of them
pub keeps_all : (detail : DetailLevel) (kept tasks : List ExplainedTask) → KeepsTasks detail kept tasks → Keeps detail kept tasks
keeps_all Verdict kept tasks keeps = tt
keeps_all Steps kept tasks keeps = keeps

-- ---- where nothing differs

or_first : (a b : Bool) → (a || b) ≡ false → a ≡ false
or_first true b h = absurd (cc)
or_first false b h = refl

or_second : (a b : Bool) → (a || b) ≡ false → b ≡ false
or_second true b h = absurd (cc)
or_second false b h = h

-- where none passes a test, the last does not
last_fails : {A : Type 0} (test : A → Bool) (xs : List A) → list_any test xs ≡ false → IfSome (last_of xs) (λ x. test x ≡ false)
last_fails test [] none = tt
last_fails test (x ∷ []) none = or_first (test x) false none
last_fails test (x ∷ y ∷ ys) none = subst (λ o. IfSome o (λ z. test z ≡ false)) (sym (last_more x y ys)) (last_fails test (y ∷ ys) (or_second (test x) (list_any test (y ∷ ys)) none))

differs_not : (found : Option Pairing) → IfSome found (λ one. differs one ≡ false) → if_differs found ≡ None
differs_not None none = refl
differs_not (Some pairing) none = ap (λ b. cond b (Some pairing) None) none

-- a task that does not stop shows no difference
pub difference_free : (ending : Ending) → stops ending ≡ false → difference_at ending ≡ None
difference_free Refused passes = absurd (cc)
difference_free (Live sent) passes = refl
difference_free (Recorded own) passes = differs_not (last_of own) (last_fails differs own passes)

-- ---- the end of a task

-- a task has the fault, or sends the same
pub same_fault : (at : ℕ) (events : List Event) (one other : List Command) (fault : Option WorkflowFault) (recorded : Option (List Event)) → (fault ≡ None → one ≡ other) → fault_at at fault (mismatch_with events one recorded) ≡ fault_at at fault (mismatch_with events other recorded)
same_fault at events one other None recorded same = ap (λ l. mismatch_at at (mismatch_with events l recorded)) (same refl)
same_fault at events one other (Some fault) recorded same = refl

-- the fault of a task is that of its steps
pub fault_by : {S : Type 0} (program : Program S) (events : List Event) (context : ActivationContext) (at : ℕ) (state left : S) (settled versions : Settled) (steps : List Step) (fault : Option WorkflowFault) (issued : List Command) → Leaves program context state settled steps fault left versions issued
    → fault_at at fault (mismatch_with events (reduced context issued) context.recorded) ≡ task_fault events context settled at steps
fault_by program events context at state left settled versions steps fault issued leaves =
    same_fault at events (reduced context issued) (reduced context (issued_in context settled steps)) fault context.recorded (λ none. ap (reduced context) (leaves.issued_are none))
    ∙ ap (λ o. fault_at at o (mismatch_with events (reduced context (issued_in context settled steps)) context.recorded)) leaves.fault_is

some_at : (at : ℕ) (found : Option Mismatch) → is_some (mismatch_at at found) ≡ is_some found
some_at at None = refl
some_at at (Some first) = refl

-- no task follows one that has a fault
pub stops_by_fault : (at : ℕ) (events : List Event) (sent : List Command) (fault : Option WorkflowFault) (recorded : Option (List Event)) → is_some (fault_at at fault (mismatch_with events sent recorded)) ≡ stops (unless_refused fault (sent_ending events sent recorded))
stops_by_fault at events sent (Some fault) recorded = refl
stops_by_fault at events sent None None = refl
stops_by_fault at events sent None (Some recorded) = some_at at (mismatch events sent recorded) ∙ sym (differ_is events 1 sent recorded)

pub task_stops : {S : Type 0} (program : Program S) (events : List Event) (last number : ℕ) (state : S) (settled : Settled) (task : ExplainedTask) → IsTask program events last number state settled task
    → is_some (task_fault events (context_after events last number) settled number task.steps) ≡ stops task.ending
task_stops program events last number state settled task t =
    let context = context_after events last number in
    stops_by_fault number events (reduced context (issued_in context settled task.steps)) (fault_in context settled [] task.steps) context.recorded ∙ sym (ap stops t.ending)

-- the difference of the last task
pub last_differs : (done : List ExplainedTask) (task : ExplainedTask) → last_difference (done ++ task ∷ []) ≡ difference_at task.ending
last_differs done task = ap difference_of (last_pushed done task)

-- what is kept with that of one more task
add_kept : (detail : DetailLevel) (before after done : List ExplainedTask) (task : ExplainedTask) → KeepsTasks detail before done → AddsKept detail task before after → KeepsTasks detail after (done ++ task ∷ [])
add_kept Verdict before after done task keeps adds =
    ap last_difference adds.added ∙ (last_differs before adds.kept ∙ (ap difference_at adds.keeps ∙ sym (last_differs done task)))
add_kept Steps before after done task keeps adds = adds.added ∙ (ap (λ l. l ++ adds.kept ∷ []) keeps ∙ ap (λ x. done ++ x ∷ []) adds.keeps)

pub keeps_more : (detail : DetailLevel) (before after done : List ExplainedTask) (task : ExplainedTask) (own fault : Option Fault) → KeepsTasks detail before done → last_difference done ≡ None → (fault ≡ None → difference_at task.ending ≡ None) → EndsTask detail task own before after fault
    → KeepsTasks detail after (done ++ task ∷ [])
keeps_more Verdict before after done task own None keeps none free ends = ap last_difference ends.added ∙ (keeps ∙ (none ∙ sym (last_differs done task ∙ free refl)))
keeps_more Verdict before after done task own (Some fault) keeps none free ends = add_kept Verdict before after done task keeps ends.added
keeps_more Steps before after done task own fault keeps none free ends = add_kept Steps before after done task keeps ends.added

-- a task that is passed
pub end_passed : (detail : DetailLevel) (task : ExplainedTask) (own found : Option Fault) (before after : List ExplainedTask) → found ≡ own → is_passed detail found ≡ true → after ≡ before → EndsTask detail task own before after None
end_passed Verdict task own None before after is passes same = record { fault_is = is; added = same }
end_passed Verdict task own (Some fault) before after is passes same = absurd (cc)
end_passed Steps task own found before after is passes same = absurd (cc)

-- and one that is kept
pub end_kept : (detail : DetailLevel) (task : ExplainedTask) (own found fault : Option Fault) (before after : List ExplainedTask) → found ≡ own → is_passed detail found ≡ false → found ≡ fault → AddsKept detail task before after → EndsTask detail task own before after fault
end_kept detail task own found fault before after is shown same adds =
    subst (EndsTask detail task own before after) same
    (record { fault_is = is; added = subst (λ b. AddsUnless b detail task before after) (sym shown) adds })

-- ---- the replay of a task

module _ {S : Type 0} where
  -- the replay of a task has the fault, or leaves this state and these versions
  abbrev pub LeavesBy : Result (ReplayResult S) Fault → S → Settled → Option Fault → Type 0
  LeavesBy result state settled None = (left : ReplayResult S) × (result ≡ Ok left) × (left.state ≡ state) × (left.settled ≡ settled) × (left.meter ≤ top)
  LeavesBy result state settled (Some fault) = result ≡ Err fault

  compared : (number : ℕ) (left : ReplayResult S) (found : Option Mismatch) → left.meter ≤ top → LeavesBy (unless_mismatch number found left) left.state left.settled (mismatch_at number found)
  compared number left None below = (left, refl, refl, refl, below)
  compared number left (Some first) below = refl

  closed : (events : List Event) (context : ActivationContext) (number : ℕ) (recorded : Option (List Event)) (left : Progress S) → left.meter ≤ top
      → LeavesBy (close_task events context number recorded left) left.state left.script.settled (mismatch_at number (mismatch_with events (reduced context left.script.issued) recorded))
  closed events context number None left below = (reached left (reduced context left.script.issued), refl, refl, refl, below)
  closed events context number (Some recorded) left below = compared number (reached left []) (mismatch events (reduced context left.script.issued) recorded) below

  ended : (events : List Event) (context : ActivationContext) (number : ℕ) (left : Progress S) (fault : Option WorkflowFault) → left.meter ≤ top
      → LeavesBy (task_after events context number (ok_unless fault left)) left.state left.script.settled (fault_at number fault (mismatch_with events (reduced context left.script.issued) context.recorded))
  ended events context number left None below = closed events context number context.recorded left below
  ended events context number left (Some fault) below = refl

module _ {S : Type 0} (program : Program S) (lawful : IsLawful program) (events : List Event) where
  -- the replay of a task, by what is explained of it
  pub task_leaves : (last number : ℕ) (current : ReplayResult S) (task : ExplainedTask) → current.meter ≤ top → IsTask program events last number current.state current.settled task
      → LeavesBy (task_at program events last number current) (state_after program current.state task.steps) (settled_after current.settled task.steps) (task_fault events (context_after events last number) current.settled number task.steps)
  task_leaves last number current task below t =
      let context = context_after events last number in
      let left = left_of program lawful events last number current task in
      let fault = fault_in context current.settled [] task.steps in
      let is : task_at program events last number current ≡ task_after events context number (ok_unless fault left) = ap (task_after events context number) (activates program lawful events last number current task below t) in
      subst (λ r. LeavesBy r left.state left.script.settled (fault_at number fault (mismatch_with events (reduced context left.script.issued) context.recorded))) (sym is)
      (ended events context number left fault (below_risen left.meter current.meter (length task.steps) refl))

-- ---- what is found of a task

module _ {S : Type 0} (program : Program S) (detail : DetailLevel) (events : List Event) (context : ActivationContext) (told : List Job) (numbers : List ℕ) (at : ℕ) (state : S) (settled : Settled) where
  -- what is found of a task that was stepped, and the fault that it has
  pub record IsStepped (task : ExplainedTask) (own : Option Fault) (next : S) (more : Settled) : Type 0 where
    pub explained : IsTaskAt program events context told numbers at state settled task
    pub leaves : LeavesTask program state settled task next more
    pub fault_is : own ≡ task_fault events context settled at task.steps

  pub is_stepped : (jobs : List Job) (from left next : S) (known versions more : Settled) (issued sent : List Command) (steps : List Step) (fault : Option WorkflowFault) → jobs ≡ told → from ≡ state → known ≡ settled
      → IsLongest program context jobs from known steps → Leaves program context from known steps fault left versions issued → (fault ≡ None → sent ≡ reduced context issued) → next ≡ left → more ≡ versions
      → IsStepped (explained_task at numbers steps (unless_refused fault (sent_ending events sent context.recorded))) (fault_at at fault (mismatch_with events sent context.recorded)) next more
  is_stepped jobs from left next known versions more issued sent steps fault same begins knows longest leaves sends a b =
      let task = explained_task at numbers steps (unless_refused fault (sent_ending events sent context.recorded)) in
      let both = task_stepped program events context jobs told numbers at from state left next known settled versions more issued steps task fault same begins knows refl longest leaves refl refl
      (same_ending fault events sent (reduced context issued) context.recorded sends) a b in
      let P : Settled → Type 0 = λ v. fault_at at fault (mismatch_with events sent context.recorded) ≡ task_fault events context v at steps in
      record {
        explained = both.0;
        leaves = both.1;
        fault_is = subst P knows (same_fault at events sent (reduced context issued) fault context.recorded sends ∙ fault_by program events context at from left known versions steps fault issued leaves);
      }

  -- one that ended
  pub taken : (before after : List ExplainedTask) (result : Result (ReplayState S) RunFault) (task : ExplainedTask) (own fault : Option Fault) (next : S) (more : Settled) → IsStepped task own next more → EndsTask detail task own before after fault
      → IfOk result (λ left. LeavesTask program state settled task left.state left.versions) → TakesTask detail program events context told numbers at state settled before after result fault
  taken before after result task own fault next more stepped ends leaves =
      record { task = task; explained = stepped.explained; ends = record { fault_is = ends.fault_is ∙ stepped.fault_is; added = ends.added }; leaves = leaves }

  -- one that ended with a fault
  pub fault_taken : (before after : List ExplainedTask) (task : ExplainedTask) (own : Option Fault) (next : S) (more : Settled) (fault : RunFault) → IsStepped task own next more → OnFault {A = Unit {0}} (Err fault) (EndsTask detail task own before after)
      → OnFault {A = ReplayState S} (Err fault) (TakesTask detail program events context told numbers at state settled before after (Err fault))
  fault_taken before after task own next more (Faulty fault) stepped ends = taken before after (Err (Faulty fault)) task own (Some fault) next more stepped ends tt
  fault_taken before after task own next more OutOfMemory stepped ends = tt
