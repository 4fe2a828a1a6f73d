-- The tasks of a history, one after another, up to the first that has a fault.
use Rattle.std.proofs.Common.{◌≡◌, ◌∙◌, ℕ, ◌≤◌, Bool, true, false, List, [], ◌∷◌, ◌++◌, length, take, drop, Option, Some, None, is_some, Result, Ok, Err, refl, sym, ap, subst}
use Rattle.wh_events.specs.declared.event.Event.{Event}
use Rattle.wh_events.specs.Cuts.{cuts}
use Rattle.wh_activation.specs.Cutting.{jobs_at}
use Rattle.wh_workflow.specs.Activations.{and_then}
use Rattle.wh_workflow.specs.Law.{Program, IsLawful}
use Rattle.wh_workflow.specs.Scripts.{Settled}
use Rattle.wh_workflow.specs.ActivationScripts.{settled_after, state_after}
use Rattle.wh_replay.specs.declared.cut.Cut.{Cut}
use Rattle.wh_replay.specs.declared.fault.ReplayedTasks.{ReplayedTasks}
use Rattle.wh_replay.specs.declared.fault.Fault.{Fault}
use Rattle.wh_replay.specs.declared.fault.RunFault.{RunFault}
use Rattle.wh_replay.specs.declared.fault.RunFault.TheVariants.{Fault as Faulty, OutOfMemory}
use Rattle.wh_replay.specs.declared.state.ReplayState.{ReplayState}
use Rattle.wh_replay.specs.Activating.{IsCutAfter}
use Rattle.wh_replay.specs.Outcomes.{Answers, ends_live, replay_result}
use Rattle.wh_split.specs.Splits.{first_of}
use Rattle.wh_replay.specs.Replays.{ReplayResult, replay_after}
use Rattle.wh_replay.specs.Views.{context_of, context_after}
use Rattle.wh_replay.proofs.Stepping.{IsNext, no_cut, task_at, walk_err, walk_ok}
use Rattle.wh_explain.specs.declared.explanation.DetailLevel.{DetailLevel}
use Rattle.wh_explained_tasks.specs.declared.ExplainedTask.{ExplainedTask}
use Rattle.wh_explain.specs.Differences.{difference_at, last_difference}
use Rattle.wh_explain.specs.Explaining.{IsTask, stops}
use Rattle.wh_explain.specs.Numbers.{numbers_at}
use Rattle.wh_explain.specs.Private.Tasks.{AreKept, EndsTask, KeepsTasks, OnFault, TakesTask, task_fault, walked}
use Rattle.wh_explain.specs.Private.Explaining.{LeavesTask}
use Rattle.wh_explain.proofs.Agreeing.{top}
use Rattle.wh_explain.proofs.Ends.{LeavesBy, difference_free, keeps_more, last_differs, task_leaves, task_stops}
use Rattle.wh_explain.proofs.Tasks.{Continues, goes_past, no_cut_left, stops_here, task_here}

-- the fault of a task, at the number of its cut in the history
pub fault_here : (events : List Event) (last : ℕ) (cut : Cut) (settled : Settled) (task : ExplainedTask) (fault : Option Fault) → IsCutAfter events last cut
    → fault ≡ task_fault cut.track.now (context_of cut) settled cut.number task.steps → fault ≡ task_fault events (context_after events last cut.number) settled cut.number task.steps
fault_here events last cut settled task fault is here =
    here ∙ (ap (λ l. task_fault l (context_of cut) settled cut.number task.steps) is.history ∙ ap (λ k. task_fault events k settled cut.number task.steps) is.context)

-- what replay finds, made of these values
abbrev replayed_as : ℕ → Bool → Result ReplayedTasks Fault
replayed_as tasks live = Ok (record { tasks = tasks; live = live })

module _ {S : Type 0} (program : Program S) (events : List Event) (start : S) (settled : Settled) where
  -- the tasks so far, none of which has a fault
  pub record AreDone (detail : DetailLevel) (kept : List ExplainedTask) (last : ℕ) (state : S) (versions : Settled) : Type 0 where
    pub done : List ExplainedTask
    pub keeps : KeepsTasks detail kept done
    pub continues : Continues program events start settled done last state versions
    pub alike : last_difference done ≡ None

  -- what the replay leaves so far
  pub record HasReached (last : ℕ) (state : S) (versions : Settled) : Type 0 where
    pub current : ReplayResult S
    pub state_is : current.state ≡ state
    pub settled_is : current.settled ≡ versions
    pub below : current.meter ≤ top
    pub same : replay_after program (take last events) [] (drop last events) current ≡ replay_after program [] [] events (replay_result start settled [] 0)

  -- the task of the next cut, in what the replay leaves so far
  pub task_now : (last number : ℕ) (state : S) (versions : Settled) (task : ExplainedTask) (reached : HasReached last state versions) → IsTask program events last number state versions task → IsTask program events last number reached.current.state reached.current.settled task
  task_now last number state versions task reached t =
      let P : S → Type 0 = λ s. IsTask program events last number s versions task in
      let Q : Settled → Type 0 = λ v. IsTask program events last number reached.current.state v task in
      subst Q (sym reached.settled_is) (subst P (sym reached.state_is) t)

module _ {S : Type 0} (program : Program S) (lawful : IsLawful program) (events : List Event) (start : S) (settled : Settled) where
  -- the replay has the fault of the task
  pub ends_here : (last number : ℕ) (state : S) (versions : Settled) (task : ExplainedTask) (fault : Fault) (reached : HasReached program events start settled last state versions) → IsNext events last number → IsTask program events last number state versions task
      → Some fault ≡ task_fault events (context_after events last number) versions number task.steps → replay_after program [] [] events (replay_result start settled [] 0) ≡ Err fault
  ends_here last number state versions task fault reached n t is =
      let current = reached.current in
      let left = task_leaves program lawful events last number current task reached.below (task_now program events start settled last number state versions task reached t) in
      let found : task_fault events (context_after events last number) current.settled number task.steps ≡ Some fault = ap (λ v. task_fault events (context_after events last number) v number task.steps) reached.settled_is ∙ sym is in
      let at : task_at program events last number current ≡ Err fault = subst (LeavesBy (task_at program events last number current) (state_after program current.state task.steps) (settled_after current.settled task.steps)) found left in
      sym reached.same ∙ walk_err program events last number current fault n at

  -- or goes on with what it leaves
  pub reaches : (last number : ℕ) (state next : S) (versions more : Settled) (task : ExplainedTask) (reached : HasReached program events start settled last state versions) → IsNext events last number → IsTask program events last number state versions task
      → None ≡ task_fault events (context_after events last number) versions number task.steps → next ≡ state_after program state task.steps → more ≡ settled_after versions task.steps → HasReached program events start settled number next more
  reaches last number state next versions more task reached n t is leaves settles =
      let current = reached.current in
      let left = task_leaves program lawful events last number current task reached.below (task_now program events start settled last number state versions task reached t) in
      let found : task_fault events (context_after events last number) current.settled number task.steps ≡ None = ap (λ v. task_fault events (context_after events last number) v number task.steps) reached.settled_is ∙ sym is in
      let at = subst (LeavesBy (task_at program events last number current) (state_after program current.state task.steps) (settled_after current.settled task.steps)) found left in
      record {
        current = at.0;
        state_is = at.2 ∙ (ap (λ s. state_after program s task.steps) reached.state_is ∙ sym leaves);
        settled_is = at.3 ∙ (ap (λ v. settled_after v task.steps) reached.settled_is ∙ sym settles);
        below = at.4;
        same = walk_ok program events last number current at.0 n at.1 ∙ reached.same;
      }

  -- a task without a fault shows no difference
  free : (last number : ℕ) (state : S) (versions : Settled) (task : ExplainedTask) (fault : Option Fault) → IsTask program events last number state versions task → fault ≡ task_fault events (context_after events last number) versions number task.steps
      → fault ≡ None → difference_at task.ending ≡ None
  free last number state versions task fault t is none = difference_free task.ending (sym (task_stops program events last number state versions task t) ∙ ap is_some (sym is ∙ none))

  -- one more task, without a fault
  pub done_more : (detail : DetailLevel) (kept more : List ExplainedTask) (own : Option Fault) (last number : ℕ) (state next : S) (versions leaves : Settled) (task : ExplainedTask) → EndsTask detail task own kept more None → AreDone program events start settled detail kept last state versions
      → cuts (drop last events) ≡ number ∷ cuts (drop number events) → IsTask program events last number state versions task → None ≡ task_fault events (context_after events last number) versions number task.steps
      → LeavesTask program state versions task next leaves → AreDone program events start settled detail more number next leaves
  done_more detail kept more own last number state next versions leaves task ends done counts t fault left =
      let passes : stops task.ending ≡ false = sym (task_stops program events last number state versions task t) ∙ ap is_some (sym fault) in
      let both = left passes in
      let none = free last number state versions task None t fault in
      record {
        done = done.done ++ task ∷ [];
        keeps = keeps_more detail kept more done.done task own None done.keeps done.alike none ends;
        continues = goes_past program events start state next settled versions leaves done.done (done.done ++ task ∷ []) last number task counts done.continues t both.0 both.1 passes refl;
        alike = last_differs done.done task ∙ none refl;
      }

  -- a task that has a fault is the last
  pub kept_stopped : (detail : DetailLevel) (kept more : List ExplainedTask) (own : Option Fault) (fault : Fault) (last number : ℕ) (state : S) (versions : Settled) (task : ExplainedTask) → EndsTask detail task own kept more (Some fault) → AreDone program events start settled detail kept last state versions
      → cuts (drop last events) ≡ number ∷ cuts (drop number events) → IsTask program events last number state versions task → Some fault ≡ task_fault events (context_after events last number) versions number task.steps → AreKept detail program events start settled more
  kept_stopped detail kept more own fault last number state versions task ends done counts t is =
      let stopping : stops task.ending ≡ true = sym (task_stops program events last number state versions task t) ∙ ap is_some (sym is) in
      let tasks = done.done ++ task ∷ [] in
      record {
        tasks = tasks;
        explained = stops_here program events start state settled versions done.done tasks last number task counts done.continues t stopping refl;
        keeps = keeps_more detail kept more done.done task own (Some fault) done.keeps done.alike (free last number state versions task (Some fault) t is) ends;
      }

  -- the walk stops at the fault of a task, or without memory
  pub fault_walked : (detail : DetailLevel) (kept more : List ExplainedTask) (last : ℕ) (cut : Cut) (state : S) (versions : Settled) (result : Result (ReplayState S) RunFault) (fault : RunFault) → IsCutAfter events last cut → IsNext events last cut.number → HasReached program events start settled last state versions
      → OnFault {A = ReplayState S} (Err fault) (TakesTask detail program cut.track.now (context_of cut) (jobs_at cut.track.now cut.previous cut.number) (numbers_at cut.track.now cut.previous cut.number) cut.number state versions kept more result)
      → Answers {A = ReplayedTasks} (Err fault) (walked program events start settled) (λ found. found)
  fault_walked detail kept more last cut state versions result (Faulty fault) is n reached t =
      let here = task_here program events last cut state versions t.task is t.explained in
      let known = fault_here events last cut versions t.task (Some fault) is t.ends.fault_is in
      let found : ReplayResult S → Result ReplayedTasks Fault = λ _. replayed_as (length (cuts events)) (ends_live events) in
      ap (λ r. and_then r found) (ends_here last cut.number state versions t.task fault reached n here known)
  fault_walked detail kept more last cut state versions result OutOfMemory is n reached t = tt

  pub fault_kept : (detail : DetailLevel) (kept more : List ExplainedTask) (last : ℕ) (cut : Cut) (state : S) (versions : Settled) (result : Result (ReplayState S) RunFault) (fault : RunFault) → IsCutAfter events last cut → AreDone program events start settled detail kept last state versions
      → OnFault {A = ReplayState S} (Err fault) (TakesTask detail program cut.track.now (context_of cut) (jobs_at cut.track.now cut.previous cut.number) (numbers_at cut.track.now cut.previous cut.number) cut.number state versions kept more result)
      → OnFault {A = ReplayedTasks} (Err fault) (λ _. AreKept detail program events start settled more)
  fault_kept detail kept more last cut state versions result (Faulty fault) is done t =
      let here = task_here program events last cut state versions t.task is t.explained in
      let known = fault_here events last cut versions t.task (Some fault) is t.ends.fault_is in
      kept_stopped detail kept more _ fault last cut.number state versions t.task t.ends done is.first here known
  fault_kept detail kept more last cut state versions result OutOfMemory is done t = tt

  -- no cut is left
  pub kept_ended : (detail : DetailLevel) (kept : List ExplainedTask) (last : ℕ) (state : S) (versions : Settled) → AreDone program events start settled detail kept last state versions → cuts (drop last events) ≡ [] → AreKept detail program events start settled kept
  kept_ended detail kept last state versions done left = record {
    tasks = done.done;
    explained = no_cut_left program events start state settled versions done.done last left done.continues;
    keeps = done.keeps;
  }

  pub walk_ended : (count last : ℕ) (live : Bool) (state : S) (versions : Settled) → HasReached program events start settled last state versions → cuts (drop last events) ≡ [] → count ≡ length (cuts events) → live ≡ ends_live events
      → walked program events start settled ≡ Ok (record { tasks = count; live = live })
  walk_ended count last live state versions reached left counted lives =
      let whole = sym reached.same ∙ no_cut program (take last events) [] (drop last events) reached.current (ap first_of left) in
      let found : ReplayResult S → Result ReplayedTasks Fault = λ _. replayed_as (length (cuts events)) (ends_live events) in
      ap (λ r. and_then r found) whole ∙ (ap (λ n. replayed_as n (ends_live events)) (sym counted) ∙ ap (replayed_as count) (sym lives))
