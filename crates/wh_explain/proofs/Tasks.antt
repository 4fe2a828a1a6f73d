-- The tasks of a history, one after another.
use Rattle.std.proofs.Common.{◌≡◌, ℕ, ◌-◌, true, false, List, [], ◌∷◌, ◌++◌, take, drop, slice_get, Option, Some, None, refl, sym, ap, subst, ◌∙◌, append_assoc, append-nil, IsTrue}
use Rattle.wh_events.specs.declared.event.Event.{Event}
use Rattle.wh_events.specs.Cuts.{cuts}
use Rattle.wh_machines.specs.Lookups.{events_between}
use Rattle.wh_workflow.specs.declared.command.Command.{Command}
use Rattle.wh_workflow.specs.declared.job.Job.{Job}
use Rattle.wh_workflow.specs.declared.fault.WorkflowFault.{WorkflowFault}
use Rattle.wh_workflow.specs.Law.{Program}
use Rattle.wh_workflow.specs.Scripts.{ActivationContext, Settled, reduced}
use Rattle.wh_workflow.specs.ActivationScripts.{Step, IsLongest, issued_in, settled_after, state_after}
use Rattle.wh_workflow.proofs.Following.{no_versions}
use Rattle.wh_workflow.proofs.Plain.{jobs_plain}
use Rattle.wh_activation.specs.Cutting.{jobs_in, jobs_at}
use Rattle.wh_replay.specs.declared.cut.Cut.{Cut}
use Rattle.wh_replay.specs.Views.{context_of}
use Rattle.wh_replay.specs.Activating.{IsCutAfter}
use Rattle.wh_explained_tasks.specs.declared.Ending.{Ending}
use Rattle.wh_explained_tasks.specs.declared.ExplainedTask.{ExplainedTask}
use Rattle.wh_explain.specs.Numbers.{numbers_at}
use Rattle.wh_explain.specs.Private.Stepping.{Leaves}
use Rattle.wh_explain.specs.Explaining.{sent_ending, unless_refused, stops, IsTaskAt, IsTask, AreTasks, all, stopped, passed}
use Rattle.wh_explain.specs.Private.Explaining.{LeavesTask}

-- a task that does not stop has no fault
pub no_fault : (fault : Option WorkflowFault) (whole ending : Ending) → whole ≡ unless_refused fault ending → stops whole ≡ false → fault ≡ None
no_fault None whole ending is stop = refl
no_fault (Some fault) whole ending is stop = let refused_here = ap stops is in cc

-- no job of a cut is a version job
pub told_plain : (events : List Event) (last number : ℕ) → IsTrue (no_versions (jobs_at events last number))
told_plain events last number = by (slice_get events (number - 1))
  where
    by : (cut : Option Event) → IsTrue (no_versions (jobs_in (take number events) (events_between events last number) cut))
    by None = refl
    by (Some cut) = jobs_plain (take number events) (events_between events last number) cut

-- a task ends alike where it has the fault, or sends the same
pub same_ending : (fault : Option WorkflowFault) (events : List Event) (one other : List Command) (recorded : Option (List Event)) → (fault ≡ None → one ≡ other) → unless_refused fault (sent_ending events one recorded) ≡ unless_refused fault (sent_ending events other recorded)
same_ending None events one other recorded is = ap (λ l. sent_ending events l recorded) (is refl)
same_ending (Some found) events one other recorded is = refl

module _ {S : Type 0} (program : Program S) where
  -- what is explained of a task that is stepped, and what it leaves
  pub task_stepped : (events : List Event) (context : ActivationContext) (jobs told : List Job) (numbers : List ℕ) (at : ℕ) (from state left next : S) (known settled versions more : Settled) (issued : List Command) (steps : List Step) (task : ExplainedTask) (fault : Option WorkflowFault) → jobs ≡ told → from ≡ state → known ≡ settled
      → task.steps ≡ steps → IsLongest program context jobs from known steps → Leaves program context from known steps fault left versions issued → task.at ≡ at → task.given ≡ numbers → task.ending ≡ unless_refused fault (sent_ending events (reduced context issued) context.recorded) → next ≡ left → more ≡ versions
      → IsTaskAt program events context told numbers at state settled task × LeavesTask program state settled task next more
  task_stepped events context jobs told numbers at from state left next known settled versions more issued steps task fault same begins knows whole longest leaves number given ending a b =
      let Q : S → Settled → List Step → Type 0 = λ s v l. IsLongest program context told s v l × Leaves program context s v l fault left versions issued in
      let there : Q state settled task.steps
      = subst (Q state settled) (sym whole) (subst (λ v. Q state v steps) knows (subst (λ s. Q s known steps) begins (subst (λ l. IsLongest program context l from known steps) same longest, leaves))) in
      let does = there.1 in
      let sent = reduced context issued in (
        record {
          number = number;
          given = given;
          steps = there.0;
          ending =
              ending ∙ (same_ending fault events sent (reduced context (issued_in context settled task.steps)) context.recorded (λ none. ap (reduced context) (does.issued_are none))
              ∙ ap (λ o. unless_refused o (sent_ending events (reduced context (issued_in context settled task.steps)) context.recorded)) does.fault_is);
        },
        λ pass. let none = no_fault fault task.ending (sent_ending events sent context.recorded) ending pass in (a ∙ does.left_is none, b ∙ does.versions_are none),
      )

  -- the task of a cut of the code is that at its number
  pub task_here : (events : List Event) (last : ℕ) (cut : Cut) (state : S) (settled : Settled) (task : ExplainedTask) → IsCutAfter events last cut
      → IsTaskAt program cut.track.now (context_of cut) (jobs_at cut.track.now cut.previous cut.number) (numbers_at cut.track.now cut.previous cut.number) cut.number state settled task → IsTask program events last cut.number state settled task
  task_here events last cut state settled task is here =
      let P : List Event → ℕ → ActivationContext → Type 0 = λ history previous context. IsTaskAt program history context (jobs_at history previous cut.number) (numbers_at history previous cut.number) cut.number state settled task in
      subst (P events last) is.context (subst (λ previous. P events previous (context_of cut)) is.previous (subst (λ history. P history cut.previous (context_of cut)) is.history here))

module _ {S : Type 0} (program : Program S) (events : List Event) where
  -- what is explained of the cuts that are left continues the tasks so far
  abbrev pub Continues : S → Settled → List ExplainedTask → ℕ → S → Settled → Type 0
  Continues start started done last state settled = (more : List ExplainedTask) → AreTasks program events last (cuts (drop last events)) state settled more → AreTasks program events 0 (cuts events) start started (done ++ more)

  -- no cut is left
  pub no_cut_left : (start state : S) (started settled : Settled) (done : List ExplainedTask) (last : ℕ) → cuts (drop last events) ≡ [] → Continues start started done last state settled → AreTasks program events 0 (cuts events) start started done
  no_cut_left start state started settled done last none left =
      let P : List ℕ → Type 0 = λ numbers. AreTasks program events last numbers state settled [] in
      let rest = left [] (subst P (sym none) (all last state settled)) in
      subst (AreTasks program events 0 (cuts events) start started) (append-nil done) rest

  -- the task of the next cut is the last
  pub stops_here : (start state : S) (started settled : Settled) (done tasks : List ExplainedTask) (last number : ℕ) (task : ExplainedTask) → cuts (drop last events) ≡ number ∷ cuts (drop number events) → Continues start started done last state settled
      → IsTask program events last number state settled task → stops task.ending ≡ true → tasks ≡ done ++ task ∷ [] → AreTasks program events 0 (cuts events) start started tasks
  stops_here start state started settled done tasks last number task counts before here stop is =
      let P : List ℕ → Type 0 = λ numbers. AreTasks program events last numbers state settled (task ∷ []) in
      subst (AreTasks program events 0 (cuts events) start started) (sym is) (before (task ∷ []) (subst P (sym counts) (stopped last number (cuts (drop number events)) state settled task here stop)))

  -- the task of the next cut is followed by others
  pub goes_past : (start state left : S) (started settled versions : Settled) (done tasks : List ExplainedTask) (last number : ℕ) (task : ExplainedTask) → cuts (drop last events) ≡ number ∷ cuts (drop number events) → Continues start started done last state settled
      → IsTask program events last number state settled task → left ≡ state_after program state task.steps → versions ≡ settled_after settled task.steps → stops task.ending ≡ false → tasks ≡ done ++ task ∷ [] → Continues start started tasks number left versions
  goes_past start state left started settled versions done tasks last number task counts before here leaves settles stop is more rest =
      let P : List ℕ → Type 0 = λ numbers. AreTasks program events last numbers state settled (task ∷ more) in
      let Q : S → Type 0 = λ s. AreTasks program events number (cuts (drop number events)) s versions more in
      let R : Settled → Type 0 = λ v. AreTasks program events number (cuts (drop number events)) (state_after program state task.steps) v more in
      let whole = before (task ∷ more) (subst P (sym counts) (passed last number (cuts (drop number events)) state settled task more here stop (subst R settles (subst Q leaves rest)))) in
      subst (AreTasks program events 0 (cuts events) start started) (sym (ap (λ l. l ++ more) is ∙ append_assoc done (task ∷ []) more)) whole
