-- A history has only one explanation.
use Rattle.std.proofs.Common.{◌≡◌, ℕ, Bool, true, false, List, [], ◌∷◌, Result, Ok, Err, refl, sym, ap, subst, ◌∙◌}
use Rattle.wh_events.specs.declared.event.Event.{Event}
use Rattle.wh_events.specs.Cuts.{cuts}
use Rattle.wh_events.specs.Places.{history_fault}
use Rattle.wh_activation.specs.Cutting.{jobs_at}
use Rattle.wh_workflow.specs.Law.{Program}
use Rattle.wh_workflow.specs.Scripts.{Settled}
use Rattle.wh_workflow.specs.ActivationScripts.{Step, settled_after, state_after}
use Rattle.wh_workflow.proofs.Scripting.{one_is_longest}
use Rattle.wh_replay.specs.declared.fault.Fault.{Fault}
use Rattle.wh_replay.specs.Replays.{workflow_of}
use Rattle.wh_replay.specs.Tracking.{in_place}
use Rattle.wh_replay.specs.Views.{context_after}
use Rattle.wh_explained_tasks.specs.declared.Ending.{Ending}
use Rattle.wh_explained_tasks.specs.declared.ExplainedTask.{ExplainedTask}
use Rattle.wh_explain.specs.Explaining.{ending_of, stops, IsTask, AreTasks, all, stopped, passed, AreTasksIf, AreTasksPlaced}
use Rattle.wh_explain.specs.Laws.{OneExplains}

made : ℕ → List ℕ → List Step → Ending → ExplainedTask
made at given steps ending = record { at = at; given = given; steps = steps; ending = ending }

same_parts : (one other : ExplainedTask) → one.at ≡ other.at → one.given ≡ other.given → one.steps ≡ other.steps → one.ending ≡ other.ending → one ≡ other
unfolding made
same_parts one other a g b c =
    ap (λ x. made x one.given one.steps one.ending) a ∙ (ap (λ x. made other.at x one.steps one.ending) g ∙ (ap (λ x. made other.at other.given x one.ending) b ∙ ap (made other.at other.given other.steps) c))

both_ways : (one other : Bool) → one ≡ true → other ≡ false → one ≡ other → ⊥
both_ways one other a b e = cc

module _ {S : Type 0} (program : Program S) (events : List Event) where
  same_task : (last number : ℕ) (state : S) (settled : Settled) (task other : ExplainedTask) → IsTask program events last number state settled task → IsTask program events last number state settled other → task ≡ other
  same_task last number state settled task other t o =
      let context = context_after events last number in
      let steps = one_is_longest program context (jobs_at events last number) state settled task.steps other.steps t.steps o.steps in
      same_parts task other (t.number ∙ sym o.number) (t.given ∙ sym o.given) steps (t.ending ∙ (ap (ending_of events context settled) steps ∙ sym o.ending))

  same_tasks : (last : ℕ) (numbers : List ℕ) (state : S) (settled : Settled) (tasks other : List ExplainedTask) → AreTasks program events last numbers state settled tasks → AreTasks program events last numbers state settled other → tasks ≡ other
  same_tasks last numbers state settled tasks other (all at from versions) (all at2 from2 versions2) = refl
  same_tasks last numbers state settled tasks other (stopped at number rest from versions task t s) (stopped at2 number2 rest2 from2 versions2 task2 o p) =
      ap (λ x. x ∷ []) (same_task last number state settled task task2 t o)
  same_tasks last numbers state settled tasks other (stopped at number rest from versions task t s) (passed at2 number2 rest2 from2 versions2 task2 later o p q) =
      absurd (both_ways (stops task.ending) (stops task2.ending) s p (ap (λ (x : ExplainedTask). stops x.ending) (same_task last number state settled task task2 t o)))
  same_tasks last numbers state settled tasks other (passed at number rest from versions task more t s r) (stopped at2 number2 rest2 from2 versions2 task2 o p) =
      absurd (both_ways (stops task2.ending) (stops task.ending) p s (ap (λ (x : ExplainedTask). stops x.ending) (sym (same_task last number state settled task task2 t o))))
  same_tasks last numbers state settled tasks other (passed at number rest from versions task more t s r) (passed at2 number2 rest2 from2 versions2 task2 later o p q) =
      let same = same_task last number state settled task task2 t o in
      let P : ExplainedTask → Type 0 = λ x. AreTasks program events number rest (state_after program state x.steps) (settled_after settled x.steps) later in
      ap (λ x. x ∷ more) same ∙ ap (λ l. task2 ∷ l) (same_tasks number rest (state_after program state task.steps) (settled_after settled task.steps) more later r (subst P (sym same) q))

  same_known : (known : Bool) (tasks other : List ExplainedTask) → AreTasksIf known program events tasks → AreTasksIf known program events other → tasks ≡ other
  same_known true tasks other t o = same_tasks 0 (cuts events) (program.initial (workflow_of events)) [] tasks other t o
  same_known false tasks other t o = t ∙ sym o

pub one_explains : {S : Type 0} (program : Program S) → OneExplains program
one_explains program events tasks other t o = by (in_place (history_fault events) events) t o
  where
    by : (placed : Result (List Event) Fault) → AreTasksPlaced placed program tasks → AreTasksPlaced placed program other → tasks ≡ other
    by (Err fault) a b = a ∙ sym b
    by (Ok found) a b = same_known program found (program.knows (workflow_of found)) tasks other a b
