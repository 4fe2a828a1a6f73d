-- The steps that a replay counts are those of its cuts' scripts.
use Rattle.std.proofs.Common.{◌≡◌, ℕ, ◌+◌, ◌≤◌, List, [], ◌∷◌, ◌++◌, length, Option, Some, None, Ok, sym, ap, ◌∙◌, arith, min}
use Rattle.wh_events.specs.declared.event.Event.{Event}
use Rattle.wh_events.specs.Machines.{machines_of}
use Rattle.wh_events.specs.Cuts.{is_cut}
use Rattle.wh_workflow.specs.declared.fault.WorkflowFault.{WorkflowFault}
use Rattle.wh_workflow.specs.declared.fault.Mismatch.{Mismatch}
use Rattle.wh_workflow.specs.Counting.{risen}
use Rattle.wh_workflow.specs.Law.{Program, IsLawful}
use Rattle.wh_workflow.specs.Jobs.{jobs_of}
use Rattle.wh_workflow.specs.Names.{mismatch}
use Rattle.wh_workflow.specs.Scripts.{ActivationContext, Settled, reduced}
use Rattle.wh_workflow.specs.Activations.{and_then, Progress, activate}
use Rattle.wh_workflow.specs.ActivationScripts.{Step, fault_in, ok_unless, outcome}
use Rattle.wh_workflow.proofs.Following.{whole_meets}
use Rattle.wh_workflow.proofs.Scripting.{longest_in_words}
use Rattle.wh_workflow.proofs.Plain.{jobs_plain}
use Rattle.wh_replay.specs.Replays.{ReplayResult, context_at, begin_at, reached, close_task, task, replay_after, start, workflow_of, unless_mismatch, with_machines, replay_tasks}
use Rattle.wh_replay.specs.Runs.{counted, going_on}
use Rattle.wh_replay.specs.Laws.{step_count, HasScripts, ended, passed, ran, StepsAreScripted, NewStepsAreScripted}
use Rattle.wh_replay.proofs.Settling.{and_then_ok, ok_same}
use Rattle.wh_replay.proofs.Advancing.{task_parts}
use Rattle.wh_replay.proofs.Raising.{top, risen_zero}
use Rattle.wh_replay.proofs.Joining.{if_true, if_false, test_of}
use Rattle.wh_replay.proofs.Resuming.{replay_parts}

min_twice : (t m a b : ℕ) → min (min (m + a) t + b) t ≡ min (m + (a + b)) t
min_twice t m a b = omega arith

risen_twice : (m a b : ℕ) → risen (risen m a) b ≡ risen m (a + b)
risen_twice m a b = min_twice top m a b

below_risen : (n m a : ℕ) → n ≡ risen m a → n ≤ top
below_risen n m a e = omega arith

faultless : {A : Type 0} (fault : Option WorkflowFault) (x out : A) → ok_unless fault x ≡ Ok out → x ≡ out
faultless None x out e = ok_same x out e
faultless (Some fault) x out e = cc

module _ {S : Type 0} where
  matched : (at : ℕ) (difference : Option Mismatch) (x out : ReplayResult S) → unless_mismatch at difference x ≡ Ok out → x ≡ out
  matched at None x out e = ok_same x out e
  matched at (Some difference) x out e = cc

  close_meter : (history : List Event) (context : ActivationContext) (at : ℕ) (recorded : Option (List Event)) (progress : Progress S) (out : ReplayResult S) → close_task history context at recorded progress ≡ Ok out → out.meter ≡ progress.meter
  close_meter history context at None progress out e = sym (ap (λ (r : ReplayResult S). r.meter) (ok_same (reached progress (reduced context progress.script.issued)) out e))
  close_meter history context at (Some events) progress out e = sym (ap (λ (r : ReplayResult S). r.meter) (matched at (mismatch history (reduced context progress.script.issued) events) (reached progress []) out e))

  outcome_meter : (program : Program S) (context : ActivationContext) (state : S) (settled : Settled) (meter : ℕ) (steps : List Step) (out : Progress S) → outcome program context state settled meter steps ≡ Ok out → out.meter ≡ risen meter (length steps)
  outcome_meter program context state settled meter steps out e = sym (ap (λ (p : Progress S). p.meter) (faultless (fault_in context settled [] steps) _ out e))

  -- the scripts of the rest of a history, and how far they raise the meter
  Counts : Program S → List Event → List Event → List Event → ReplayResult S → ReplayResult S → Type 0
  Counts program before between rest current left = (scripts : List (List Step)) × HasScripts program before between rest current scripts × (left.meter ≡ risen current.meter (step_count scripts))

  counts : (program : Program S) → IsLawful program → (before between rest : List Event) (current left : ReplayResult S) → current.meter ≤ top → replay_after program before between rest current ≡ Ok left → Counts program before between rest current left
  unfolding Counts
  counts program lawful before between [] current left below e = ([], ended before between current, sym (ap (λ (r : ReplayResult S). r.meter) (ok_same current left e)) ∙ sym (risen_zero current.meter below))
  counts program lawful before between (event ∷ rest) current left below e =
      let seen = before ++ event ∷ [] in
      let here = and_then (task program before between event rest current) (replay_after program seen [] rest) in
      let past = replay_after program seen (between ++ event ∷ []) rest current in
      test_of (is_cut event rest)
      (λ c.
      let first = and_then_ok (task program before between event rest current) (replay_after program seen [] rest) left (sym (if_true (is_cut event rest) here past c) ∙ e) in
      let context = context_at before between event rest in
      let jobs = jobs_of seen between event in
      let parts = task_parts (before ++ event ∷ rest) context event.number first.0 (activate program context jobs (begin_at current)) first.1 in
      let script = whole_meets program lawful context jobs current.state current.settled current.meter (jobs_plain seen between event) below in
      let rises : first.0.meter ≡ risen current.meter (length script.0)
      = close_meter (before ++ event ∷ rest) context event.number context.recorded parts.0 first.0 parts.2 ∙ outcome_meter program context current.state current.settled current.meter script.0 parts.0 (sym script.3 ∙ parts.1) in
      let later = counts program lawful seen [] rest first.0 left (below_risen first.0.meter current.meter (length script.0) rises) first.2 in (
        script.0 ∷ later.0,
        ran before between event rest current first.0 script.0 later.0 c (longest_in_words program context jobs current.state current.settled script.0 script.1) first.1 later.1,
        later.2 ∙ (ap (λ m. risen m (step_count later.0)) rises ∙ risen_twice current.meter (length script.0) (step_count later.0)),
      ))
      (λ c.
      let later = counts program lawful seen (between ++ event ∷ []) rest current left below (sym (if_false (is_cut event rest) here past c) ∙ e) in
      (later.0, passed before between event rest current later.0 c later.1, later.2))

  pub steps_are_scripted : (program : Program S) → IsLawful program → StepsAreScripted program
  unfolding Counts
  steps_are_scripted program lawful events left e =
      let tasks = and_then_ok (replay_tasks program events 0) (λ left. Ok (with_machines (machines_of events) left)) left e in
      let all = counts program lawful [] [] events (start program (workflow_of events) 0) tasks.0 (omega arith) (replay_parts program events 0 tasks.0 tasks.1).2 in
      (all.0, all.1, ap counted tasks.1 ∙ all.2)

  pub new_steps_are_scripted : (program : Program S) → IsLawful program → NewStepsAreScripted program
  unfolding Counts
  new_steps_are_scripted program lawful held new kept left k e =
      let all = counts program lawful held [] new (record kept { unsent = []; meter = 0 }) left (omega arith) e in
      (all.0, all.1, ap (λ r. counted (and_then r (going_on program held new 0))) k ∙ (ap counted e ∙ all.2))
