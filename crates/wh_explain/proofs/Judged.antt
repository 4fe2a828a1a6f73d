-- What replay finds of a history, by its tasks.
use Rattle.std.proofs.Common.{◌≡◌, ◌∙◌, ℕ, Bool, true, false, cond, List, [], length, Option, Some, None, Result, Ok, Err, refl, sym, ap, subst}
use Rattle.std.specs.Prelude.{◌≢◌, ◌≤◌, IfErr, IfOk, IsSome}
use Rattle.wh_events.specs.declared.event.Event.{Event}
use Rattle.wh_events.specs.declared.place.PlaceFault.{PlaceFault}
use Rattle.wh_events.specs.Cuts.{cuts}
use Rattle.wh_events.specs.Machines.{machines_of}
use Rattle.wh_events.specs.Places.{history_fault}
use Rattle.wh_json.specs.declared.fault.ReadFault.{ReadFault}
use Rattle.wh_json.specs.declared.fault.ReadFault.TheVariants.{OutOfMemory as ReadMemory}
use Rattle.wh_json.specs.Events.{history, longest}
use Rattle.wh_workflow.specs.declared.fault.Mismatch.{Mismatch}
use Rattle.wh_workflow.specs.Activations.{and_then}
use Rattle.wh_workflow.specs.Law.{Program, IsLawful}
use Rattle.wh_workflow.specs.Scripts.{Settled}
use Rattle.wh_replay.specs.declared.fault.ReplayedTasks.{ReplayedTasks}
use Rattle.wh_replay.specs.declared.fault.Fault.{Fault}
use Rattle.wh_replay.specs.declared.fault.Fault.TheVariants.{Mismatch as Mismatched}
use Rattle.wh_replay.specs.Outcomes.{replayed_tasks, ends_live}
use Rattle.wh_replay.specs.Replays.{ReplayResult, replay_after, replay_known, replay_placed, replay_tasks, start, with_machines, workflow_of}
use Rattle.wh_replay.specs.Tracking.{in_place}
use Rattle.wh_tester.specs.declared.line.Verdict.{Verdict}
use Rattle.wh_tester.specs.declared.line.Verdict.TheVariants.{Unreadable, NoCode, Faulty, OutOfMemory}
use Rattle.wh_tester.specs.Verdicts.{IsVerdict, judged, read_and_judged, verdict_on}
use Rattle.wh_explain.specs.declared.explanation.DetailLevel.{DetailLevel}
use Rattle.wh_explained_tasks.specs.declared.ExplainedTask.{ExplainedTask}
use Rattle.wh_explain.specs.declared.explanation.DetailLevel.TheVariants.{Steps, Verdict as VerdictAlone}
use Rattle.wh_explain.specs.declared.explanation.Explanation.{Explanation}
use Rattle.wh_explain.specs.Differences.{IsDifferenceIn, last_difference}
use Rattle.wh_explain.specs.Explaining.{AreTasksIf, AreTasksIn, AreTasksPlaced}
use Rattle.wh_tester.specs.UnknownTypes.{unknown_of, unknown_placed}
use Rattle.wh_explain.specs.Reading.{IsExplanationIn}
use Rattle.wh_explain.specs.Private.Findings.{IsFoundIn, IsFoundOf, IsFoundPlaced, replayed_placed}
use Rattle.wh_explain.specs.Private.Tasks.{AreKept, walked}
use Rattle.wh_explain.proofs.Ends.{keeps_all, last_kept}
use Rattle.wh_explain.proofs.Found.{difference_found}
use Rattle.wh_explain.proofs.Traced.{keeps_whole}

-- what is left of what goes on
left_alone : {A B C : Type 0} (result : Result A Fault) (left : A → B) (x : C) → and_then (and_then result (λ one. Ok (left one))) (λ _. Ok x) ≡ and_then result (λ _. Ok x)
left_alone (Ok one) left x = refl
left_alone (Err fault) left x = refl

-- an explanation with nothing but a verdict
abbrev pub verdict_alone : Verdict → Explanation
verdict_alone verdict = record { verdict = verdict; difference = None; tasks = [] }

-- and that of tasks
abbrev pub explained_by : Verdict → List ExplainedTask → Explanation
explained_by verdict tasks = record { verdict = verdict; difference = last_difference tasks; tasks = tasks }

judged_not_read : (unknown : Option (List ℕ)) (result : Result ReplayedTasks Fault) (fault : ReadFault) → judged unknown result ≢ Unreadable fault
judged_not_read (Some kind) result fault is = absurd (cc)
judged_not_read None (Ok one) fault is = absurd (cc)
judged_not_read None (Err own) fault is = absurd (cc)

judged_known : (unknown : Option (List ℕ)) (result : Result ReplayedTasks Fault) → judged unknown result ≢ OutOfMemory
judged_known (Some kind) result is = absurd (cc)
judged_known None (Ok one) is = absurd (cc)
judged_known None (Err own) is = absurd (cc)

-- a workflow type that is not named is registered, and one that is named is not
pub known_by : (knows : Bool) (kind : List ℕ) → None ≡ cond knows None (Some kind) → knows ≡ true
known_by true kind is = refl
known_by false kind is = absurd (cc)

pub unknown_by : (knows : Bool) (kind named : List ℕ) → Some named ≡ cond knows None (Some kind) → (knows ≡ false) × (named ≡ kind)
unknown_by true kind named is = absurd (cc)
unknown_by false kind named is = (refl, (let same : named ≡ kind = cc in same))

module _ {S : Type 0} (program : Program S) where
  -- the replay of a history goes by where its events are
  replayed_by_place : (events : List Event) → replayed_tasks program events ≡ replayed_placed program (in_place (history_fault events) events)
  unfolding replay_tasks
  replayed_by_place events = by (history_fault events)
    where
      by : (place : Option (ℕ × PlaceFault))
          → ◌≡◌ {A = Result ReplayedTasks Fault} (and_then (and_then (replay_placed place (replay_known (program.knows (workflow_of events)) (replay_after program [] [] events (start program (workflow_of events) 0)))) (λ left. Ok (with_machines (machines_of events) left))) (λ _. Ok (record { tasks = length (cuts events); live = ends_live events })))
          (replayed_placed program (in_place place events))
      by None = left_alone (replay_known (program.knows (workflow_of events)) (replay_after program [] [] events (start program (workflow_of events) 0))) (with_machines (machines_of events)) (record { tasks = length (cuts events); live = ends_live events })
      by (Some fault) = refl

  -- the verdict on tasks that were stepped
  verdict_walked : (events : List Event) → program.knows (workflow_of events) ≡ true → walked program events (program.initial (workflow_of events)) [] ≡ replayed_placed program (Ok events)
  verdict_walked events known =
      let all : ReplayResult S → Result ReplayedTasks Fault = λ _. Ok (record { tasks = length (cuts events); live = ends_live events }) in
      ap (λ b. and_then (replay_known b (replay_after program [] [] events (start program (workflow_of events) 0))) all) (sym known)

  -- the verdict on events in place, by whether their type is registered
  abbrev judged_where : List Event → Bool → Verdict
  judged_where events knows = judged (cond knows None (Some (workflow_of events))) (replayed_placed program (Ok events))

  -- what replay finds if the workflow type is registered
  pub walk_found : (detail : DetailLevel) (events : List Event) (state : S) (settled : Settled) (tasks : List ExplainedTask) (found : Result ReplayedTasks Fault) → program.knows (workflow_of events) ≡ true
      → state ≡ program.initial (workflow_of events) → settled ≡ [] → AreKept detail program events state settled tasks → walked program events state settled ≡ found → IsFoundPlaced detail program (Ok events) (explained_by (judged None found) tasks)
  walk_found detail events state settled tasks found known begins settles walks is =
      let P : S → Settled → Type 0 = λ s v. AreKept detail program events s v tasks × (walked program events s v ≡ found) in
      let own : P (program.initial (workflow_of events)) [] = subst (P (program.initial (workflow_of events))) settles (subst (λ s. P s settled) begins (walks, is)) in
      record {
        tasks = own.0.tasks;
        explained = subst (λ b. AreTasksIf b program events own.0.tasks) (sym known) own.0.explained;
        keeps = keeps_all detail tasks own.0.tasks own.0.keeps;
        verdict_is = ap (judged None) (sym own.1 ∙ verdict_walked events known) ∙ ap (judged_where events) (sym known);
        differs_in = last_kept detail tasks own.0.tasks own.0.keeps;
      }

  -- and where there is none
  pub no_code_found : (detail : DetailLevel) (events : List Event) (kind : List ℕ) → program.knows (workflow_of events) ≡ false → kind ≡ workflow_of events → IsFoundPlaced detail program (Ok events) (verdict_alone (NoCode kind))
  no_code_found detail events kind unknown is = record {
    tasks = [];
    explained = subst (λ b. AreTasksIf b program events []) (sym unknown) refl;
    keeps = keeps_whole detail [] [] refl;
    verdict_is = ap NoCode is ∙ ap (judged_where events) (sym unknown);
    differs_in = refl;
  }

  -- what is found of a history goes by where its events are
  pub placed_found : (detail : DetailLevel) (events : List Event) (placed : Result (List Event) Fault) (own : Explanation) → in_place (history_fault events) events ≡ placed → IsFoundPlaced detail program placed own → IsFoundOf detail program events own
  placed_found detail events placed own e found = record {
    tasks = found.tasks;
    explained = subst (λ r. AreTasksPlaced r program found.tasks) (sym e) found.explained;
    keeps = found.keeps;
    verdict_is =
        found.verdict_is
        ∙ (ap (λ r. judged (unknown_placed program r) (replayed_placed program r)) (sym e)
        ∙ ap (judged (unknown_of program events)) (sym (replayed_by_place events)));
    differs_in = found.differs_in;
  }

  -- where they are not in place, nothing else is found
  pub misplaced_found : (detail : DetailLevel) (events : List Event) (fault : Fault) → in_place (history_fault events) events ≡ Err fault → IsFoundOf detail program events (verdict_alone (Faulty fault))
  misplaced_found detail events fault e =
      placed_found detail events (Err fault) (verdict_alone (Faulty fault)) e
      (record { tasks = []; explained = refl; keeps = keeps_whole detail [] [] refl; verdict_is = refl; differs_in = refl })

  -- what is found of a file that can be read is that of its history
  pub read_found : (detail : DetailLevel) (bytes : List ℕ) (events : List Event) (own : Explanation) → history bytes ≡ Ok events → IsFoundOf detail program events own → IsFoundIn detail program bytes own
  unfolding verdict_on
  read_found detail bytes events own e found = record {
    tasks = found.tasks;
    explained = subst (λ r. AreTasksIn program r found.tasks) (sym e) found.explained;
    keeps = found.keeps;
    verdict_is = found.verdict_is ∙ ap (read_and_judged program) (sym e);
    differs_in = found.differs_in;
  }

  -- of another one nothing else is found
  pub unread_found : (detail : DetailLevel) (bytes : List ℕ) (fault : ReadFault) → history bytes ≡ Err fault → IsFoundIn detail program bytes (verdict_alone (Unreadable fault))
  unfolding verdict_on
  unread_found detail bytes fault e = record {
    tasks = [];
    explained = subst (λ r. AreTasksIn program r []) (sym e) refl;
    keeps = keeps_whole detail [] [] refl;
    verdict_is = ap (read_and_judged program) (sym e);
    differs_in = refl;
  }

  -- what is found of a history is no fault of its bytes
  pub history_read : (detail : DetailLevel) (events : List Event) (own : Explanation) → IsFoundOf detail program events own → own.verdict ≢ Unreadable ReadMemory
  history_read detail events own found is = judged_not_read (unknown_of program events) (replayed_tasks program events) ReadMemory (sym found.verdict_is ∙ is)

  known : (read : Result (List Event) ReadFault) → read_and_judged program read ≢ OutOfMemory
  known (Ok events) is = judged_known (unknown_of program events) (replayed_tasks program events) is
  known (Err fault) is = absurd (cc)

  -- the verdict that is found is the one on the file
  pub found_verdict : (detail : DetailLevel) (bytes : List ℕ) (own : Explanation) → IsFoundIn detail program bytes own → own.verdict ≢ Unreadable ReadMemory → IsVerdict program bytes own.verdict
  unfolding verdict_on
  found_verdict detail bytes own found read = record {
    exact = λ _. found.verdict_is;
    memory = λ out. absurd (known (history bytes) (sym found.verdict_is ∙ out));
    read = read;
  }

  -- and the difference that is found is the one that it stops at
  pub found_difference : (detail : DetailLevel) (bytes : List ℕ) (own : Explanation) → IsFoundIn detail program bytes own → IsDifferenceIn program bytes own.difference
  found_difference detail bytes own found = record { tasks = found.tasks; explained = found.explained; last = found.differs_in }

  pub difference_there : IsLawful program → (detail : DetailLevel) (bytes : List ℕ) (own : Explanation) (at : ℕ) (mismatch : Mismatch) → IsFoundIn detail program bytes own → own.verdict ≡ Faulty (Mismatched at mismatch) → IsSome own.difference
  difference_there lawful detail bytes own at mismatch found is =
      difference_found program lawful bytes own.difference (found_difference detail bytes own found) (at, mismatch, sym found.verdict_is ∙ is)

-- what follows of the value
pub all_ok : {X E : Type 0} {P Q : X → Type 0} (r : Result X E) → ((x : X) → P x → Q x) → IfOk r P → IfOk r Q
all_ok (Ok x) f p = f x p
all_ok (Err e) f p = tt

-- what holds of the value that is given
pub ok_along : {X E : Type 0} (P : X → Type 0) (r : Result X E) (x : X) → IfOk r (λ y. y ≡ x) → P x → IfOk r P
ok_along P (Ok y) x is p = subst P (sym is) p
ok_along P (Err e) x is p = tt

-- what is found needs no tasks, if only the verdict is kept
pub bare_found : {S : Type 0} (program : Program S) (bytes : List ℕ) (own bare : Explanation) → bare ≡ record own { tasks = [] } → IsFoundIn VerdictAlone program bytes own → IsFoundIn VerdictAlone program bytes bare
bare_found program bytes own bare is found =
    subst (IsFoundIn VerdictAlone program bytes) (sym is)
    (record { tasks = found.tasks; explained = found.explained; keeps = tt; verdict_is = found.verdict_is; differs_in = found.differs_in })

-- the tasks that are kept are those that are found
pub kept_found : {S : Type 0} (program : Program S) (bytes : List ℕ) (own : Explanation) → IsFoundIn Steps program bytes own → own.verdict ≢ Unreadable ReadMemory → IsExplanationIn program bytes own
kept_found program bytes own found read = record {
  explained = subst (AreTasksIn program (history bytes)) (sym found.keeps) found.explained;
  verdict = found_verdict program Steps bytes own found read;
  difference = found.differs_in ∙ ap last_difference (sym found.keeps);
}

pub kept_given : {S E : Type 0} (program : Program S) (bytes : List ℕ) (given : Result Explanation E) → IfOk given (IsFoundIn Steps program bytes) → IfOk given (λ own. own.verdict ≢ Unreadable ReadMemory) → IfOk given (IsExplanationIn program bytes)
kept_given program bytes (Ok own) found read = kept_found program bytes own found read
kept_given program bytes (Err e) found read = tt

-- what is found of a file that can't be read
pub unread_given : {S E : Type 0} (program : Program S) (detail : DetailLevel) (bytes : List ℕ) (fault : ReadFault) (given : Result Explanation E) → IfOk given (λ own. own ≡ verdict_alone (Unreadable fault)) → IfOk given (λ _. fault ≢ ReadMemory) → (fault ≢ ReadMemory → history bytes ≡ Err fault)
    → IfOk given (IsFoundIn detail program bytes)
unread_given program detail bytes fault (Ok own) is known exact = subst (IsFoundIn detail program bytes) (sym is) (unread_found program detail bytes fault (exact known))
unread_given program detail bytes fault (Err e) is known exact = tt

-- has no verdict of a want of memory
pub unread_known : {E : Type 0} (fault : ReadFault) (given : Result Explanation E) → IfOk given (λ own. own ≡ verdict_alone (Unreadable fault)) → IfOk given (λ _. fault ≢ ReadMemory) → IfOk given (λ own. own.verdict ≢ Unreadable ReadMemory)
unread_known fault (Ok own) made known = λ is. known (let same = sym (ap (λ (x : Explanation). x.verdict) made) ∙ is in cc)
unread_known fault (Err e) made known = tt

-- and where there is none, the file is not too long
pub unread_within : {E : Type 0} (fault : ReadFault) (bytes : List ℕ) (given : Result Explanation E) → IfErr given (λ _. fault ≡ ReadMemory) → (fault ≡ ReadMemory → length bytes ≤ longest) → IfErr given (λ _. length bytes ≤ longest)
unread_within fault bytes (Ok own) none within = tt
unread_within fault bytes (Err e) none within = within none
