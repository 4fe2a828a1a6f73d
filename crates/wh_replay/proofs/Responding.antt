-- The commands of a step, issued one after another, and the answer to what the last one asks.
use Rattle.std.proofs.Common.{◌≡◌, ℕ, ◌+◌, ◌-◌, Bool, true, false, not, List, [], ◌∷◌, ◌++◌, length, slice_get, Option, Some, None, Result, Ok, Err, ℤ, refl, sym, ap, ◌∙◌, subst, arith, append_assoc, append-nil, length-append}
use Rattle.wh_events.specs.declared.event.Event.{Event}
use Rattle.wh_workflow.specs.declared.command.Command.{Command}
use Rattle.wh_workflow.specs.declared.command.Command.TheVariants.{Ask, Marker}
use Rattle.wh_workflow.specs.declared.fault.WorkflowFault.{WorkflowFault}
use Rattle.wh_events.specs.Machines.{or_else}
use Rattle.wh_workflow.specs.Law.{is_ask, is_marker, asks_last, records_none}
use Rattle.wh_workflow.specs.Scripts.{ActivationContext, Settled, act_of, choice_of, command_fault, reduced}
use Rattle.wh_workflow.specs.Activations.{and_then, unless_fault, Script, issue_all, question_in, question_at, question_of, marker_if, Reply, reply, respond, Progress}
use Rattle.wh_workflow.specs.ActivationScripts.{first_fault}
use Rattle.wh_workflow.proofs.Judging.{neither}
use Rattle.std.specs.Prelude.{IfErr}
use Rattle.wh_match.specs.declared.fault.ScriptFault.{ScriptFault}
use Rattle.wh_match.specs.declared.fault.ScriptFault.TheVariants.{Workflow, OutOfMemory}
use Rattle.wh_match.specs.Faults.{workflow_fault}
use Rattle.wh_match.specs.Issuing.{Issuing, context_at, context_in, is_late_act, late_marks, with_issued, unmarked_if, with_asked, choice_in, reduced_by}
use Rattle.wh_match.proofs.Reducing.{late_marks-push, reduced_by-context}
use Rattle.wh_workflow.specs.declared.fault.Mismatch.{Mismatch}
use Rattle.wh_workflow.specs.Names.{mismatch}
use Rattle.wh_replay.specs.declared.fault.Fault.TheVariants.{Mismatch as Mismatched}
use Rattle.wh_replay.specs.Replays.{reached, close_task, unless_mismatch}
use Rattle.wh_replay.specs.declared.activation.IssueFault.{IssueFault}
use Rattle.wh_replay.specs.declared.cut.Cut.{Cut}
use Rattle.wh_replay.specs.Views.{context_of, script}
use Rattle.wh_replay.specs.Activating.{Gives, StopsBy, StopsAt, IsOf, fault_alone}
use Rattle.wh_replay.specs.Private.Activating.{IsPlain}
use Rattle.wh_replay.proofs.Confirming.{and_parts}
use Rattle.wh_replay.proofs.Settling.{issued_all}
use Rattle.wh_replay.proofs.Stepping.{slice_get-seam}

not_true : (b : Bool) → not b ≡ true → b ≡ false
not_true true h = cc
not_true false h = refl

-- all but the last of an answer's commands are plain, and the last is no marker
pub plain_front : (front : List Command) (last : Command) → asks_last (front ++ last ∷ []) ≡ true → records_none (front ++ last ∷ []) ≡ true → IsPlain front × (is_marker last ≡ false)
plain_front [] last asks records = (tt, not_true (is_marker last) ((and_parts (not (is_marker last)) true records).0))
plain_front (command ∷ []) last asks records =
    let a = and_parts (not (is_ask command)) (asks_last (last ∷ [])) asks in
    let r = and_parts (not (is_marker command)) (records_none (last ∷ [])) records in
    ((not_true (is_ask command) a.0, not_true (is_marker command) r.0, tt), (plain_front [] last a.1 r.1).1)
plain_front (command ∷ next ∷ front) last asks records =
    let a = and_parts (not (is_ask command)) (asks_last (next ∷ (front ++ last ∷ []))) asks in
    let r = and_parts (not (is_marker command)) (records_none (next ∷ (front ++ last ∷ []))) records in
    let later = plain_front (next ∷ front) last a.1 r.1 in
    ((not_true (is_ask command) a.0, not_true (is_marker command) r.0, later.0), later.1)

fault_then : {A B : Type 0} (fault : Option WorkflowFault) (one : Result A WorkflowFault) (next : A → Result B WorkflowFault) (other : Result B WorkflowFault) → other ≡ and_then one next → unless_fault fault other ≡ and_then (unless_fault fault one) next
fault_then None one next other e = e
fault_then (Some fault) one next other e = refl

issue_all-push : (context : ActivationContext) (s : Script) (front : List Command) (last : Command) → issue_all context s (front ++ last ∷ []) ≡ and_then (issue_all context s front) (λ next. issue_all context next (last ∷ []))
issue_all-push context s [] last = refl
issue_all-push context s (command ∷ front) last =
    let next : Script = record { settled = s.settled; issued = s.issued ++ command ∷ [] } in
    fault_then (command_fault context s.settled s.issued command) (issue_all context next front) (λ t. issue_all context t (last ∷ [])) (issue_all context next (front ++ last ∷ [])) (issue_all-push context next front last)

question_of-push : (front : List Command) (last : Command) → question_of (front ++ last ∷ []) ≡ question_in last
question_of-push front last =
    let index : length (front ++ last ∷ []) - 1 ≡ length front = omega (arith, length-append front (last ∷ [])) in
    ap (λ k. question_at (slice_get (front ++ last ∷ []) k)) index ∙ ap question_at (slice_get-seam front last [])

and_then_twice : {A B C : Type 0} (r : Result A WorkflowFault) (f : A → Result B WorkflowFault) (g : B → Result C WorkflowFault) → and_then (and_then r f) g ≡ and_then r (λ x. and_then (f x) g)
and_then_twice (Ok x) f g = refl
and_then_twice (Err fault) f g = refl

-- the last command of a step, after those before it
pub respond-push : (context : ActivationContext) (s : Script) (front : List Command) (last : Command) → respond context s (front ++ last ∷ []) ≡ and_then (issue_all context s front) (λ next. respond context next (last ∷ []))
respond-push context s front last =
    ap (λ question. and_then (issue_all context s (front ++ last ∷ [])) (λ next. Ok (reply context next question))) (question_of-push front last)
    ∙ (ap (λ r. and_then r (λ next. Ok (reply context next (question_in last)))) (issue_all-push context s front last)
    ∙ and_then_twice (issue_all context s front) (λ next. issue_all context next (last ∷ [])) (λ next. Ok (reply context next (question_in last))))

-- a command that can stand, and the rest
pub issued_one : (context : ActivationContext) (settled : Settled) (issued more : List Command) (command : Command) (rest : List Command) → command_fault context settled issued command ≡ None → more ≡ issued ++ command ∷ []
    → issue_all context (script settled more) rest ≡ issue_all context (script settled issued) (command ∷ rest)
issued_one context settled issued more command rest none is = ap (λ l. issue_all context (script settled l) rest) is ∙ sym (ap (λ o. unless_fault o (issue_all context (script settled (issued ++ command ∷ [])) rest)) none)

-- after commands that can stand, what follows is judged
stands_then : (context : ActivationContext) (settled : Settled) (earlier front rest : List Command) → first_fault context settled earlier front ≡ None → first_fault context settled earlier (front ++ rest) ≡ first_fault context settled (earlier ++ front) rest
stands_then context settled earlier [] rest none = ap (λ l. first_fault context settled l rest) (sym (append-nil earlier))
stands_then context settled earlier (command ∷ front) rest none =
    let next = earlier ++ command ∷ [] in
    let parts = neither (command_fault context settled earlier command) (first_fault context settled next front) none in
    ap (λ o. or_else o (first_fault context settled next (front ++ rest))) parts.0
    ∙ (stands_then context settled next front rest parts.1 ∙ ap (λ l. first_fault context settled l rest) (append_assoc earlier (command ∷ []) front))

-- one more command can stand
pub stands_one : (context : ActivationContext) (settled : Settled) (earlier front issued : List Command) (command : Command) → issued ≡ earlier ++ front → first_fault context settled earlier front ≡ None → command_fault context settled issued command ≡ None
    → first_fault context settled earlier (front ++ command ∷ []) ≡ None
stands_one context settled earlier front issued command is none fits =
    stands_then context settled earlier front (command ∷ []) none ∙ ap (λ o. or_else o None) (ap (λ l. command_fault context settled l command) (sym is) ∙ fits)

-- the next one can't
pub stops_by : (A : Type 0) (context : ActivationContext) (settled : Settled) (earlier front issued rest whole : List Command) (command : Command) (place : ℕ) (fault : ScriptFault) → whole ≡ front ++ command ∷ rest → place ≡ length front + 1 → issued ≡ earlier ++ front
    → first_fault context settled earlier front ≡ None → workflow_fault {A = A} (Err fault) ≡ command_fault context settled issued command → StopsBy fault context settled earlier whole place
stops_by A context settled earlier front issued rest whole command place (Workflow fault) parts size is none faulty = record {
  front = front;
  command = command;
  rest = rest;
  parts = parts;
  place_is = size;
  stands = none;
  faulty = ap (λ l. command_fault context settled l command) (sym is) ∙ sym faulty;
}
stops_by A context settled earlier front issued rest whole command place OutOfMemory parts size is none faulty = tt

-- nor does it where more follow
pub stops_sooner : (context : ActivationContext) (settled : Settled) (earlier commands more whole : List Command) (place : ℕ) (fault : ScriptFault) → whole ≡ commands ++ more → StopsBy fault context settled earlier commands place → StopsBy fault context settled earlier whole place
stops_sooner context settled earlier commands more whole place (Workflow fault) is stop = record {
  front = stop.front;
  command = stop.command;
  rest = stop.rest ++ more;
  parts = is ∙ (ap (λ l. l ++ more) stop.parts ∙ append_assoc stop.front (stop.command ∷ stop.rest) more);
  place_is = stop.place_is;
  stands = stop.stands;
  faulty = stop.faulty;
}
stops_sooner context settled earlier commands more whole place OutOfMemory is stop = tt

-- commands that are all issued can stand
all_stand : (context : ActivationContext) (settled : Settled) (earlier commands : List Command) (next : Script) → issue_all context (script settled earlier) commands ≡ Ok next → first_fault context settled earlier commands ≡ None
all_stand context settled earlier [] next e = refl
all_stand context settled earlier (command ∷ rest) next e = by (command_fault context settled earlier command) e (all_stand context settled (earlier ++ command ∷ []) rest next)
  where
    by : (fault : Option WorkflowFault) → unless_fault fault (issue_all context (script settled (earlier ++ command ∷ [])) rest) ≡ Ok next
        → (issue_all context (script settled (earlier ++ command ∷ [])) rest ≡ Ok next → first_fault context settled (earlier ++ command ∷ []) rest ≡ None) → or_else fault (first_fault context settled (earlier ++ command ∷ []) rest) ≡ None
    by None e later = later e
    by (Some fault) e later = cc

last_faulty : (context : ActivationContext) (settled : Settled) (issued : List Command) (command : Command) (found : Option WorkflowFault) (fault : WorkflowFault)
    → and_then (unless_fault found (Ok (script settled (issued ++ command ∷ [])))) (λ next. Ok (reply context next (question_of (command ∷ [])))) ≡ Err fault → Some fault ≡ found
last_faulty context settled issued command None fault e = cc
last_faulty context settled issued command (Some other) fault e = cc

-- the last of the commands can't stand
pub stops_last : {A : Type 0} (result : Result A IssueFault) (answer : Result A ScriptFault) (context : ActivationContext) (settled : Settled) (earlier front whole : List Command) (last : Command) (next : Script) (place : ℕ) (seen : A → Reply)
    → fault_alone result ≡ answer → IfErr result (λ stop. stop.place ≡ place) → place ≡ length front + 1 → whole ≡ front ++ last ∷ [] → issue_all context (script settled earlier) front ≡ Ok next
    → Gives answer (respond context next (last ∷ [])) seen → IfErr result (StopsAt context settled earlier whole)
stops_last (Ok x) answer context settled earlier front whole last next place seen same places size parts stands gives = tt
stops_last {A} (Err stop) answer context settled earlier front whole last next place seen same places size parts stands gives =
    by stop.fault (let P : Result A ScriptFault → Type 0 = λ r. Gives r (respond context next (last ∷ [])) seen in subst P (sym same) gives)
  where
    by : (fault : ScriptFault) → Gives {A = A} (Err fault) (respond context next (last ∷ [])) seen → StopsBy fault context settled earlier whole stop.place
    by (Workflow fault) e =
        let both = issued_all context (script settled earlier) front next stands in
        let found = last_faulty context next.settled next.issued last (command_fault context next.settled next.issued last) fault e in
        stops_by A context settled earlier front next.issued [] whole last stop.place (Workflow fault) parts (places ∙ size) both.1 (all_stand context settled earlier front next stands)
        (found ∙ ap (λ (s : Settled). command_fault context s next.issued last) both.0)
    by OutOfMemory e = tt

-- an answer to what equals the whole is one to the whole
pub gives_along : {A B : Type 0} (result : Result A ScriptFault) (defined whole : Result B WorkflowFault) (seen : A → B) → whole ≡ defined → Gives result defined seen → Gives result whole seen
gives_along {A} {B} result defined whole seen e gives = let P = λ (r : Result B WorkflowFault). Gives result r seen in subst P (sym e) gives

-- the context of a script is that of its cut
place_is : (cut : Cut) (s : Issuing) → IsOf cut s → context_in cut.track.now s (context_of cut).recorded ≡ context_of cut
place_is cut s of = ap (λ k. context_at cut.track.now k s.cut (context_of cut).recorded) of.previous ∙ ap (λ k. context_at cut.track.now cut.previous k (context_of cut).recorded) of.number

-- one more command has the mark of its context
issued_late : (context here : ActivationContext) (s next : Issuing) (command : Command) → here ≡ context → s.late ≡ late_marks context s.issued → next ≡ with_issued s command (is_late_act here s.issued (act_of command)) → next.late ≡ late_marks context next.issued
issued_late context here s next command place late is =
    ap (λ (n : Issuing). n.late) is
    ∙ (ap (λ context. s.late ++ is_late_act context s.issued (act_of command) ∷ []) place
    ∙ (ap (λ l. l ++ is_late_act context s.issued (act_of command) ∷ []) late
    ∙ (sym (late_marks-push context s.issued command) ∙ sym (ap (λ (n : Issuing). late_marks context n.issued) is))))

-- a script with one more command is still that of its cut
pub issued_of : (cut : Cut) (s next : Issuing) (command : Command) → IsOf cut s → next ≡ with_issued s command (is_late_act (context_in cut.track.now s (context_of cut).recorded) s.issued (act_of command)) → IsOf cut next
issued_of cut s next command of is = record {
  previous = ap (λ (n : Issuing). n.previous) is ∙ of.previous;
  number = ap (λ (n : Issuing). n.cut) is ∙ of.number;
  late = issued_late (context_of cut) _ s next command (place_is cut s of) of.late is;
}

marks_asked : (context : ActivationContext) (issued : List Command) (change_id : List ℕ) (low high version : ℤ) (marked : Bool)
    → (late_marks context issued ++ false ∷ []) ++ unmarked_if marked ≡ late_marks context ((issued ++ Ask change_id low high ∷ []) ++ marker_if marked change_id version)
marks_asked context issued change_id low high version true =
    let ask = Ask change_id low high in
    ap (λ l. l ++ false ∷ []) (sym (late_marks-push context issued ask)) ∙ sym (late_marks-push context (issued ++ ask ∷ []) (Marker change_id version))
marks_asked context issued change_id low high version false =
    let ask = Ask change_id low high in
    append-nil (late_marks context issued ++ false ∷ []) ∙ (sym (late_marks-push context issued ask) ∙ ap (late_marks context) (sym (append-nil (issued ++ ask ∷ []))))

-- an ask has the mark of none that is late, and so has its marker
asked_late : (context : ActivationContext) (s next : Issuing) (settled : Settled) (change_id : List ℕ) (low high : ℤ) → s.late ≡ late_marks context s.issued → next ≡ with_asked s change_id low high (choice_of context settled change_id high) → next.late ≡ late_marks context next.issued
asked_late context s next settled change_id low high late is =
    let choice = choice_of context settled change_id high in
    ap (λ (n : Issuing). n.late) is
    ∙ (ap (λ l. (l ++ false ∷ []) ++ unmarked_if choice.marked) late
    ∙ (marks_asked context s.issued change_id low high choice.version choice.marked ∙ sym (ap (λ (n : Issuing). late_marks context n.issued) is)))

asked_here : (cut : Cut) (s next : Issuing) (settled : Settled) (change_id : List ℕ) (low high : ℤ) → IsOf cut s → next ≡ with_asked s change_id low high (choice_of (context_of cut) settled change_id high) → IsOf cut next
asked_here cut s next settled change_id low high of is = record {
  previous = ap (λ (n : Issuing). n.previous) is ∙ of.previous;
  number = ap (λ (n : Issuing). n.cut) is ∙ of.number;
  late = asked_late (context_of cut) s next settled change_id low high of.late is;
}

-- nor does an ask change that
pub asked_of : (cut : Cut) (s next : Issuing) (settled : Settled) (change_id : List ℕ) (low high : ℤ) (recorded : Option (List Event)) → recorded ≡ (context_of cut).recorded → IsOf cut s
    → next ≡ with_asked s change_id low high (choice_in recorded settled change_id high) → IsOf cut next
asked_of cut s next settled change_id low high recorded same of is =
    asked_here cut s next settled change_id low high of (is ∙ ap (λ o. with_asked s change_id low high (choice_in o settled change_id high)) same)

-- what is sent of a script
pub sent_is : (cut : Cut) (s : Issuing) (sent : List Command) → IsOf cut s → sent ≡ reduced_by s.late s.issued → sent ≡ reduced (context_of cut) s.issued
sent_is cut s sent of is = is ∙ (ap (λ l. reduced_by l s.issued) of.late ∙ reduced_by-context (context_of cut) s.issued)

-- the end of a task at a cut, of which this is sent
module _ {S : Type 0} (history : List Event) (context : ActivationContext) (at : ℕ) (left : Progress S) (sent : List Command) (is : sent ≡ reduced context left.script.issued) where
  -- a live task
  pub live_task : context.recorded ≡ None → close_task history context at context.recorded left ≡ Ok (reached left sent)
  live_task e = ap (λ o. close_task history context at o left) e ∙ ap (λ l. Ok (reached left l)) (sym is)

  compared : (events : List Event) (difference : Option Mismatch) → context.recorded ≡ Some events → difference ≡ mismatch history sent events → close_task history context at context.recorded left ≡ unless_mismatch at difference (reached left [])
  compared events difference e d =
      ap (λ o. close_task history context at o left) e
      ∙ (ap (λ l. unless_mismatch at (mismatch history l events) (reached left [])) (sym is) ∙ ap (λ m. unless_mismatch at m (reached left [])) (sym d))

  -- a recorded task whose commands match
  pub matched_task : (events : List Event) (difference : Option Mismatch) → context.recorded ≡ Some events → difference ≡ mismatch history sent events → difference ≡ None → close_task history context at context.recorded left ≡ Ok (reached left [])
  matched_task events difference e d none = compared events difference e d ∙ ap (λ m. unless_mismatch at m (reached left [])) none

  -- and one whose commands differ
  pub differing_task : (events : List Event) (difference : Option Mismatch) (first : Mismatch) → context.recorded ≡ Some events → difference ≡ mismatch history sent events → difference ≡ Some first → close_task history context at context.recorded left ≡ Err (Mismatched at first)
  differing_task events difference first e d some = compared events difference e d ∙ ap (λ m. unless_mismatch at m (reached left [])) some
