-- A live script that ends in a fault is the recorded one too. Only the version that an ask gets depends on the record,
-- and in a live activation an ask for a change that is not settled has no fault for the version that it gets.
use Rattle.std.proofs.Common.{◌≡◌, ◌⊎◌, ℕ, Bool, true, false, ◌||◌, cond, List, [], ◌∷◌, ◌++◌, Option, Some, None, is_some, ℤ, pos, negsuc, refl, sym, ap, subst, ◌∙◌, inl, inr, arith, append_assoc, append-nil, IsTrue}
use Rattle.std.specs.Prelude.{int_lt, leb, length}
use Rattle.std.proofs.lemmas.Int.{ints}
use Rattle.wh_events.specs.declared.event.Event.{Event}
use Rattle.wh_events.specs.Machines.{or_else}
use Rattle.wh_workflow.specs.declared.command.Command.{Command}
use Rattle.wh_workflow.specs.declared.command.Command.TheVariants.{Marker}
use Rattle.wh_workflow.specs.declared.job.Job.{Job}
use Rattle.wh_workflow.specs.declared.job.Job.TheVariants.{Version}
use Rattle.wh_workflow.specs.declared.fault.WorkflowFault.{WorkflowFault}
use Rattle.wh_workflow.specs.declared.fault.WorkflowFault.TheVariants.{AfterClosing, TooManyCommands, BadRange, VersionOutOfRange}
use Rattle.wh_workflow.specs.Law.{Program, IsLawful, is_ask, asks_last}
use Rattle.wh_workflow.specs.Scripts.{ActivationContext, Settled, Choice, Act, act_of, act_fault, opening_fault, cancel_fault, ask_fault, command_fault, fault_if, some_act, act_closes, given, most_commands, choice_by, choice_of, lookup_version}
use Rattle.wh_workflow.specs.Scripts.Act.{Opening, Cancelling, Closing, Asking, Other}
use Rattle.wh_workflow.specs.Activations.{Question, question_of, marker_if}
use Rattle.wh_workflow.specs.ActivationScripts.{Step, commands_in, settled_from, settled_after, first_fault, Answers, markers_at, issued_in, fault_in, state_after}
use Rattle.wh_workflow.proofs.Judging.{up_to_fault, all_stand, same_fault}
use Rattle.wh_workflow.proofs.Following.{issued_last, fault_last, IsScriptBy, IsLongestBy}
use Rattle.wh_replay.specs.Laws.{live_context, recorded_context, issued_marker, HasMarkers}
use Rattle.wh_replay.proofs.Confirming.{and_parts, not_true, true_false, asking, question_skip, choice_same, ask_same, fault_same, issued_marker-append, unmarked, no_markers, either, neither_version, lookup-append, same_bytes}

settled_last : (settled : Settled) (xs : List Step) (x : Step) → settled_after settled (xs ++ x ∷ []) ≡ settled_from (settled_after settled xs) x.job
settled_last settled [] x = refl
settled_last settled (y ∷ xs) x = settled_last (settled_from settled y.job) xs x

not_below_itself : (a : ℤ) → int_lt a a ≡ false
not_below_itself a = by (int_lt a a) refl
  where
    by : (test : Bool) → int_lt a a ≡ test → int_lt a a ≡ false
    by true e = absurd (omega (arith, ints))
    by false e = e

or_parts : (a b : Bool) → (a || b) ≡ false → (a ≡ false) × (b ≡ false)
or_parts true b e = cc
or_parts false b e = (refl, e)

or_none : {A : Type 0} (o : Option A) → or_else o None ≡ o
or_none None = refl
or_none (Some x) = refl

-- what holds of the second holds of either, after the same first
or_stays : (first x y : Option WorkflowFault) (fault : WorkflowFault) → (x ≡ Some fault → y ≡ Some fault) → or_else first x ≡ Some fault → or_else first y ≡ Some fault
or_stays None x y fault h e = h e
or_stays (Some other) x y fault h e = e

-- where the range is bad, the version doesn't matter
range_stays : (bad : Bool) (x y : Option WorkflowFault) (fault : WorkflowFault) → (bad ≡ false → x ≡ None) → or_else (fault_if bad BadRange) x ≡ Some fault → or_else (fault_if bad BadRange) y ≡ Some fault
range_stays true x y fault h e = e
range_stays false x y fault h e = absurd (let none : x ≡ None = h refl in cc)

alone : {A : Type 0} (test : Bool) → cond test (let l : List A = [] in l) [] ≡ []
alone true = refl
alone false = refl

from_settled : (test : Bool) (settled : Settled) (entry : List ℕ × ℤ) (change_id : List ℕ) → lookup_version change_id (cond test settled (settled ++ entry ∷ [])) ≡ None → lookup_version change_id settled ≡ None
from_settled true settled entry change_id e = e
from_settled false settled entry change_id e = (neither_version (lookup_version change_id settled) (lookup_version change_id (entry ∷ [])) (sym (lookup-append change_id settled (entry ∷ [])) ∙ e)).0

-- no version is unsettled by a job
still_unsettled : (settled : Settled) (job : Job) (change_id : List ℕ) → lookup_version change_id (settled_from settled job) ≡ None → lookup_version change_id settled ≡ None
still_unsettled settled (Version other version) change_id e = from_settled (is_some (lookup_version other settled)) settled (other, version) change_id e
still_unsettled settled _ change_id e = e

-- the first marker of the change is the last of these
marked_last : (change_id : List ℕ) (version : ℤ) (xs ys zs : List Command) → issued_marker change_id xs ≡ None → issued_marker change_id ys ≡ None → issued_marker change_id zs ≡ Some version → issued_marker change_id (xs ++ (ys ++ zs)) ≡ Some version
marked_last change_id version xs ys zs a b c =
    issued_marker-append change_id xs (ys ++ zs)
    ∙ (ap (λ o. or_else o (issued_marker change_id (ys ++ zs))) a ∙ (issued_marker-append change_id ys zs ∙ (ap (λ o. or_else o (issued_marker change_id zs)) b ∙ c)))

last_of : (xs : List Step) → (xs ≡ []) ⊎ ((front : List Step) × (x : Step) × (xs ≡ front ++ x ∷ []))
last_of [] = inl refl
last_of (y ∷ ys) =
    elim (last_of ys) [
      | inl none ↦ inr ([], y, ap (λ (l : List Step). y ∷ l) none)
      | inr more ↦ inr (y ∷ more.0, more.1, ap (λ (l : List Step). y ∷ l) more.2)
    ]

-- the steps of a script before another one have no fault
module _ {S : Type 0} (program : Program S) (context : ActivationContext) (jobs : List Job) (state : S) (settled : Settled) (steps : List Step) (p : IsScriptBy program context jobs state settled steps) where
  abbrev fault_by : List Step → Step → Option WorkflowFault
  fault_by before step = first_fault context (settled_after settled (before ++ step ∷ [])) (commands_in before) step.commands

  faultless_at : (front : List Step) (y : Step) (mid : List Step) (x : Step) (after : List Step) → steps ≡ front ++ y ∷ (mid ++ x ∷ after) → fault_by front y ≡ None
  faultless_at front y [] x after e = p.faultless front after y x e
  faultless_at front y (z ∷ mid) x after e = p.faultless front (mid ++ x ∷ after) y z e

  -- the fault of steps without one and one more
  with_last : (front : List Step) (y : Step) → fault_in context settled [] front ≡ None → fault_in context settled [] (front ++ y ∷ []) ≡ fault_by front y
  with_last front y clean = fault_last context settled [] front y ∙ ap (λ o. or_else o (fault_by front y)) clean

  clean_to : (front mid : List Step) (x : Step) (after : List Step) → steps ≡ front ++ (mid ++ x ∷ after) → fault_in context settled [] front ≡ None → fault_in context settled [] (front ++ mid) ≡ None
  clean_to front [] x after e clean = ap (fault_in context settled []) (append-nil front) ∙ clean
  clean_to front (y ∷ mid) x after e clean =
      ap (fault_in context settled []) (sym (append_assoc front (y ∷ []) mid))
      ∙ clean_to (front ++ y ∷ []) mid x after (e ∙ sym (append_assoc front (y ∷ []) (mid ++ x ∷ after))) (with_last front y clean ∙ faultless_at front y mid x after e)

  -- the fault of a script is that of its last step
  last_fault : (front : List Step) (x : Step) → steps ≡ front ++ x ∷ [] → fault_in context settled [] steps ≡ fault_by front x
  last_fault front x e = ap (fault_in context settled []) e ∙ with_last front x (clean_to [] front x [] e refl)

module _ (seen between events : List Event) where
  other_same : (settled : Settled) (earlier : List Command) (command : Command) → is_ask command ≡ false
      → command_fault (live_context seen between) settled earlier command ≡ command_fault (recorded_context seen between events) settled earlier command
  other_same settled earlier command no_ask =
      fault_same seen between events settled earlier command (λ change_id low high e. absurd (true_false (sym ((asking command change_id low high e).1) ∙ no_ask)))

  -- a step's commands are cut off at the same one
  up_to_same : (settled : Settled) (commands earlier : List Command) → IsTrue (asks_last commands)
      → up_to_fault (live_context seen between) settled earlier commands ≡ up_to_fault (recorded_context seen between events) settled earlier commands
  up_to_same settled [] earlier last = refl
  up_to_same settled (command ∷ []) earlier last =
      ap (λ (l : List Command). command ∷ l)
      (alone (is_some (command_fault (live_context seen between) settled earlier command)) ∙ sym (alone (is_some (command_fault (recorded_context seen between events) settled earlier command))))
  up_to_same settled (command ∷ next ∷ rest) earlier last =
      let parts = and_parts _ (asks_last (next ∷ rest)) last in
      let here = other_same settled earlier command (not_true (is_ask command) parts.0) in
      let there = up_to_same settled (next ∷ rest) (earlier ++ command ∷ []) parts.1 in
      ap (λ fault. command ∷ cond (is_some fault) [] (up_to_fault (live_context seen between) settled (earlier ++ command ∷ []) (next ∷ rest))) here
      ∙ ap (λ (l : List Command). command ∷ cond (is_some (command_fault (recorded_context seen between events) settled earlier command)) [] l) there

  -- they have the same first fault where their question has the same answer
  first_same : (settled : Settled) (commands earlier : List Command) → IsTrue (asks_last commands)
      → ((question : Question) → question_of commands ≡ Some question → choice_of (live_context seen between) settled question.0 question.1 ≡ choice_of (recorded_context seen between events) settled question.0 question.1)
      → first_fault (live_context seen between) settled earlier commands ≡ first_fault (recorded_context seen between events) settled earlier commands
  first_same settled [] earlier last h = refl
  first_same settled (command ∷ []) earlier last h =
      ap (λ fault. or_else fault None) (fault_same seen between events settled earlier command (λ change_id low high e. h (change_id, high) ((asking command change_id low high e).0)))
  first_same settled (command ∷ next ∷ rest) earlier last h =
      let parts = and_parts _ (asks_last (next ∷ rest)) last in
      let here = other_same settled earlier command (not_true (is_ask command) parts.0) in
      let there = first_same settled (next ∷ rest) (earlier ++ command ∷ []) parts.1 (λ question e. h question (question_skip command next rest ∙ e)) in
      ap (λ fault. or_else fault (first_fault (live_context seen between) settled (earlier ++ command ∷ []) (next ∷ rest))) here
      ∙ ap (or_else (command_fault (recorded_context seen between events) settled earlier command)) there

  -- a live fault of an ask is a recorded one
  ask_stays : (settled : Settled) (change_id : List ℕ) (low high : ℤ) (fault : WorkflowFault) → ask_fault (live_context seen between) settled change_id low high ≡ Some fault
      → ask_fault (recorded_context seen between events) settled change_id low high ≡ Some fault
  unfolding ask_fault
  ask_stays settled change_id low high fault e =
      elim (either (lookup_version change_id settled)) [
        | inl none ↦ unsettled none e
        | inr some ↦
            (let choice : (r : Option (List Event)) → choice_by (lookup_version change_id settled) r change_id high ≡ record { version = some.0; marked = false } = λ r. ap (λ o. choice_by o r change_id high) some.1 in
            sym (ask_same (live_context seen between) (recorded_context seen between events) settled change_id low high (choice None ∙ sym (choice (Some events)))) ∙ e)
      ]
    where
      unsettled : lookup_version change_id settled ≡ None → ask_fault (live_context seen between) settled change_id low high ≡ Some fault → ask_fault (recorded_context seen between events) settled change_id low high ≡ Some fault
      unsettled none e =
          let bad = int_lt high low || (int_lt low (negsuc 0) || int_lt high (pos 0)) in
          let got : ℤ → Option WorkflowFault = λ version. fault_if (int_lt version low || int_lt high version) VersionOutOfRange in
          let live : (choice_of (live_context seen between) settled change_id high).version ≡ high = ap (λ o. (choice_by o None change_id high).version) none in
          let fine : bad ≡ false → got high ≡ None
          = λ b. ap (λ test. fault_if (test || int_lt high high) VersionOutOfRange) ((or_parts (int_lt high low) (int_lt low (negsuc 0) || int_lt high (pos 0)) b).0) ∙ ap (λ test. fault_if test VersionOutOfRange) (not_below_itself high) in
          range_stays bad (got high) (got ((choice_of (recorded_context seen between events) settled change_id high).version)) fault fine
          (ap (λ version. or_else (fault_if bad BadRange) (got version)) (sym live) ∙ e)

  act_stays : (settled : Settled) (earlier : List Command) (act : Act) (fault : WorkflowFault) → act_fault (live_context seen between) settled earlier act ≡ Some fault → act_fault (recorded_context seen between events) settled earlier act ≡ Some fault
  unfolding opening_fault cancel_fault
  act_stays settled earlier (Opening thing id) fault e = e
  act_stays settled earlier (Cancelling thing id) fault e = e
  act_stays settled earlier Closing fault e = e
  act_stays settled earlier Other fault e = e
  act_stays settled earlier (Asking change_id low high) fault e = ask_stays settled change_id low high fault e

  fault_stays : (settled : Settled) (earlier : List Command) (command : Command) (fault : WorkflowFault) → command_fault (live_context seen between) settled earlier command ≡ Some fault → command_fault (recorded_context seen between events) settled earlier command ≡ Some fault
  unfolding command_fault
  fault_stays settled earlier command fault e =
      let many = fault_if (leb most_commands (length (given earlier))) TooManyCommands in
      let live = act_fault (live_context seen between) settled earlier (act_of command) in
      let recorded = act_fault (recorded_context seen between events) settled earlier (act_of command) in
      or_stays (fault_if (some_act act_closes earlier) AfterClosing) (or_else many live) (or_else many recorded) fault
      (or_stays many live recorded fault (act_stays settled earlier (act_of command) fault)) e

  -- a live first fault of a step is the recorded one
  first_stays : (settled : Settled) (commands earlier : List Command) (fault : WorkflowFault) → IsTrue (asks_last commands) → first_fault (live_context seen between) settled earlier commands ≡ Some fault → first_fault (recorded_context seen between events) settled earlier commands ≡ Some fault
  first_stays settled [] earlier fault last e = cc
  first_stays settled (command ∷ []) earlier fault last e =
      or_none (command_fault (recorded_context seen between events) settled earlier command)
      ∙ fault_stays settled earlier command fault (sym (or_none (command_fault (live_context seen between) settled earlier command)) ∙ e)
  first_stays settled (command ∷ next ∷ rest) earlier fault last e =
      let parts = and_parts _ (asks_last (next ∷ rest)) last in
      let here = other_same settled earlier command (not_true (is_ask command) parts.0) in
      let live = first_fault (live_context seen between) settled (earlier ++ command ∷ []) (next ∷ rest) in
      let recorded = first_fault (recorded_context seen between events) settled (earlier ++ command ∷ []) (next ∷ rest) in
      or_stays (command_fault (recorded_context seen between events) settled earlier command) live recorded fault
      (first_stays settled (next ∷ rest) (earlier ++ command ∷ []) fault parts.1)
      (ap (λ o. or_else o live) (sym here) ∙ e)

  answers_same : (settled : Settled) (question : Option Question) (job : Job)
      → ((q : Question) → question ≡ Some q → choice_of (live_context seen between) settled q.0 q.1 ≡ choice_of (recorded_context seen between events) settled q.0 q.1)
      → Answers (live_context seen between) settled question job → Answers (recorded_context seen between events) settled question job
  answers_same settled None job h a = a
  answers_same settled (Some q) job h a = a ∙ ap (λ (choice : Choice). Version q.0 choice.version) (h q refl)

  -- the marker of a question that is not settled
  unsettled_marker : (settled : Settled) (q : Question) → lookup_version q.0 settled ≡ None → markers_at (live_context seen between) settled (Some q) ≡ Marker q.0 q.1 ∷ []
  unsettled_marker settled q none = ap (λ o. let choice = choice_by o None q.0 q.1 in marker_if choice.marked q.0 choice.version) none

  settled_marker : (settled : Settled) (q : Question) (version : ℤ) → lookup_version q.0 settled ≡ Some version → markers_at (live_context seen between) settled (Some q) ≡ []
  settled_marker settled q version some = ap (λ o. let choice = choice_by o None q.0 q.1 in marker_if choice.marked q.0 choice.version) some

  -- a change that the answer to a question does not settle has no marker of it
  marks_none : (settled : Settled) (question : Option Question) (job : Job) (change_id : List ℕ) → Answers (live_context seen between) settled question job → lookup_version change_id (settled_from settled job) ≡ None
      → issued_marker change_id (markers_at (live_context seen between) settled question) ≡ None
  marks_none settled None job change_id a e = refl
  marks_none settled (Some q) job change_id a e =
      elim (either (lookup_version q.0 settled)) [
        | inl none ↦
            (let version : (choice_of (live_context seen between) settled q.0 q.1).version ≡ q.1 = ap (λ o. (choice_by o None q.0 q.1).version) none in
            let told : job ≡ Version q.0 q.1 = a ∙ ap (Version q.0) version in
            let with_it : settled_from settled job ≡ settled ++ (q.0, q.1) ∷ [] = ap (settled_from settled) told ∙ ap (λ o. cond (is_some o) settled (settled ++ (q.0, q.1) ∷ [])) none in
            let all : or_else (lookup_version change_id settled) (lookup_version change_id ((q.0, q.1) ∷ [])) ≡ None
            = sym (lookup-append change_id settled ((q.0, q.1) ∷ [])) ∙ (ap (lookup_version change_id) (sym with_it) ∙ e) in
            let parts = neither_version (lookup_version change_id settled) (lookup_version change_id ((q.0, q.1) ∷ [])) all in
            ap (issued_marker change_id) (unsettled_marker settled q none) ∙ ap (λ o. or_else o None) parts.1)
        | inr some ↦ ap (issued_marker change_id) (settled_marker settled q some.0 some.1)
      ]

  module _ {S : Type 0} (program : Program S) (lawful : IsLawful program) (jobs : List Job) (state : S) (settled : Settled) (live : List Step) (p : IsScriptBy program (live_context seen between) jobs state settled live)
      (covers : HasMarkers seen between settled live events) where
    abbrev now : List Step → Step → Settled
    now before step = settled_after settled (before ++ step ∷ [])

    abbrev gives : List Step → Step → List Command
    gives before step = program.gives (state_after program state before) step.job

    abbrev fault_of : List Step → Step → Option WorkflowFault
    fault_of before step = first_fault (live_context seen between) (now before step) (commands_in before) step.commands

    -- a step without a fault has all commands
    all_given : (before after : List Step) (step : Step) → live ≡ before ++ step ∷ after → fault_of before step ≡ None → step.commands ≡ gives before step
    all_given before after step e none =
        let here = live_context seen between in
        let stands = p.gives before after step e in
        let free : first_fault here (now before step) (commands_in before) (gives before step) ≡ None
        = sym (same_fault here (now before step) (commands_in before) (gives before step)) ∙ (ap (first_fault here (now before step) (commands_in before)) (sym stands) ∙ none) in
        stands ∙ all_stand here (now before step) (commands_in before) (gives before step) free

    -- a change that a step finds unsettled has no marker before it
    abbrev Unmarked : List Step → Type 0
    Unmarked front = (x : Step) (after : List Step) (change_id : List ℕ) → live ≡ front ++ x ∷ after → lookup_version change_id (now front x) ≡ None → issued_marker change_id (issued_in (live_context seen between) settled front) ≡ None

    unmarked_next : (front : List Step) (y : Step) → Unmarked front → Unmarked (front ++ y ∷ [])
    unmarked_next front y before x after change_id e none =
        let here = live_context seen between in
        let along : live ≡ front ++ y ∷ x ∷ after = e ∙ append_assoc front (y ∷ []) (x ∷ after) in
        let later : lookup_version change_id (settled_from (now front y) x.job) ≡ None = ap (lookup_version change_id) (sym (settled_last settled (front ++ y ∷ []) x)) ∙ none in
        let first = before y (x ∷ after) change_id along (still_unsettled (now front y) x.job change_id later) in
        let commands : issued_marker change_id y.commands ≡ None
        = ap (issued_marker change_id) (all_given front (x ∷ after) y along (p.faultless front after y x along)) ∙ no_markers change_id (gives front y) ((lawful (state_after program state front) y.job).records) in
        let marks = marks_none (now front y) (question_of y.commands) x.job change_id (p.answers front after y x along) later in
        ap (issued_marker change_id) (issued_last here settled front y)
        ∙ unmarked change_id (issued_in here settled front) (y.commands ++ markers_at here (now front y) (question_of y.commands)) first
        (unmarked change_id y.commands (markers_at here (now front y) (question_of y.commands)) commands marks)

    unmarked_to : (front mid : List Step) → Unmarked front → Unmarked (front ++ mid)
    unmarked_to front [] before = subst Unmarked (sym (append-nil front)) before
    unmarked_to front (y ∷ mid) before = subst Unmarked (append_assoc front (y ∷ []) mid) (unmarked_to (front ++ y ∷ []) mid (unmarked_next front y before))

    unmarked_at : (before : List Step) → Unmarked before
    unmarked_at before = unmarked_to [] before (λ x after change_id e none. refl)

    -- the question of a step without a fault has the same answer
    choice_here : (before after : List Step) (step : Step) (q : Question) → live ≡ before ++ step ∷ after → fault_in (live_context seen between) settled [] before ≡ None → fault_of before step ≡ None → question_of step.commands ≡ Some q
        → choice_of (live_context seen between) (now before step) q.0 q.1 ≡ choice_of (recorded_context seen between events) (now before step) q.0 q.1
    choice_here before after step q e clean none asked =
        let here = live_context seen between in
        choice_same (lookup_version q.0 (now before step)) events q.0 q.1
        (λ unsettled.
        let commands : issued_marker q.0 step.commands ≡ None = ap (issued_marker q.0) (all_given before after step e none) ∙ no_markers q.0 (gives before step) ((lawful (state_after program state before) step.job).records) in
        let mark : issued_marker q.0 (Marker q.0 q.1 ∷ []) ≡ Some q.1 = ap (λ test. or_else (cond test (Some q.1) None) None) (same_bytes q.0) in
        let marks : issued_marker q.0 (markers_at here (now before step) (question_of step.commands)) ≡ Some q.1
        = ap (λ question. issued_marker q.0 (markers_at here (now before step) question)) asked ∙ (ap (issued_marker q.0) (unsettled_marker (now before step) q unsettled) ∙ mark) in
        covers (before ++ step ∷ []) after q.0 q.1 (e ∙ sym (append_assoc before (step ∷ []) after)) (with_last program (live_context seen between) jobs state settled live p before step clean ∙ none)
        (ap (issued_marker q.0) (issued_last here settled before step)
        ∙ marked_last q.0 q.1 (issued_in here settled before) step.commands (markers_at here (now before step) (question_of step.commands)) (unmarked_at before step after q.0 e unsettled) commands marks))

    choice_at : (before after : List Step) (step next : Step) (q : Question) → live ≡ before ++ step ∷ next ∷ after → question_of step.commands ≡ Some q
        → choice_of (live_context seen between) (now before step) q.0 q.1 ≡ choice_of (recorded_context seen between events) (now before step) q.0 q.1
    choice_at before after step next q e asked = choice_here before (next ∷ after) step q e (clean_to program (live_context seen between) jobs state settled live p [] before step (next ∷ after) e refl) (p.faultless before after step next e) asked

    -- the live script is a script of the recorded activation
    recorded_script : IsScriptBy program (recorded_context seen between events) jobs state settled live
    recorded_script = record {
      first_jobs = p.first_jobs;
      begins = p.begins;
      answers = λ before after step next e. answers_same (now before step) (question_of step.commands) next.job (λ q asked. choice_at before after step next q e asked) (p.answers before after step next e);
      gives = λ before after step e. p.gives before after step e ∙ up_to_same (now before step) (gives before step) (commands_in before) ((lawful (state_after program state before) step.job).asks);
      faultless = λ before after step next e.
          let none = p.faultless before after step next e in
          let asks : IsTrue (asks_last step.commands) = ap asks_last (all_given before (next ∷ after) step e none) ∙ (lawful (state_after program state before) step.job).asks in
          sym (first_same (now before step) step.commands (commands_in before) asks (λ q asked. choice_at before after step next q e asked)) ∙ none;
    }

    -- its fault is one of the recorded activation
    fault_there : (before : List Step) (x : Step) (fault : WorkflowFault) → live ≡ before ++ x ∷ [] → fault_of before x ≡ Some fault → first_fault (recorded_context seen between events) (now before x) (commands_in before) x.commands ≡ Some fault
    fault_there before x fault e some =
        let here = live_context seen between in
        let there = recorded_context seen between events in
        let commands = gives before x in
        let whole : first_fault here (now before x) (commands_in before) commands ≡ Some fault
        = sym (same_fault here (now before x) (commands_in before) commands) ∙ (ap (first_fault here (now before x) (commands_in before)) (sym (p.gives before [] x e)) ∙ some) in
        ap (first_fault there (now before x) (commands_in before)) (recorded_script.gives before [] x e)
        ∙ (same_fault there (now before x) (commands_in before) commands
        ∙ first_stays (now before x) commands (commands_in before) fault ((lawful (state_after program state before) x.job).asks) whole)

    -- so it is the longest there too
    nothing_more : (recorded more before : List Step) (x : Step) (fault : WorkflowFault) → IsScriptBy program (recorded_context seen between events) jobs state settled recorded → recorded ≡ live ++ more → live ≡ before ++ x ∷ [] → fault_of before x ≡ Some fault
        → live ≡ recorded
    nothing_more recorded [] before x fault r e last some = sym (append-nil live) ∙ sym e
    nothing_more recorded (y ∷ more) before x fault r e last some =
        absurd (let there = fault_there before x fault last some in
        let none = r.faultless before more x y (e ∙ (ap (λ (l : List Step). l ++ y ∷ more) last ∙ append_assoc before (x ∷ []) (y ∷ more))) in
        cc)

    pub faulty_equal : (recorded : List Step) (fault : WorkflowFault) → IsLongestBy program (recorded_context seen between events) jobs state settled recorded → fault_in (live_context seen between) settled [] live ≡ Some fault → live ≡ recorded
    faulty_equal recorded fault r some =
        elim (last_of live) [
          | inl empty ↦ absurd (let none : fault_in (live_context seen between) settled [] live ≡ None = ap (fault_in (live_context seen between) settled []) empty in cc)
          | inr last ↦
              (let here : fault_of last.0 last.1 ≡ Some fault = sym (last_fault program (live_context seen between) jobs state settled live p last.0 last.1 last.2) ∙ some in
              let longer = r.longest live recorded_script in
              nothing_more recorded longer.0 last.0 last.1 fault r.script longer.1 last.2 here)
        ]

    -- the fault of the last step is the same
    last_same : (before : List Step) (x : Step) (fault : Option WorkflowFault) → live ≡ before ++ x ∷ [] → fault_of before x ≡ fault → first_fault (recorded_context seen between events) (now before x) (commands_in before) x.commands ≡ fault
    last_same before x (Some fault) e is = fault_there before x fault e is
    last_same before x None e is =
        let asks : IsTrue (asks_last x.commands) = ap asks_last (all_given before [] x e is) ∙ (lawful (state_after program state before) x.job).asks in
        let clean = clean_to program (live_context seen between) jobs state settled live p [] before x [] e refl in
        sym (first_same (now before x) x.commands (commands_in before) asks (λ q asked. choice_here before [] x q e clean is asked)) ∙ is

    -- the recorded activation finds the same fault in the live script
    pub script_fault_same : fault_in (live_context seen between) settled [] live ≡ fault_in (recorded_context seen between events) settled [] live
    script_fault_same =
        elim (last_of live) [
          | inl empty ↦ ap (fault_in (live_context seen between) settled []) empty ∙ sym (ap (fault_in (recorded_context seen between events) settled []) empty)
          | inr last ↦
              (let here = last_fault program (live_context seen between) jobs state settled live p last.0 last.1 last.2 in
              let there = last_fault program (recorded_context seen between events) jobs state settled live recorded_script last.0 last.1 last.2 in
              here ∙ (sym (last_same last.0 last.1 (fault_of last.0 last.1) last.2 refl) ∙ sym there))
        ]
