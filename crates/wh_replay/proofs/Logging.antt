-- A live and a recorded activation have one longest script: a workflow that also logs its steps leaves one log in both.
use Rattle.std.proofs.Common.{◌≡◌, List, [], ◌∷◌, ◌++◌, length, ℕ, ◌≤◌, Option, Some, None, Ok, Err, refl, sym, ap, subst, ◌∙◌, append_assoc, arith}
use Rattle.wh_events.specs.declared.event.Event.{Event}
use Rattle.wh_workflow.specs.declared.command.Command.{Command}
use Rattle.wh_workflow.specs.declared.job.Job.{Job}
use Rattle.wh_workflow.specs.declared.fault.WorkflowFault.{WorkflowFault}
use Rattle.wh_workflow.specs.Law.{Program, IsLawful}
use Rattle.wh_workflow.specs.Jobs.{jobs_of}
use Rattle.wh_workflow.specs.Counting.{risen}
use Rattle.wh_workflow.specs.Scripts.{ActivationContext, Settled}
use Rattle.wh_workflow.specs.Activations.{Progress, activate}
use Rattle.wh_workflow.specs.ActivationScripts.{Step, IsLongest, commands_in, settled_from, settled_after, first_fault, issued_in, fault_in, ok_unless, state_after}
use Rattle.wh_workflow.proofs.Judging.{up_to_fault, neither, all_stand, same_fault}
use Rattle.wh_workflow.proofs.Following.{state_last, IsScriptBy, IsLongestBy, whole_meets}
use Rattle.wh_workflow.proofs.Scripting.{longest_in_words, one_is_longest}
use Rattle.wh_workflow.proofs.Plain.{jobs_plain}
use Rattle.wh_replay.specs.Views.{progress}
use Rattle.wh_replay.specs.Laws.{live_context, recorded_context, ScriptsEqual, ActivationsAgree}
use Rattle.wh_replay.proofs.Settling.{ok_same}
use Rattle.wh_replay.proofs.Confirming.{Known, Covers, activate_same}
use Rattle.wh_replay.proofs.Faulty.{faulty_equal, script_fault_same}
use Rattle.std.proofs.lemmas.List.{append-nil}

settled_last : (settled : Settled) (xs : List Step) (x : Step) → settled_after settled (xs ++ x ∷ []) ≡ settled_from (settled_after settled xs) x.job
settled_last settled [] x = refl
settled_last settled (y ∷ xs) x = settled_last (settled_from settled y.job) xs x

commands_last : (xs : List Step) (x : Step) → commands_in (xs ++ x ∷ []) ≡ commands_in xs ++ x.commands
commands_last [] x = append-nil x.commands
commands_last (y ∷ xs) x = ap (λ l. y.commands ++ l) (commands_last xs x) ∙ sym (append_assoc y.commands (commands_in xs) x.commands)

without_fault : {A : Type 0} (fault : Option WorkflowFault) (x out : A) → ok_unless fault x ≡ Ok out → (fault ≡ None) × (x ≡ out)
without_fault None x out e = (refl, ok_same x out e)
without_fault (Some fault) x out e = cc

same_steps : (job : Job) (commands : List Command) (x : Step) (xs ys : List Step) → job ≡ x.job → x.commands ≡ commands → xs ≡ ys → record { job = job; commands = commands } ∷ xs ≡ x ∷ ys
same_steps job commands x xs ys p q r =
    ap (λ (j : Job). let y : Step = record { job = j; commands = commands } in y ∷ xs) p
    ∙ (ap (λ (l : List Command). let y : Step = record { job = x.job; commands = l } in y ∷ xs) (sym q) ∙ ap (λ l. x ∷ l) r)

-- workflows that give the same commands after the same steps have the same scripts
same_script : {A B : Type 0} (one : Program A) (other : Program B) (context : ActivationContext) (jobs : List Job) (first : A) (begin : B) (settled : Settled) (steps : List Step)
    → ((before : List Step) (job : Job) → one.gives (state_after one first before) job ≡ other.gives (state_after other begin before) job) → IsScriptBy one context jobs first settled steps → IsScriptBy other context jobs begin settled steps
same_script one other context jobs first begin settled steps same p = record {
  first_jobs = p.first_jobs;
  begins = p.begins;
  answers = p.answers;
  gives = λ before after step e. p.gives before after step e ∙ ap (up_to_fault context (settled_after settled (before ++ step ∷ [])) (commands_in before)) (same before step.job);
  faultless = p.faultless;
}

-- a state with the steps that led to it
record Logged (S : Type 0) : Type 0 where
  state : S
  log : List Step

module _ {S : Type 0} where
  -- the workflow with a log
  abbrev logging : Program S → Program (Logged S)
  logging program = record {
    knows = program.knows;
    initial = λ kind. record { state = program.initial kind; log = [] };
    after = λ logged job. record { state = program.after logged.state job; log = logged.log ++ record { job = job; commands = program.gives logged.state job } ∷ [] };
    gives = λ logged job. program.gives logged.state job;
  }

  abbrev begun : S → List Step → Logged S
  begun state log = record { state = state; log = log }

  -- the steps of the jobs of steps, with all commands of each step
  abbrev given_steps : Program S → S → List Step → List Step
  given_steps program state [] = []
  given_steps program state (x ∷ rest) = record { job = x.job; commands = program.gives state x.job } ∷ given_steps program (program.after state x.job) rest

  logged_state : (program : Program S) (state : S) (log steps : List Step) → (state_after (logging program) (begun state log) steps).state ≡ state_after program state steps
  logged_state program state log [] = refl
  logged_state program state log (x ∷ rest) = logged_state program (program.after state x.job) (log ++ record { job = x.job; commands = program.gives state x.job } ∷ []) rest

  logged_pairs : (program : Program S) (state : S) (log steps : List Step) → (state_after (logging program) (begun state log) steps).log ≡ log ++ given_steps program state steps
  logged_pairs program state log [] = sym (append-nil log)
  logged_pairs program state log (x ∷ rest) =
      let here : Step = record { job = x.job; commands = program.gives state x.job } in
      logged_pairs program (program.after state x.job) (log ++ here ∷ []) rest ∙ append_assoc log (here ∷ []) (given_steps program (program.after state x.job) rest)

  -- the scripts are those of the workflow without a log
  unlogged : (program : Program S) (context : ActivationContext) (jobs : List Job) (state : S) (settled : Settled) (steps : List Step) → IsScriptBy (logging program) context jobs (begun state []) settled steps → IsScriptBy program context jobs state settled steps
  unlogged program context jobs state settled steps = same_script (logging program) program context jobs (begun state []) state settled steps (λ before job. ap (λ s. program.gives s job) (logged_state program state [] before))

  longest_unlogged : (program : Program S) (context : ActivationContext) (jobs : List Job) (state : S) (settled : Settled) (steps : List Step) → IsLongestBy (logging program) context jobs (begun state []) settled steps → IsLongest program context jobs state settled steps
  longest_unlogged program context jobs state settled steps p =
      longest_in_words program context jobs state settled steps (record { script = unlogged program context jobs state settled steps p.script; longest = λ other o. p.longest other (same_script program (logging program) context jobs state (begun state []) settled other (λ before job. ap (λ s. program.gives s job) (sym (logged_state program state [] before))) o) })

  -- a script without a fault has all commands of each step
  all_given : (program : Program S) (context : ActivationContext) (jobs : List Job) (state : S) (settled : Settled) (steps before rest : List Step) → IsScriptBy program context jobs state settled steps → steps ≡ before ++ rest
      → fault_in context (settled_after settled before) (commands_in before) rest ≡ None → given_steps program (state_after program state before) rest ≡ rest
  all_given program context jobs state settled steps before [] p e none = refl
  all_given program context jobs state settled steps before (x ∷ rest) p e none =
      let here = state_after program state before in
      let commands = program.gives here x.job in
      let now = settled_from (settled_after settled before) x.job in
      let parts = neither (first_fault context now (commands_in before) x.commands) (fault_in context now (commands_in before ++ x.commands) rest) none in
      let stands : x.commands ≡ up_to_fault context now (commands_in before) commands = p.gives before rest x e ∙ ap (λ n. up_to_fault context n (commands_in before) commands) (settled_last settled before x) in
      let free : first_fault context now (commands_in before) commands ≡ None
      = sym (same_fault context now (commands_in before) commands) ∙ (ap (first_fault context now (commands_in before)) (sym stands) ∙ parts.0) in
      let later : given_steps program (state_after program state (before ++ x ∷ [])) rest ≡ rest
      = all_given program context jobs state settled steps (before ++ x ∷ []) rest p (e ∙ sym (append_assoc before (x ∷ []) rest))
      (ap (λ n. fault_in context n (commands_in (before ++ x ∷ [])) rest) (settled_last settled before x) ∙ (ap (λ l. fault_in context now l rest) (commands_last before x) ∙ parts.1)) in
      same_steps x.job commands x (given_steps program (program.after here x.job) rest) rest refl (stands ∙ all_stand context now (commands_in before) commands free)
      (ap (λ s. given_steps program s rest) (sym (state_last program state before x)) ∙ later)

  -- the log that an activation leaves is its longest script
  record Left (program : Program S) (context : ActivationContext) (jobs : List Job) (state : S) (settled : Settled) (out : Progress (Logged S)) : Type 0 where
    steps : List Step
    longest : IsLongest program context jobs state settled steps
    log : out.state.log ≡ steps
    issued : out.script.issued ≡ issued_in context settled steps

  lawful_log : (program : Program S) → IsLawful program → IsLawful (logging program)
  lawful_log program lawful logged job = lawful logged.state job

  left_of : (program : Program S) → IsLawful program → (seen between : List Event) (cut : Event) (recorded : Option (List Event)) (state : S) (settled : Settled) (out : Progress (Logged S))
      → activate (logging program) (record { seen = seen; between = between; recorded = recorded }) (jobs_of seen between cut) (progress (begun state []) settled [] 0) ≡ Ok out
      → Left program (record { seen = seen; between = between; recorded = recorded }) (jobs_of seen between cut) state settled out
  left_of program lawful seen between cut recorded state settled out e =
      let context : ActivationContext = record { seen = seen; between = between; recorded = recorded } in
      let jobs = jobs_of seen between cut in
      let meets = whole_meets (logging program) (lawful_log program lawful) context jobs (begun state []) settled 0 (jobs_plain seen between cut) (omega arith) in
      let found = without_fault (fault_in context settled [] meets.0) _ out (sym meets.3 ∙ e) in
      let longest = meets.1 in
      record {
        steps = meets.0;
        longest = longest_unlogged program context jobs state settled meets.0 longest;
        log = sym (ap (λ (p : Progress (Logged S)). p.state.log) found.1) ∙ (logged_pairs program state [] meets.0 ∙ all_given program context jobs state settled meets.0 [] meets.0 (unlogged program context jobs state settled meets.0 longest.script) refl found.0);
        issued = sym (ap (λ (p : Progress (Logged S)). p.script.issued) found.1);
      }

  -- a longest script without a fault is what the activation with a log goes through
  ends_well : (program : Program S) → IsLawful program → (seen between : List Event) (cut : Event) (recorded : Option (List Event)) (state : S) (settled : Settled) (steps : List Step)
      → IsLongest program (record { seen = seen; between = between; recorded = recorded }) (jobs_of seen between cut) state settled steps → fault_in (record { seen = seen; between = between; recorded = recorded }) settled [] steps ≡ None
      → (out : Progress (Logged S)) × (activate (logging program) (record { seen = seen; between = between; recorded = recorded }) (jobs_of seen between cut) (progress (begun state []) settled [] 0) ≡ Ok out)
  ends_well program lawful seen between cut recorded state settled steps p none =
      let context : ActivationContext = record { seen = seen; between = between; recorded = recorded } in
      let jobs = jobs_of seen between cut in
      let meets = whole_meets (logging program) (lawful_log program lawful) context jobs (begun state []) settled 0 (jobs_plain seen between cut) (omega arith) in
      let same : steps ≡ meets.0 = one_is_longest program context jobs state settled steps meets.0 p (longest_unlogged program context jobs state settled meets.0 meets.1) in
      let free : fault_in context settled [] meets.0 ≡ None = ap (fault_in context settled []) (sym same) ∙ none in
      let out : Progress (Logged S) = record {
        state = state_after (logging program) (begun state []) meets.0;
        script = record { settled = settled_after settled meets.0; issued = issued_in context settled meets.0 };
        meter = risen 0 (length meets.0);
      } in
      (out, meets.3 ∙ ap (λ o. ok_unless o out) free)

  -- where the live script has no fault
  faultless_equal : (program : Program S) → IsLawful program → (seen between events : List Event) (cut : Event) (state : S) (settled : Settled) (live recorded : List Step)
      → IsLongest program (live_context seen between) (jobs_of seen between cut) state settled live → IsLongest program (recorded_context seen between events) (jobs_of seen between cut) state settled recorded
      → fault_in (live_context seen between) settled [] live ≡ None → Covers (issued_in (live_context seen between) settled live) events → live ≡ recorded
  faultless_equal program lawful seen between events cut state settled live recorded p r none covers =
      let jobs = jobs_of seen between cut in
      let begin : Progress (Logged S) = progress (begun state []) settled [] 0 in
      let ends = ends_well program lawful seen between cut None state settled live p none in
      let first = left_of program lawful seen between cut None state settled ends.0 ends.1 in
      let same_live : live ≡ first.steps = one_is_longest program (live_context seen between) jobs state settled live first.steps p first.longest in
      let issued : ends.0.script.issued ≡ issued_in (live_context seen between) settled live = first.issued ∙ ap (issued_in (live_context seen between) settled) (sym same_live) in
      let P : List Command → Type 0 = λ l. Covers l events in
      let covered : Covers ends.0.script.issued events = subst P (sym issued) covers in
      let known : Known begin.script = record { known = λ change_id h. refl } in
      let again = activate_same (logging program) (lawful_log program lawful) seen between events jobs begin ends.0 known covered ends.1 in
      let second = left_of program lawful seen between cut (Some events) state settled ends.0 again.0 in
      same_live ∙ (sym first.log ∙ (second.log ∙ one_is_longest program (recorded_context seen between events) jobs state settled second.steps recorded second.longest r))

  -- a longest script, as the proofs follow it
  followed : (program : Program S) → IsLawful program → (context : ActivationContext) (cut : Event) (state : S) (settled : Settled) (steps : List Step)
      → IsLongest program context (jobs_of context.seen context.between cut) state settled steps → IsLongestBy program context (jobs_of context.seen context.between cut) state settled steps
  followed program lawful context cut state settled steps p =
      let jobs = jobs_of context.seen context.between cut in
      let meets = whole_meets program lawful context jobs state settled 0 (jobs_plain context.seen context.between cut) (omega arith) in
      let same = one_is_longest program context jobs state settled steps meets.0 p (longest_in_words program context jobs state settled meets.0 meets.1) in
      subst (IsLongestBy program context jobs state settled) (sym same) meets.1

  pub scripts_equal : (program : Program S) → IsLawful program → ScriptsEqual program
  scripts_equal program lawful seen between events cut state settled live recorded p r covers = (same, fault ∙ ap (fault_in there settled []) same)
    where
      there : ActivationContext
      there = recorded_context seen between events

      one : IsLongestBy program (live_context seen between) (jobs_of seen between cut) state settled live
      one = followed program lawful (live_context seen between) cut state settled live p

      by : (fault : Option WorkflowFault) → fault_in (live_context seen between) settled [] live ≡ fault → live ≡ recorded
      by None none =
          faultless_equal program lawful seen between events cut state settled live recorded p r none
          (record { covered = λ change_id version e. covers live [] change_id version (sym (append-nil live)) none e })
      by (Some fault) some =
          let other = followed program lawful (recorded_context seen between events) cut state settled recorded r in
          faulty_equal seen between events program lawful (jobs_of seen between cut) state settled live one.script covers recorded fault other some

      same : live ≡ recorded
      same = by (fault_in (live_context seen between) settled [] live) refl

      fault : fault_in (live_context seen between) settled [] live ≡ fault_in (recorded_context seen between events) settled [] live
      fault = script_fault_same seen between events program lawful (jobs_of seen between cut) state settled live one.script covers

  -- a longest script with a fault is what the activation fails by
  fails_by : (program : Program S) → IsLawful program → (context : ActivationContext) (cut : Event) (state : S) (settled : Settled) (meter : ℕ) (steps : List Step) (fault : WorkflowFault) → meter ≤ 0xffff_ffff_ffff_ffff
      → IsLongest program context (jobs_of context.seen context.between cut) state settled steps → fault_in context settled [] steps ≡ Some fault
      → activate program context (jobs_of context.seen context.between cut) (progress state settled [] meter) ≡ Err fault
  fails_by program lawful context cut state settled meter steps fault below p some =
      let jobs = jobs_of context.seen context.between cut in
      let meets = whole_meets program lawful context jobs state settled meter (jobs_plain context.seen context.between cut) below in
      let same = one_is_longest program context jobs state settled steps meets.0 p (longest_in_words program context jobs state settled meets.0 meets.1) in
      let out : Progress S = record {
        state = state_after program state meets.0;
        script = record { settled = settled_after settled meets.0; issued = issued_in context settled meets.0 };
        meter = risen meter (length meets.0);
      } in
      meets.3 ∙ ap (λ o. ok_unless o out) (ap (fault_in context settled []) (sym same) ∙ some)

  -- a longest script without a fault is what the activation gives
  gives_by : (program : Program S) → IsLawful program → (context : ActivationContext) (cut : Event) (state : S) (settled : Settled) (meter : ℕ) (steps : List Step) → meter ≤ 0xffff_ffff_ffff_ffff
      → IsLongest program context (jobs_of context.seen context.between cut) state settled steps → fault_in context settled [] steps ≡ None
      → (out : Progress S) × (activate program context (jobs_of context.seen context.between cut) (progress state settled [] meter) ≡ Ok out) × (out.script.issued ≡ issued_in context settled steps)
  gives_by program lawful context cut state settled meter steps below p none =
      let jobs = jobs_of context.seen context.between cut in
      let meets = whole_meets program lawful context jobs state settled meter (jobs_plain context.seen context.between cut) below in
      let same = one_is_longest program context jobs state settled steps meets.0 p (longest_in_words program context jobs state settled meets.0 meets.1) in
      let out : Progress S = record {
        state = state_after program state meets.0;
        script = record { settled = settled_after settled meets.0; issued = issued_in context settled meets.0 };
        meter = risen meter (length meets.0);
      } in
      (out, meets.3 ∙ ap (λ o. ok_unless o out) (ap (fault_in context settled []) (sym same) ∙ none), ap (issued_in context settled) (sym same))

  pub activations_agree : (program : Program S) → IsLawful program → ActivationsAgree program
  activations_agree program lawful seen between events cut state settled meter live below p covers = by (fault_in here settled [] live) refl
    where
      here : ActivationContext
      here = live_context seen between

      there : ActivationContext
      there = recorded_context seen between events

      jobs : List Job
      jobs = jobs_of seen between cut

      begin : Progress S
      begin = progress state settled [] meter

      by : (fault : Option WorkflowFault) → fault_in here settled [] live ≡ fault → activate program there jobs begin ≡ activate program here jobs begin
      by None none =
          let gives = gives_by program lawful here cut state settled meter live below p none in
          let covered : Covers (issued_in here settled live) events = record { covered = λ change_id version e. covers live [] change_id version (sym (append-nil live)) none e } in
          let known : Known begin.script = record { known = λ change_id h. refl } in
          let P : List Command → Type 0 = λ l. Covers l events in
          (activate_same program lawful seen between events jobs begin gives.0 known (subst P (sym gives.2) covered) gives.1).0 ∙ sym gives.1
      by (Some fault) some =
          let meets = whole_meets program lawful there jobs state settled meter (jobs_plain seen between cut) below in
          let recorded = longest_in_words program there jobs state settled meets.0 meets.1 in
          let equal = scripts_equal program lawful seen between events cut state settled live meets.0 p recorded covers in
          fails_by program lawful there cut state settled meter meets.0 fault below recorded (sym equal.1 ∙ some)
          ∙ sym (fails_by program lawful here cut state settled meter live fault below p some)
