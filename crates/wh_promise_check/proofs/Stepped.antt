-- An activation steps a program by its jobs, some followed by versions, and issues the commands that they get.
use Rattle.std.proofs.Common.{◌≡◌, ℕ, zero, suc, Bool, true, false, not, cond, List, [], ◌∷◌, ◌++◌, Option, Some, None, Result, Ok, Err, ℤ, refl, ap, sym, subst, ◌∙◌, append_assoc}
use Rattle.std.proofs.lemmas.List.{append-nil}
use Rattle.std.proofs.lemmas.Bool.{and_parts, and_from, not-true}
use Rattle.wh_workflow.specs.declared.job.Job.{Job}
use Rattle.wh_workflow.specs.declared.command.Command.{Command}
use Rattle.wh_workflow.specs.declared.fault.WorkflowFault.{WorkflowFault}
use Rattle.wh_workflow.specs.Counting.{ticked}
use Rattle.wh_workflow.specs.Law.{Program, IsLawful, records_none, is_marker}
use Rattle.wh_workflow.specs.Scripts.{ActivationContext, Choice, choice_of, command_fault}
use Rattle.wh_workflow.specs.Activations.{and_then, follow, unless_fault, Script, Question, question_of, marker_if, Reply, reply, issue_all, Progress, Turn, turn, settle, room, activate}
use Rattle.wh_workflow.specs.ActivationScripts.{is_version}
use Rattle.wh_promise_check.specs.Kept.{without_markers, all_versions, is_time, Interleaved, no_jobs, next_job}

pub plain_append : (xs ys : List Command) → without_markers (xs ++ ys) ≡ without_markers xs ++ without_markers ys
plain_append [] ys = refl
plain_append (x ∷ xs) ys = by (is_marker x) (plain_append xs ys)
  where
    by : (t : Bool) → without_markers (xs ++ ys) ≡ without_markers xs ++ without_markers ys
        → cond t (without_markers (xs ++ ys)) (x ∷ without_markers (xs ++ ys))
        ≡ cond t (without_markers xs) (x ∷ without_markers xs) ++ without_markers ys
    by true e = e
    by false e = ap (λ l. x ∷ l) e

plain_none : (xs : List Command) → records_none xs ≡ true → without_markers xs ≡ xs
plain_none [] none = refl
plain_none (x ∷ xs) none =
    let parts : (not (is_marker x) ≡ true) × (records_none xs ≡ true) = and_parts (not (is_marker x)) (records_none xs) none in
    rw (not-true (is_marker x) parts.0, plain_none xs parts.1) refl

plain_marker : (marked : Bool) (change : List ℕ) (version : ℤ) → without_markers (marker_if marked change version) ≡ []
plain_marker true change version = refl
plain_marker false change version = refl

issue_gives : (context : ActivationContext) (script out : Script) (commands : List Command)
    → issue_all context script commands ≡ Ok out → out.issued ≡ script.issued ++ commands
issue_gives context script out [] ok =
    let e : script ≡ out = cc in ap (λ (s : Script). s.issued) (sym e) ∙ sym (append-nil script.issued)
issue_gives context script out (command ∷ rest) ok =
    by (command_fault context script.settled script.issued command)
    (issue_gives context (record { settled = script.settled; issued = script.issued ++ command ∷ [] }) out rest) ok
  where
    next : Script
    next = record { settled = script.settled; issued = script.issued ++ command ∷ [] }

    by : (fault : Option WorkflowFault)
        → (issue_all context next rest ≡ Ok out → out.issued ≡ (script.issued ++ command ∷ []) ++ rest)
        → unless_fault fault (issue_all context next rest) ≡ Ok out → out.issued ≡ script.issued ++ command ∷ rest
    by None later ok = later ok ∙ append_assoc script.issued (command ∷ []) rest
    by (Some fault) later ok = cc

-- the job that comes next is a version
abbrev IsVersion : Option Job → Type 0
IsVersion None = Unit {0}
IsVersion (Some job) = is_version job ≡ true

-- the state after these jobs
abbrev pub left_by : {S : Type 0} → Program S → S → List Job → S
left_by program state [] = state
left_by program state (job ∷ later) = left_by program (program.after state job) later

-- all commands that the program gives to these jobs
abbrev pub given_by : {S : Type 0} → Program S → S → List Job → List Command
given_by program state [] = []
given_by program state (job ∷ later) = program.gives state job ++ given_by program (program.after state job) later

pub left_append : {S : Type 0} → (program : Program S) (state : S) (first second : List Job)
    → left_by program state (first ++ second) ≡ left_by program (left_by program state first) second
left_append program state [] second = refl
left_append program state (job ∷ rest) second = left_append program (program.after state job) rest second

pub given_append : {S : Type 0} → (program : Program S) (state : S) (first second : List Job)
    → given_by program state (first ++ second) ≡ given_by program state first ++ given_by program (left_by program state first) second
given_append program state [] second = refl
given_append program state (job ∷ rest) second =
    ap (λ l. program.gives state job ++ l) (given_append program (program.after state job) rest second)
    ∙ sym (append_assoc (program.gives state job) (given_by program (program.after state job) rest)
    (given_by program (left_by program (program.after state job) rest) second))

-- the job that gives the time gets no commands
abbrev pub TimeGivesNothing : {S : Type 0} → Program S → Type 0
TimeGivesNothing {S} program = (state : S) (job : Job) → is_time job ≡ true → program.gives state job ≡ []

module _ {S : Type 0} (program : Program S) (lawful : IsLawful program) (still : TimeGivesNothing program) (context : ActivationContext) where
  -- these jobs step a program from the first progress to the last
  pub record Steps (first last : Progress S) (list : List Job) : Type 0 where
    pub state : last.state ≡ left_by program first.state list
    pub issued : without_markers last.script.issued ≡ without_markers first.script.issued ++ given_by program first.state list

  -- one turn
  record Turned (job : Job) (first : Progress S) (last : Turn S) : Type 0 where
    state : last.progress.state ≡ program.after first.state job
    issued : without_markers last.progress.script.issued ≡ without_markers first.script.issued ++ program.gives first.state job
    next : IsVersion last.next
    quiet : program.gives first.state job ≡ [] → last.next ≡ None

  turn_does : (job : Job) (first : Progress S) (last : Turn S)
      → turn program context job first ≡ Ok last → Turned job first last
  turn_does job first last ok = by (issue_all context first.script commands) refl ok
    where
      commands : List Command
      commands = program.gives first.state job

      made : Reply → Turn S
      made answer = record {
        progress = record { state = program.after first.state job; script = answer.script; meter = ticked first.meter };
        next = answer.next;
      }

      plain_commands : without_markers commands ≡ commands
      plain_commands = plain_none commands (lawful first.state job).records

      choice : Script → Question → Choice
      choice script question = choice_of context script.settled question.0 question.1

      with_marker : (script : Script) (marker : List Command) → without_markers marker ≡ []
          → script.issued ≡ first.script.issued ++ commands
          → without_markers (script.issued ++ marker) ≡ without_markers first.script.issued ++ commands
      with_marker script marker nothing is =
          plain_append script.issued marker
          ∙ ap (λ l. without_markers script.issued ++ l) nothing
          ∙ append-nil (without_markers script.issued)
          ∙ ap without_markers is ∙ plain_append first.script.issued commands
          ∙ ap (λ l. without_markers first.script.issued ++ l) plain_commands

      by_question : (script : Script) → script.issued ≡ first.script.issued ++ commands → (question : Option Question)
          → question_of commands ≡ question → Turned job first (made (reply context script question))
      by_question script is None asks = record {
        state = refl;
        issued = ap without_markers is ∙ plain_append first.script.issued commands ∙ ap (λ l. without_markers first.script.issued ++ l) plain_commands;
        next = tt;
        quiet = λ none. refl;
      }
      by_question script is (Some question) asks = record {
        state = refl;
        issued =
            with_marker script (marker_if (choice script question).marked question.0 (choice script question).version)
            (plain_marker (choice script question).marked question.0 (choice script question).version) is;
        next = refl;
        quiet = λ none. absurd (no_question (sym asks ∙ ap question_of none));
      }
        where
          no_question : ◌≡◌ {A = Option Question} (Some question) None → ⊥
          no_question e = cc

      by : (result : Result Script WorkflowFault) → issue_all context first.script commands ≡ result
          → and_then (and_then result (λ next. Ok (reply context next (question_of commands)))) (λ answer. Ok (made answer)) ≡ Ok last
          → Turned job first last
      by (Ok script) is ok =
          let e : made (reply context script (question_of commands)) ≡ last = cc in
          subst (Turned job first) e
          (by_question script (issue_gives context first.script script commands is) (question_of commands) refl)
      by (Err fault) is ok = cc

  -- a job, and the versions that it leads to
  record Settled (job : Job) (first last : Progress S) : Type 0 where
    versions : List Job
    are : all_versions versions ≡ true
    quiet : program.gives first.state job ≡ [] → versions ≡ []
    steps : Steps first last (job ∷ versions)

  settle_does : (fuel : ℕ) (job : Job) (first last : Progress S)
      → settle program context fuel job first ≡ Ok last → Settled job first last
  unfolding settle
  settle_does zero job first last ok = cc
  settle_does (suc fuel) job first last ok =
      by (turn program context job first) refl ok (λ version now ok. settle_does fuel version now last ok)
    where
      Later : Type 0
      Later = (version : Job) (now : Progress S) → settle program context fuel version now ≡ Ok last → Settled version now last

      by_next : (found : Turn S) → Turned job first found → (next : Option Job) → found.next ≡ next
          → follow next (Ok found.progress) (λ version. settle program context fuel version found.progress) ≡ Ok last
          → Later → Settled job first last
      by_next found turned None is ok later =
          let e : found.progress ≡ last = cc in record {
            versions = [];
            are = refl;
            quiet = λ none. refl;
            steps = subst (λ last. Steps first last (job ∷ [])) e (record {
              state = turned.state;
              issued = turned.issued ∙ ap (λ l. without_markers first.script.issued ++ l) (sym (append-nil (program.gives first.state job)));
            });
          }
      by_next found turned (Some version) is ok later =
          let behind : Settled version found.progress last = later version found.progress ok in record {
            versions = version ∷ behind.versions;
            are = and_from (is_version version) (all_versions behind.versions) (subst IsVersion is turned.next) behind.are;
            quiet = λ none. absurd (no_next (sym is ∙ turned.quiet none));
            steps = record {
              state = behind.steps.state ∙ ap (λ state. left_by program state (version ∷ behind.versions)) turned.state;
              issued =
                  behind.steps.issued
                  ∙ ap (λ l. l ++ given_by program found.progress.state (version ∷ behind.versions)) turned.issued
                  ∙ append_assoc (without_markers first.script.issued) (program.gives first.state job)
                  (given_by program found.progress.state (version ∷ behind.versions))
                  ∙ ap (λ state. without_markers first.script.issued ++ (program.gives first.state job ++ given_by program state (version ∷ behind.versions))) turned.state;
            };
          }
        where
          no_next : ◌≡◌ {A = Option Job} (Some version) None → ⊥
          no_next e = cc

      by : (result : Result (Turn S) WorkflowFault) → turn program context job first ≡ result
          → and_then result (λ next. follow next.next (Ok next.progress) (λ version. settle program context fuel version next.progress)) ≡ Ok last
          → Later → Settled job first last
      by (Ok found) is ok later = by_next found (turn_does job first found is) found.next refl ok later
      by (Err fault) is ok later = cc

  -- an activation
  pub record Activated (given : List Job) (first last : Progress S) : Type 0 where
    pub list : List Job
    pub are : Interleaved given list
    pub steps : Steps first last list

  pub activate_does : (given : List Job) (first last : Progress S)
      → activate program context given first ≡ Ok last → Activated given first last
  activate_does [] first last ok =
      let e : first ≡ last = cc in record {
        list = [];
        are = no_jobs;
        steps = subst (λ last. Steps first last []) e (record { state = refl; issued = sym (append-nil (without_markers first.script.issued)) });
      }
  activate_does (job ∷ rest) first last ok =
      by (settle program context (room first) job first) refl ok (λ now ok. activate_does rest now last ok)
    where
      by : (result : Result (Progress S) WorkflowFault) → settle program context (room first) job first ≡ result
          → and_then result (activate program context rest) ≡ Ok last
          → ((now : Progress S) → activate program context rest now ≡ Ok last → Activated rest now last)
          → Activated (job ∷ rest) first last
      by (Ok now) is ok later =
          let here : Settled job first now = settle_does (room first) job first now is in
          let behind : Activated rest now last = later now ok in record {
            list = job ∷ (here.versions ++ behind.list);
            are = next_job job here.versions rest behind.list here.are (λ time. here.quiet (still first.state job time)) behind.are;
            steps = record {
              state =
                  behind.steps.state ∙ ap (λ state. left_by program state behind.list) here.steps.state
                  ∙ sym (left_append program first.state (job ∷ here.versions) behind.list);
              issued =
                  behind.steps.issued
                  ∙ ap (λ l. l ++ given_by program now.state behind.list) here.steps.issued
                  ∙ append_assoc (without_markers first.script.issued) (given_by program first.state (job ∷ here.versions)) (given_by program now.state behind.list)
                  ∙ ap (λ state. without_markers first.script.issued ++ (given_by program first.state (job ∷ here.versions) ++ given_by program state behind.list)) here.steps.state
                  ∙ ap (λ l. without_markers first.script.issued ++ l) (sym (given_append program first.state (job ∷ here.versions) behind.list));
            };
          }
      by (Err fault) is ok later = cc
