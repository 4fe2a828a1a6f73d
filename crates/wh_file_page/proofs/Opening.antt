-- The first task of a run starts it.
use Rattle.std.proofs.Common.{◌≡◌, ℕ, suc, ◌+◌, ◌-◌, ◌⊎◌, Bool, true, false, List, [], ◌∷◌, ◌++◌, length, take, Option, Some, None, ℤ, refl, ap, sym, subst, ◌∙◌, inl, inr, arith, slice_get, append_assoc, is_some, IsTrue}
use Rattle.std.specs.Prelude.{if◌then◌else◌}
use Rattle.std.proofs.lemmas.Bool.{and_parts}
use Rattle.std.proofs.lemmas.List.{append-nil}
use Rattle.wh_events.specs.declared.event.Event.{Event}
use Rattle.wh_events.specs.declared.event.Payload.{Payload}
use Rattle.wh_events.specs.declared.kind.EventKind.{EventKind}
use Rattle.wh_events.specs.declared.kind.EventKind.TheVariants as kinds
use Rattle.wh_events.specs.Kinds.{class_of}
use Rattle.wh_events.specs.Cuts.{cuts, is_cut, is_task_started, is_task_started_kind}
use Rattle.wh_events.specs.Places.{is_start, is_start_class}
use Rattle.wh_events.specs.InPlace.{InPlace, IsAt}
use Rattle.wh_events.proofs.Placing.{at_index}
use Rattle.wh_machines.specs.Lookups.{events_between}
use Rattle.wh_workflow.specs.declared.job.Job.{Job}
use Rattle.wh_workflow.specs.declared.job.Job.TheVariants as jobs
use Rattle.wh_workflow.specs.declared.command.Command.{Command}
use Rattle.wh_workflow.specs.declared.fault.WorkflowFault.{WorkflowFault}
use Rattle.wh_workflow.specs.Law.{Program}
use Rattle.wh_workflow.specs.Jobs.{start_job, signal_job, outside_job, jobs_by, jobs_of}
use Rattle.wh_workflow.specs.Scripts.{ActivationContext, Settled, command_fault}
use Rattle.wh_workflow.specs.Activations.{question_of}
use Rattle.wh_workflow.specs.ActivationScripts.{Step, is_version, settled_after, state_after, fault_at, EndsInFault, Answers, IsScript, IsLongest}
use Rattle.wh_activation.specs.Cutting.{jobs_in, jobs_at}
use Rattle.wh_replay.specs.Replays.{workflow_kind, workflow_of}
use Rattle.wh_file_page.specs.Brought.{input_in, input_of}

-- ---- Its jobs

-- a history to its first cut, of that number
record FirstCut (events : List Event) (number : ℕ) : Type 0 where
  before : List Event
  cut : Event
  rest : List Event
  are : events ≡ before ++ cut ∷ rest
  numbered : cut.number ≡ number
  cuts_here : is_cut cut rest ≡ true

first_cut : (events : List Event) (number : ℕ) (others : List ℕ) → cuts events ≡ number ∷ others → FirstCut events number
first_cut [] number others is = cc
first_cut (event ∷ rest) number others is = by (is_cut event rest) refl (λ e. first_cut rest number others e) is
  where
    by : (test : Bool) → is_cut event rest ≡ test → (cuts rest ≡ number ∷ others → FirstCut rest number)
        → (if test then event.number ∷ cuts rest else cuts rest) ≡ number ∷ others → FirstCut (event ∷ rest) number
    by true here behind is = record { before = []; cut = event; rest = rest; are = refl; numbered = cc; cuts_here = here }
    by false here behind is =
        let later = behind is in
        record {
          before = event ∷ later.before;
          cut = later.cut;
          rest = later.rest;
          are = ap (λ l. event ∷ l) later.are;
          numbered = later.numbered;
          cuts_here = later.cuts_here;
        }

in_middle : (before : List Event) (cut : Event) (rest : List Event) → slice_get (before ++ cut ∷ rest) (length before) ≡ Some cut
in_middle [] cut rest = refl
in_middle (event ∷ before) cut rest = in_middle before cut rest

taken : (before after : List Event) → take (length before) (before ++ after) ≡ before
taken [] after = refl
taken (event ∷ before) after = ap (λ l. event ∷ l) (taken before after)

kind_no_cut : (kind : EventKind) → is_start_class (class_of kind) ≡ true → is_task_started_kind kind ≡ true → ⊥
kind_no_cut (kinds.WorkflowExecutionStarted workflow input) starts task = cc
kind_no_cut _ starts task = cc

start_is : (kind : EventKind) → is_start_class (class_of kind) ≡ true
    → start_job kind ≡ jobs.Start (workflow_kind kind) (input_in kind) ∷ []
start_is (kinds.WorkflowExecutionStarted workflow input) is = refl
start_is _ is = cc

-- the jobs of the first task: its time, and then the start with what the first event brings
pub record FirstJobs (events : List Event) (list : List Job) : Type 0 where
  pub time : ℤ
  pub others : List Job
  pub are : list ≡ jobs.Time time ∷ jobs.Start (workflow_of events) (input_of events) ∷ others

jobs_first : (seen : List Event) (first : Event) (between rest : List Event) (cut : Event) → is_start first ≡ true
    → FirstJobs (first ∷ rest) (jobs_of seen (first ∷ between) cut)
jobs_first seen first between rest cut starts = record {
  time = cut.time;
  others =
      jobs_by start_job between ++ jobs_by signal_job (first ∷ between) ++ jobs_by (outside_job seen) (first ∷ between);
  are =
      ap (λ l. jobs.Time cut.time ∷ (l ++ jobs_by start_job between ++ jobs_by signal_job (first ∷ between) ++ jobs_by (outside_job seen) (first ∷ between)))
      (start_is first.body starts);
}

jobs_of_cut : (before : List Event) (cut : Event) (rest seen : List Event) → InPlace (before ++ cut ∷ rest) → is_cut cut rest ≡ true
    → FirstJobs (before ++ cut ∷ rest) (jobs_of seen before cut)
jobs_of_cut [] cut rest seen placed cuts_here =
    absurd (kind_no_cut cut.body ((placed.started 1 cut (at_index (cut ∷ rest) 0 cut refl)).1 refl) (and_parts (is_task_started cut) _ cuts_here).0)
jobs_of_cut (first ∷ before) cut rest seen placed cuts_here =
    jobs_first seen first before (before ++ cut ∷ rest) cut
    ((placed.started 1 first (at_index (first ∷ (before ++ cut ∷ rest)) 0 first refl)).1 refl)

pub first_jobs : (events : List Event) (number : ℕ) (others : List ℕ) → InPlace events → cuts events ≡ number ∷ others
    → FirstJobs events (jobs_at events 0 number)
first_jobs events number others placed is =
    let first = first_cut events number others is in
    let whole = first.before ++ first.cut ∷ first.rest in
    let at : IsAt whole (suc (length first.before)) first.cut = at_index whole (length first.before) first.cut (in_middle first.before first.cut first.rest) in
    let there : InPlace whole = subst InPlace first.are placed in
    let counted : number ≡ suc (length first.before) = sym first.numbered ∙ there.numbered (suc (length first.before)) first.cut at in
    let less : suc (length first.before) - 1 ≡ length first.before = omega arith in
    let between : events_between whole 0 (suc (length first.before)) ≡ first.before = ap (λ n. take n whole) less ∙ taken first.before (first.cut ∷ first.rest) in
    let same : jobs_at whole 0 (suc (length first.before)) ≡ jobs_of (take (suc (length first.before)) whole) first.before first.cut
    = ap (λ cut. jobs_in (take (suc (length first.before)) whole) (events_between whole 0 (suc (length first.before))) cut) at.1
    ∙ ap (λ l. jobs_of (take (suc (length first.before)) whole) l first.cut) between in
    subst (λ l. FirstJobs l (jobs_at l 0 number)) (sym first.are)
    (subst (λ n. FirstJobs whole (jobs_at whole 0 n)) (sym counted)
    (subst (FirstJobs whole) (sym same)
    (jobs_of_cut first.before first.cut first.rest (take (suc (length first.before)) whole) there first.cuts_here)))

-- ---- Its steps

nothing_is : (front later : List Command) (command : Command) → [] ≡ front ++ command ∷ later → ⊥
nothing_is [] later command is = cc
nothing_is (one ∷ front) later command is = cc

-- what is shown of commands after earlier ones: those up to the first that has a fault
module _ (fault_of : List Command → Command → Option WorkflowFault) where
  record Shown (earlier commands : List Command) : Type 0 where
    shown : List Command
    cut : List Command
    are : commands ≡ shown ++ cut
    ends : (cut ≡ []) ⊎ ((front : List Command) × (command : Command) × (shown ≡ front ++ command ∷ [])
        × IsTrue (is_some (fault_of (earlier ++ front) command)))
    faultless : (front later : List Command) (command : Command) → shown ≡ front ++ command ∷ later
        → (fault_of (earlier ++ front) command ≡ None) ⊎ (later ≡ [])

  one_more : (earlier : List Command) (command : Command) (front : List Command) (last : Command)
      → fault_of (earlier ++ command ∷ front) last ≡ fault_of ((earlier ++ command ∷ []) ++ front) last
  one_more earlier command front last = ap (λ l. fault_of l last) (sym (append_assoc earlier (command ∷ []) front))

  faultless_later : (earlier : List Command) (command : Command) (shown : List Command) → fault_of earlier command ≡ None
      → ((front later : List Command) (one : Command) → shown ≡ front ++ one ∷ later
      → (fault_of ((earlier ++ command ∷ []) ++ front) one ≡ None) ⊎ (later ≡ []))
      → (front later : List Command) (one : Command) → command ∷ shown ≡ front ++ one ∷ later
      → (fault_of (earlier ++ front) one ≡ None) ⊎ (later ≡ [])
  faultless_later earlier command shown none each [] later one is =
      let same : command ≡ one = cc in
      inl (ap (λ l. fault_of l one) (append-nil earlier) ∙ (ap (fault_of earlier) (sym same) ∙ none))
  faultless_later earlier command shown none each (first ∷ front) later one is =
      let same : command ≡ first = cc in
      let behind : shown ≡ front ++ one ∷ later = cc in
      elim (each front later one behind) [
        | inl fine ↦ inl (ap (λ (c : Command). fault_of (earlier ++ c ∷ front) one) (sym same) ∙ (one_more earlier command front one ∙ fine))
        | inr last ↦ inr last
      ]

  faultless_one : (earlier : List Command) (command : Command) (front later : List Command) (one : Command)
      → command ∷ [] ≡ front ++ one ∷ later → (fault_of (earlier ++ front) one ≡ None) ⊎ (later ≡ [])
  faultless_one earlier command [] later one is = inr cc
  faultless_one earlier command (first ∷ front) later one is = absurd (nothing_is front later one cc)

  shown_of : (commands earlier : List Command) → Shown earlier commands
  shown_of [] earlier = record {
    shown = [];
    cut = [];
    are = refl;
    ends = inl refl;
    faultless = λ front later one is. absurd (nothing_is front later one is);
  }
  shown_of (command ∷ rest) earlier = by (fault_of earlier command) refl (shown_of rest (earlier ++ command ∷ []))
    where
      by : (fault : Option WorkflowFault) → fault_of earlier command ≡ fault → Shown (earlier ++ command ∷ []) rest
          → Shown earlier (command ∷ rest)
      by None none more = record {
        shown = command ∷ more.shown;
        cut = more.cut;
        are = ap (λ l. command ∷ l) more.are;
        ends = elim more.ends [
          | inl all ↦ inl all
          | inr last ↦ inr (command ∷ last.0, last.1, ap (λ l. command ∷ l) last.2, ap is_some (one_more earlier command last.0 last.1) ∙ last.3)
        ];
        faultless = faultless_later earlier command more.shown none more.faultless;
      }
      by (Some fault) some more = record {
        shown = command ∷ [];
        cut = rest;
        are = refl;
        ends = inr ([], command, refl, ap is_some (ap (λ l. fault_of l command) (append-nil earlier) ∙ some));
        faultless = faultless_one earlier command;
      }

-- two steps, of which the first gives nothing
module _ {S : Type 0} (program : Program S) (context : ActivationContext) (state : S) (settled : Settled) (time : ℤ)
    (kind : List ℕ) (input : List Payload) (others : List Job) where
  abbrev fault_of : List Command → Command → Option WorkflowFault
  fault_of earlier command = command_fault context settled earlier command

  abbrev given : List Command
  given = program.gives (program.after state (jobs.Time time)) (jobs.Start kind input)

  abbrev at_time : Step
  at_time = record { job = jobs.Time time; commands = [] }

  abbrev at_start : List Command → Step
  at_start shown = record { job = jobs.Start kind input; commands = shown }

  abbrev two : List Command → List Step
  two shown = at_time ∷ at_start shown ∷ []

  begins_two : (shown : List Command) (step : Step) (after : List Step) → two shown ≡ step ∷ after → IsTrue (is_version step.job) → ⊥
  begins_two shown step after is version =
      let same : at_time ≡ step = cc in
      let none : is_version step.job ≡ false = ap (λ (one : Step). is_version one.job) (sym same) in
      cc

  answers_two : (shown : List Command) (before after : List Step) (step next : Step) → two shown ≡ before ++ step ∷ next ∷ after
      → Answers context (settled_after settled (before ++ step ∷ [])) (question_of step.commands) next.job
  answers_two shown [] after step next is =
      let first : at_time ≡ step = cc in
      let second : at_start shown ≡ next = cc in
      subst (λ (one : Step). Answers context (settled_after settled (one ∷ [])) (question_of one.commands) next.job) first
      (subst (λ (one : Step). IsTrue (is_version one.job) → ⊥) second (λ is. cc))
  answers_two shown (one ∷ []) after step next is = cc
  answers_two shown (one ∷ other ∷ []) after step next is = cc
  answers_two shown (one ∷ other ∷ more ∷ before) after step next is = cc

  module _ (quiet : program.gives state (jobs.Time time) ≡ []) (part : Shown fault_of [] given) where
    gives_two : (before after : List Step) (step : Step) → two part.shown ≡ before ++ step ∷ after
        → (cut : List Command) × (program.gives (state_after program state before) step.job ≡ step.commands ++ cut)
        × ((cut ≡ []) ⊎ EndsInFault context settled before step)
    gives_two [] after step is =
        let first : at_time ≡ step = cc in
        subst (λ (one : Step). (cut : List Command) × (program.gives state one.job ≡ one.commands ++ cut)
        × ((cut ≡ []) ⊎ EndsInFault context settled [] one)) first ([], quiet, inl refl)
    gives_two (one ∷ []) after step is =
        let first : at_time ≡ one = cc in
        let second : at_start part.shown ≡ step = cc in
        subst (λ (a : Step). (cut : List Command) × (program.gives (state_after program state (a ∷ [])) step.job ≡ step.commands ++ cut)
        × ((cut ≡ []) ⊎ EndsInFault context settled (a ∷ []) step)) first
        (subst (λ (b : Step). (cut : List Command) × (program.gives (state_after program state (at_time ∷ [])) b.job ≡ b.commands ++ cut)
        × ((cut ≡ []) ⊎ EndsInFault context settled (at_time ∷ []) b)) second
        (part.cut, part.are, part.ends))
    gives_two (one ∷ other ∷ []) after step is = cc
    gives_two (one ∷ other ∷ more ∷ before) after step is = cc

    faultless_two : (before after : List Step) (step : Step) (earlier later : List Command) (command : Command)
        → two part.shown ≡ before ++ step ∷ after → step.commands ≡ earlier ++ command ∷ later
        → (fault_at context settled before step earlier command ≡ None) ⊎ ((later ≡ []) × (after ≡ []))
    faultless_two [] after step earlier later command is gave =
        let first : at_time ≡ step = cc in
        absurd (nothing_is earlier later command (ap (λ (one : Step). one.commands) first ∙ gave))
    faultless_two (one ∷ []) after step earlier later command is gave =
        let first : at_time ≡ one = cc in
        let second : at_start part.shown ≡ step = cc in
        let none : [] ≡ after = cc in
        subst (λ (a : Step). (fault_at context settled (a ∷ []) step earlier command ≡ None) ⊎ ((later ≡ []) × (after ≡ []))) first
        (subst (λ (b : Step). (fault_at context settled (at_time ∷ []) b earlier command ≡ None) ⊎ ((later ≡ []) × (after ≡ []))) second
        (elim (part.faultless earlier later command (ap (λ (b : Step). b.commands) second ∙ gave)) [
          | inl fine ↦ inl fine
          | inr last ↦ inr (last, sym none)
        ]))
    faultless_two (one ∷ other ∷ []) after step earlier later command is gave = cc
    faultless_two (one ∷ other ∷ more ∷ before) after step earlier later command is gave = cc

    two_are_script : IsScript program context (jobs.Time time ∷ jobs.Start kind input ∷ others) state settled (two part.shown)
    two_are_script = record {
      first_jobs = (others, refl);
      begins = begins_two part.shown;
      answers = answers_two part.shown;
      gives = gives_two;
      faultless = faultless_two;
    }

-- the steps of a task with these jobs begin with the time and the start
pub record Opens (steps : List Step) (kind : List ℕ) (input : List Payload) : Type 0 where
  pub first : Step
  pub second : Step
  pub later : List Step
  pub are : steps ≡ first ∷ second ∷ later
  pub starts : second.job ≡ jobs.Start kind input

pub opens : {S : Type 0} → (program : Program S) (context : ActivationContext) (state : S) (settled : Settled)
    (events : List Event) (list : List Job) (steps : List Step) → FirstJobs events list
    → ((time : ℤ) → program.gives state (jobs.Time time) ≡ []) → IsLongest program context list state settled steps
    → Opens steps (workflow_of events) (input_of events)
opens program context state settled events list steps first quiet longest =
    let kind = workflow_of events in
    let input = input_of events in
    let part : Shown (λ earlier command. command_fault context settled earlier command) []
    (program.gives (program.after state (jobs.Time first.time)) (jobs.Start kind input))
    = shown_of (λ earlier command. command_fault context settled earlier command)
    (program.gives (program.after state (jobs.Time first.time)) (jobs.Start kind input)) [] in
    let script = two_are_script program context state settled first.time kind input first.others (quiet first.time) part in
    let more = longest.longest (two program context state settled first.time kind input first.others part.shown)
    (subst (λ l. IsScript program context l state settled (two program context state settled first.time kind input first.others part.shown)) (sym first.are) script) in
    record {
      first = at_time program context state settled first.time kind input first.others;
      second = at_start program context state settled first.time kind input first.others part.shown;
      later = more.0;
      are = more.1;
      starts = refl;
    }
