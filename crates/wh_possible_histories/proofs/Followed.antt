-- An activation of a run that got its table with its input does what one of a run of the table does.
use Rattle.std.proofs.Common.{◌≡◌, ℕ, ◌≤◌, zero, suc, Bool, true, false, not, ◌&&◌, List, [], ◌∷◌, ◌++◌, map, length, Option, Some, None, Result, Ok, Err, ℤ, refl, sym, ap, ap₂, subst, ◌∙◌, arith}
use Rattle.std.specs.Prelude.{◌-◌, leb, if◌then◌else◌}
use Rattle.std.proofs.lemmas.Bool.{and_parts, and_from, not-true}
use Rattle.std.proofs.lemmas.List.{map-append}
use Rattle.wh_events.specs.declared.event.Payload.{Payload}
use Rattle.wh_workflow.specs.declared.command.Command.{Command}
use Rattle.wh_workflow.specs.declared.job.Job.{Job}
use Rattle.wh_workflow.specs.declared.job.Job.TheVariants as jobs
use Rattle.wh_workflow.specs.declared.fault.WorkflowFault.{WorkflowFault}
use Rattle.wh_workflow.specs.Counting.{ticked}
use Rattle.wh_workflow.specs.Law.{Program, IsAnswer, asks_last, records_none}
use Rattle.wh_workflow.specs.Scripts.{ActivationContext, Choice, choice_of, command_fault, with_version, given, most_commands}
use Rattle.wh_workflow.specs.Activations.{and_then, follow, unless_fault, Script, issue_all, Question, question_of, marker_if, Reply, reply, Progress, Turn, settle, room, activate}
use Rattle.wh_rows.specs.declared.row.RowsState.{RowsState}
use Rattle.wh_rows.specs.Tables.{Definition}
use Rattle.wh_rows.specs.Rows as rows
use Rattle.wh_rows.specs.Rules.{table_fault}
use Rattle.wh_rows.specs.Lawful.{rows_lawful}
use Rattle.wh_rows.proofs.Sound.{no_row_at}
use Rattle.wh_row_rules.specs.declared.owned.OwnedTable.{OwnedTable}
use Rattle.wh_row_rules.specs.Broken.{definition}
use Rattle.wh_table.specs.declared.state.TableState.{TableState}
use Rattle.wh_table.specs.Carrying.{with_table, is_answer, held}
use Rattle.wh_table.specs.Program.{front, tail, table_in, program}
use Rattle.wh_possible_histories.specs.Tellings.{jobs_fit}
use Rattle.wh_possible_histories.proofs.Alike.{AreAlike}
use Rattle.wh_possible_histories.proofs.Carried.{same_given, same_fault, same_asks, same_record}

-- the job that gives the time only raises what the meter shows, if the program gives it no commands
module _ {S : Type 0} (code : Program S) (context : ActivationContext) (time : ℤ) (rest : List Job) (first : Progress S) where
  abbrev timed_by : List Command → Result (Progress S) WorkflowFault
  timed_by list =
      and_then (and_then (and_then (and_then (issue_all context first.script list)
      (λ (next : Script). Ok (reply context next (question_of list))))
      (λ (answer : Reply). Ok (record {
        progress = record { state = code.after first.state (jobs.Time time); script = answer.script; meter = ticked first.meter };
        next = answer.next;
      })))
      (λ (next : Turn S). follow next.next (Ok next.progress)
      (λ version. settle code context (most_commands - length (given first.script.issued)) version next.progress)))
      (activate code context rest)

  pub timed : code.gives first.state (jobs.Time time) ≡ []
      → activate code context (jobs.Time time ∷ rest) first
      ≡ activate code context rest
      (record { state = code.after first.state (jobs.Time time); script = first.script; meter = ticked first.meter })
  unfolding settle
  timed none = ap timed_by none

-- no row is for that job
pub time_gives : (table : Definition) (state : RowsState) (time : ℤ) → rows.gives table state (jobs.Time time) ≡ []
time_gives table state time = ap (λ row. rows.row_gives row state (jobs.Time time)) (no_row_at table.rows state time)

pub time_leaves : (table : Definition) (state : RowsState) (time : ℤ) → rows.after table state (jobs.Time time) ≡ state
time_leaves table state time =
    ap (λ row. rows.after_found row table.bounds state (jobs.Time time)) (no_row_at table.rows state time)

few : (count : ℕ) → count ≤ 64 → leb count 64 ≡ true
few count small = grind arith

passes : (commands : List Command) → IsAnswer commands → is_answer commands ≡ true
passes commands answer =
    and_from (leb (length commands) 64) (asks_last commands && records_none commands) (few (length commands) answer.few)
    (and_from (asks_last commands) (records_none commands) answer.asks answer.records)

abbrev pub mapped : {A B : Type 0} → (A → B) → Result A WorkflowFault → Result B WorkflowFault
mapped f (Ok x) = Ok (f x)
mapped f (Err fault) = Err fault

module _ (kind : List ℕ) (payload : List Payload) (table : OwnedTable) (none : table_fault (definition table) ≡ None) where
  abbrev pub run_of : RowsState → TableState
  run_of run = record { kind = kind; payload = payload; table = table; run = run }

  abbrev pub carried : Script → Script
  carried script = record { settled = script.settled; issued = map (with_table kind payload) script.issued }

  abbrev pub progress_of : Progress RowsState → Progress TableState
  progress_of progress = record { state = run_of progress.state; script = carried progress.script; meter = progress.meter }

  -- commands of rows that break no rule are all given
  all_held : (run : RowsState) (job : Job)
      → held kind payload (rows.gives (definition table) run job)
      ≡ map (with_table kind payload) (rows.gives (definition table) run job)
  all_held run job =
      ap (λ test. if test then map (with_table kind payload) (rows.gives (definition table) run job) else [])
      (passes (rows.gives (definition table) run job) (rows_lawful (definition table) none run job))

  issues : (context : ActivationContext) (script : Script) (list : List Command)
      → issue_all context (carried script) (map (with_table kind payload) list) ≡ mapped carried (issue_all context script list)
  issues context script [] = refl
  issues context script (command ∷ rest) =
      ap (λ found. unless_fault found (issue_all context
      (record { settled = script.settled; issued = map (with_table kind payload) script.issued ++ with_table kind payload command ∷ [] })
      (map (with_table kind payload) rest))) (same_fault kind payload context script.settled script.issued command)
      ∙ by (command_fault context script.settled script.issued command) _ _
      (ap (λ l. issue_all context (record { settled = script.settled; issued = l }) (map (with_table kind payload) rest))
      (sym (map-append (with_table kind payload) script.issued (command ∷ [])))
      ∙ issues context (record { settled = script.settled; issued = script.issued ++ command ∷ [] }) rest)
    where
      by : (found : Option WorkflowFault) (one other : Result Script WorkflowFault) → one ≡ mapped carried other
          → unless_fault found one ≡ mapped carried (unless_fault found other)
      by None one other same = same
      by (Some fault) one other same = refl

  marked : (issued : List Command) (is : Bool) (change : List ℕ) (version : ℤ)
      → map (with_table kind payload) issued ++ marker_if is change version
      ≡ map (with_table kind payload) (issued ++ marker_if is change version)
  marked issued true change version = sym (map-append (with_table kind payload) issued (marker_if true change version))
  marked issued false change version = sym (map-append (with_table kind payload) issued (marker_if false change version))

  -- a job, and the versions that it leads to
  settles : (context : ActivationContext) (fuel : ℕ) (job shown : Job) (state : TableState) (run : RowsState) (script : Script)
      (meter : ℕ) → program.gives state job ≡ map (with_table kind payload) (rows.gives (definition table) run shown)
      → program.after state job ≡ run_of (rows.after (definition table) run shown)
      → settle program context fuel job (record { state = state; script = carried script; meter = meter })
      ≡ mapped progress_of
      (settle (rows.program (definition table)) context fuel shown (record { state = run; script = script; meter = meter }))
  unfolding settle
  settles context zero job shown state run script meter gives goes = refl
  settles context (suc fuel) job shown state run script meter gives goes =
      ap₂ step gives goes
      ∙ ap₂ stepped (issues context script list) (same_asks kind payload list)
      ∙ by (issue_all context script list) (question_of list)
      (λ change version script. settles context fuel (jobs.Version change version) (jobs.Version change version)
      (run_of left) left script (ticked meter) (all_held left (jobs.Version change version)) refl)
    where
      list : List Command
      list = rows.gives (definition table) run shown

      left : RowsState
      left = rows.after (definition table) run shown

      step : List Command → TableState → Result (Progress TableState) WorkflowFault
      step commands after =
          and_then (and_then (and_then (issue_all context (carried script) commands)
          (λ (next : Script). Ok (reply context next (question_of commands))))
          (λ (answer : Reply). Ok (record {
            progress = record { state = after; script = answer.script; meter = ticked meter };
            next = answer.next;
          })))
          (λ (next : Turn TableState). follow next.next (Ok next.progress)
          (λ version. settle program context fuel version next.progress))

      stepped : Result Script WorkflowFault → Option Question → Result (Progress TableState) WorkflowFault
      stepped found question =
          and_then (and_then (and_then found (λ (next : Script). Ok (reply context next question)))
          (λ (answer : Reply). Ok (record {
            progress = record { state = run_of left; script = answer.script; meter = ticked meter };
            next = answer.next;
          })))
          (λ (next : Turn TableState). follow next.next (Ok next.progress)
          (λ version. settle program context fuel version next.progress))

      as_rows : Result Script WorkflowFault → Option Question → Result (Progress RowsState) WorkflowFault
      as_rows found question =
          and_then (and_then (and_then found (λ (next : Script). Ok (reply context next question)))
          (λ (answer : Reply). Ok (record {
            progress = record { state = left; script = answer.script; meter = ticked meter };
            next = answer.next;
          })))
          (λ (next : Turn RowsState). follow next.next (Ok next.progress)
          (λ version. settle (rows.program (definition table)) context fuel version next.progress))

      by : (found : Result Script WorkflowFault) (question : Option Question)
          → ((change : List ℕ) (version : ℤ) (script : Script)
          → settle program context fuel (jobs.Version change version) (record { state = run_of left; script = carried script; meter = ticked meter })
          ≡ mapped progress_of (settle (rows.program (definition table)) context fuel (jobs.Version change version)
          (record { state = left; script = script; meter = ticked meter })))
          → stepped (mapped carried found) question ≡ mapped progress_of (as_rows found question)
      by (Err fault) question later = refl
      by (Ok next) None later = refl
      by (Ok next) (Some question) later =
          let choice : Choice = choice_of context next.settled question.0 question.1 in
          ap (λ l. settle program context fuel (jobs.Version question.0 choice.version) (record {
            state = run_of left;
            script = record { settled = with_version next.settled question.0 choice.version; issued = l };
            meter = ticked meter;
          })) (marked next.issued choice.marked question.0 choice.version)
          ∙ later question.0 choice.version (record {
            settled = with_version next.settled question.0 choice.version;
            issued = next.issued ++ marker_if choice.marked question.0 choice.version;
          })

  -- a job that starts nothing
  later_gives : (run : RowsState) (job : Job) → rows.is_start job ≡ false
      → program.gives (run_of run) job ≡ map (with_table kind payload) (rows.gives (definition table) run job)
  later_gives run (jobs.Start _ _) is = cc
  later_gives run job is = all_held run job

  later_goes : (run : RowsState) (job : Job) → rows.is_start job ≡ false
      → program.after (run_of run) job ≡ run_of (rows.after (definition table) run job)
  later_goes run (jobs.Start _ _) is = cc
  later_goes run job is = refl

  -- the rest of an activation after one job
  activates_by : (context : ActivationContext) (rest : List Job)
      → ((progress : Progress RowsState) → activate program context rest (progress_of progress)
      ≡ mapped progress_of (activate (rows.program (definition table)) context rest progress))
      → (found : Result (Progress RowsState) WorkflowFault)
      → and_then (mapped progress_of found) (activate program context rest)
      ≡ mapped progress_of (and_then found (activate (rows.program (definition table)) context rest))
  activates_by context rest later (Ok progress) = later progress
  activates_by context rest later (Err fault) = refl

  pub activates : (context : ActivationContext) (list : List Job) → jobs_fit true list ≡ true → (progress : Progress RowsState)
      → activate program context list (progress_of progress)
      ≡ mapped progress_of (activate (rows.program (definition table)) context list progress)
  activates context [] fit progress = refl
  activates context (job ∷ rest) fit progress =
      let parts : (not (rows.is_start job) ≡ true) × (jobs_fit true rest ≡ true) =
      and_parts (not (rows.is_start job)) (jobs_fit true rest) fit in
      let other : rows.is_start job ≡ false = not-true (rows.is_start job) parts.0 in
      ap (λ n. and_then (settle program context (suc (most_commands - n)) job (progress_of progress)) (activate program context rest))
      (same_given kind payload progress.script.issued)
      ∙ ap (λ found. and_then found (activate program context rest))
      (settles context (room progress) job job (run_of progress.state) progress.state progress.script progress.meter
      (later_gives progress.state job other) (later_goes progress.state job other))
      ∙ activates_by context rest (activates context rest parts.1)
      (settle (rows.program (definition table)) context (room progress) job progress)

  -- the first task
  pub starts : (context : ActivationContext) (input : List Payload) (rest : List Job) → table_in input ≡ Ok table → front input ≡ payload
      → jobs_fit true rest ≡ true → (state : TableState) (progress : Progress RowsState)
      → progress.state ≡ rows.initial (definition table)
      → activate program context (jobs.Start kind input ∷ rest)
      (record { state = state; script = carried progress.script; meter = progress.meter })
      ≡ mapped progress_of
      (activate (rows.program (definition table)) context (jobs.Start kind (tail input) ∷ rest) progress)
  starts context input rest is brings fit state progress new =
      ap (λ n. and_then (settle program context (suc (most_commands - n)) (jobs.Start kind input)
      (record { state = state; script = carried progress.script; meter = progress.meter })) (activate program context rest))
      (same_given kind payload progress.script.issued)
      ∙ ap (λ found. and_then found (activate program context rest))
      (settles context (room progress) (jobs.Start kind input) (jobs.Start kind (tail input)) state progress.state progress.script
      progress.meter start_gives start_goes)
      ∙ activates_by context rest (activates context rest fit)
      (settle (rows.program (definition table)) context (room progress) (jobs.Start kind (tail input)) progress)
    where
      start_gives : program.gives state (jobs.Start kind input)
          ≡ map (with_table kind payload) (rows.gives (definition table) progress.state (jobs.Start kind (tail input)))
      start_gives = rw (is, brings, new) (all_held (rows.initial (definition table)) (jobs.Start kind (tail input)))

      start_goes : program.after state (jobs.Start kind input)
          ≡ run_of (rows.after (definition table) progress.state (jobs.Start kind (tail input)))
      start_goes = rw (is, brings, new) refl

  -- what such equal results show
  pub alike : (context : ActivationContext) (one : Result (Progress TableState) WorkflowFault)
      (other : Result (Progress RowsState) WorkflowFault) → one ≡ mapped progress_of other
      → AreAlike context (λ state run. state ≡ run_of run) one other
  alike context one (Ok other) same =
      subst (λ r. AreAlike context (λ state run. state ≡ run_of run) r (Ok other)) (sym same)
      (record { state = refl; records = λ history recorded. same_record kind payload context other.script.issued history recorded })
  alike context one (Err other) same =
      subst (λ r. AreAlike context (λ state run. state ≡ run_of run) r (Err other)) (sym same) refl
