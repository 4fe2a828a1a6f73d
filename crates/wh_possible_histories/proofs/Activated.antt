-- An activation of a table is moves of a server.
use Rattle.std.proofs.Common.{◌≡◌, ℕ, zero, suc, ◌-◌, Bool, true, false, not, ◌&&◌, ◌||◌, List, [], ◌∷◌, ◌++◌, length, Option, Some, None, Result, Ok, Err, ℤ, is_some, slice_get, refl, ap, sym, subst, ◌∙◌, append_assoc, append-nil, arith}
use Rattle.std.specs.Prelude.{leb, if◌then◌else◌}
use Rattle.std.proofs.lemmas.Bool.{and_parts, and_from, not-true}
use Rattle.wh_events.specs.Machines.{or_else}
use Rattle.wh_events.specs.Places.{fault_if}
use Rattle.wh_workflow.specs.declared.command.Command.{Command}
use Rattle.wh_workflow.specs.declared.command.Command.TheVariants as commands
use Rattle.wh_workflow.specs.declared.fault.WorkflowFault.{WorkflowFault}
use Rattle.wh_workflow.specs.declared.fault.WorkflowFault.TheVariants as faults
use Rattle.wh_workflow.specs.declared.job.Job.{Job}
use Rattle.wh_workflow.specs.declared.job.Job.TheVariants as jobs
use Rattle.wh_workflow.specs.Counting.{ticked}
use Rattle.wh_workflow.specs.Law.{IsLawful, is_ask, asks_last}
use Rattle.wh_workflow.specs.Scripts.{ActivationContext, Settled, Act, act_of, some_act, act_closes, given, most_commands, choice_of, command_fault, act_fault, ask_fault}
use Rattle.wh_workflow.specs.Scripts.Act.{Opening, Cancelling, Asking, Closing, Other}
use Rattle.wh_workflow.specs.Activations.{and_then, follow as follow_option, unless_fault, Script, Question, question_in, question_at, question_of, marker_if, Reply, reply, issue_all, Progress, Turn, settle, room, activate}
use Rattle.wh_workflow.specs.ActivationScripts.{is_version}
use Rattle.wh_rows.specs.declared.row.RowsState.{RowsState}
use Rattle.wh_rows.specs.Tables.{CommandTemplate, Row, Definition}
use Rattle.wh_rows.specs.Rows.{is_start, fits as row_fits, row_for, row_gives, seen_by, commands_of, gives, after, program}
use Rattle.wh_possible_runs.specs.declared.thing.ThingState.{ThingState}
use Rattle.wh_possible_runs.specs.Situations.{ThingName, Situation, or_faulty, after_act, after_commands, after_job}
use Rattle.wh_possible_runs.specs.PossibleRuns.{Move, GivesJob, moves_on, follow}
use Rattle.wh_possible_runs.specs.Configurations.{act_by}
use Rattle.wh_possible_runs.specs.Shown.{is_plain_act, all_plain_acts, are_plain, is_plain}
use Rattle.wh_possible_runs.specs.Rules.{IsWell, AreWell, AreSo, are_distinct, is_covered, are_covered}
use Rattle.wh_possible_runs.proofs.Hearing.{act_alike}
use Rattle.wh_possible_runs.proofs.Rules.{append_one, append_none}
use Rattle.wh_possible_runs.proofs.Steps.{acts_on, wells_on}
use Rattle.wh_rows.specs.Deciding.{text_of}
use Rattle.wh_possible_histories.specs.Records.{are_named}
use Rattle.wh_possible_histories.specs.NextTasks.{starts_in, begun_so}
use Rattle.wh_possible_histories.specs.Tellings.{is_stuck, ending, starting, all_take, is_known, in_order, are_known, moves_fit, jobs_fit, IsFreeFrom, templates_known, rows_known, ActivationsNeverStick}
use Rattle.wh_possible_histories.proofs.Taking.{Heard, hears, commands_keep}

-- what the commands of a table open or cancel has a name

templates_covered : (names : List ThingName) (list : List CommandTemplate) (state : RowsState) (job : Job)
    → templates_known names list ≡ true → all_plain_acts list ≡ true → are_covered names (commands_of list state job) ≡ true
unfolding commands_of
templates_covered names [] state job known plain = refl
templates_covered names (one ∷ rest) state job known plain =
    let parts : (is_covered names (act_by one) ≡ true) × (templates_known names rest ≡ true) =
    and_parts (is_covered names (act_by one)) (templates_known names rest) known in
    let plains : (is_plain_act (act_by one) ≡ true) × (all_plain_acts rest ≡ true) =
    and_parts (is_plain_act (act_by one)) (all_plain_acts rest) plain in
    and_from _ _ (ap (is_covered names) (act_alike one state job plains.0) ∙ parts.0) (templates_covered names rest state job parts.1 plains.1)

row_covered : (names : List ThingName) (rows : List Row) (state : RowsState) (job : Job) → rows_known names rows ≡ true
    → are_plain rows ≡ true → are_covered names (row_gives (row_for rows state job) state job) ≡ true
unfolding row_for
row_covered names [] state job known plain = refl
row_covered names (row ∷ rest) state job known plain =
    by (row_fits row state job) (row_covered names rest state job parts.1 plains.1)
  where
    parts : (templates_known names row.gives ≡ true) × (rows_known names rest ≡ true)
    parts = and_parts (templates_known names row.gives) (rows_known names rest) known

    plains : ((is_plain (text_of row.job) && all_plain_acts row.gives) ≡ true) × (are_plain rest ≡ true)
    plains = and_parts (is_plain (text_of row.job) && all_plain_acts row.gives) (are_plain rest) plain

    by : (t : Bool) → are_covered names (row_gives (row_for rest state job) state job) ≡ true
        → are_covered names (row_gives (if t then Some row else row_for rest state job) state job) ≡ true
    by true later =
        templates_covered names row.gives state job parts.0 (and_parts (is_plain (text_of row.job)) (all_plain_acts row.gives) plains.0).1
    by false later = later

-- asks

some_asks : List Command → Bool
some_asks [] = false
some_asks (command ∷ rest) = is_ask command || some_asks rest

or_awaits : (now : Situation) (found : Option (List ThingState)) → (or_faulty now found).awaits_version ≡ now.awaits_version
or_awaits now None = refl
or_awaits now (Some list) = refl

act_awaits : (names : List ThingName) (command : Command) (now : Situation)
    → (after_act names (act_of command) now).awaits_version ≡ (is_ask command || now.awaits_version)
act_awaits names (commands.StartActivity id _ _) now = or_awaits now _
act_awaits names (commands.CancelActivity id) now = or_awaits now _
act_awaits names (commands.StartTimer id _) now = or_awaits now _
act_awaits names (commands.CancelTimer id) now = or_awaits now _
act_awaits names (commands.StartChild id _ _) now = or_awaits now _
act_awaits names (commands.CancelChild id) now = or_awaits now _
act_awaits names (commands.Ask _ _ _) now = refl
act_awaits names (commands.SignalExternal _ _ _) now = refl
act_awaits names (commands.Marker _ _) now = refl
act_awaits names (commands.Complete _) now = refl
act_awaits names (commands.Fail _) now = refl
act_awaits names commands.Cancel now = refl
act_awaits names (commands.ContinueAsNew _ _) now = refl

commands_await : (names : List ThingName) (list : List Command) (now : Situation)
    → (after_commands names list now).awaits_version ≡ (some_asks list || now.awaits_version)
unfolding some_asks
commands_await names [] now = refl
commands_await names (command ∷ rest) now =
    commands_await names rest (after_act names (act_of command) now)
    ∙ ap (λ b. some_asks rest || b) (act_awaits names command now)
    ∙ by (is_ask command) (some_asks rest) now.awaits_version
  where
    by : (a b c : Bool) → (b || (a || c)) ≡ ((a || b) || c)
    by true true c = refl
    by true false c = refl
    by false true c = refl
    by false false c = refl

asks_is : (command : Command) → is_some (question_in command) ≡ is_ask command
asks_is (commands.Ask _ _ _) = refl
asks_is _ = refl

last_asks : (list : List Command) → asks_last list ≡ true → some_asks list ≡ is_some (question_of list)
unfolding some_asks
last_asks [] last = refl
last_asks (command ∷ []) last = by (is_ask command) ∙ sym (asks_is command)
  where
    by : (b : Bool) → (b || false) ≡ b
    by true = refl
    by false = refl
last_asks (command ∷ next ∷ rest) last =
    let parts : (not (is_ask command) ≡ true) × (asks_last (next ∷ rest) ≡ true) = and_parts (not (is_ask command)) (asks_last (next ∷ rest)) last in
    let place : length (command ∷ next ∷ rest) - 1 ≡ suc (length (next ∷ rest) - 1) = omega arith in
    ap (λ b. b || some_asks (next ∷ rest)) (not-true (is_ask command) parts.0)
    ∙ last_asks (next ∷ rest) parts.1
    ∙ sym (ap (λ k. is_some (question_at (slice_get (command ∷ next ∷ rest) k))) place)

-- faults that are no fault of an opening or a cancel

not_stuck : (x y z : Option WorkflowFault) (a b : Bool) (fault : WorkflowFault)
    → ((fault : WorkflowFault) → z ≡ Some fault → is_stuck fault ≡ false)
    → or_else (fault_if a faults.AfterClosing) (or_else (fault_if b faults.TooManyCommands) z) ≡ Some fault → is_stuck fault ≡ false
not_stuck x y z true b fault rest is = let same : faults.AfterClosing ≡ fault = cc in ap is_stuck (sym same)
not_stuck x y z false true fault rest is = let same : faults.TooManyCommands ≡ fault = cc in ap is_stuck (sym same)
not_stuck x y z false false fault rest is = rest fault is

ask_not_stuck : (a b : Bool) (fault : WorkflowFault)
    → or_else (fault_if a faults.BadRange) (fault_if b faults.VersionOutOfRange) ≡ Some fault → is_stuck fault ≡ false
ask_not_stuck true b fault is = let same : faults.BadRange ≡ fault = cc in ap is_stuck (sym same)
ask_not_stuck false true fault is = let same : faults.VersionOutOfRange ≡ fault = cc in ap is_stuck (sym same)
ask_not_stuck false false fault is = cc

act_not_stuck : (context : ActivationContext) (settled : Settled) (earlier : List Command) (act : Act) (fault : WorkflowFault)
    → IsWell context earlier act → act_fault context settled earlier act ≡ Some fault → is_stuck fault ≡ false
unfolding ask_fault
act_not_stuck context settled earlier (Opening thing id) fault well is = let both = sym well ∙ is in cc
act_not_stuck context settled earlier (Cancelling thing id) fault well is = let both = sym well ∙ is in cc
act_not_stuck context settled earlier (Asking change low high) fault well is = ask_not_stuck _ _ fault is
act_not_stuck context settled earlier Closing fault well is = cc
act_not_stuck context settled earlier Other fault well is = cc

command_not_stuck : (context : ActivationContext) (settled : Settled) (earlier : List Command) (command : Command) (fault : WorkflowFault)
    → IsWell context earlier (act_of command) → command_fault context settled earlier command ≡ Some fault → is_stuck fault ≡ false
unfolding command_fault
command_not_stuck context settled earlier command fault well is =
    not_stuck None None (act_fault context settled earlier (act_of command)) (some_act act_closes earlier)
    (leb most_commands (length (given earlier))) fault
    (λ fault is. act_not_stuck context settled earlier (act_of command) fault well is) is

issue_not_stuck : (context : ActivationContext) (script : Script) (list : List Command) (fault : WorkflowFault)
    → AreWell context script.issued list → issue_all context script list ≡ Err fault → is_stuck fault ≡ false
issue_not_stuck context script [] fault wells is = cc
issue_not_stuck context script (command ∷ rest) fault wells is =
    by (command_fault context script.settled script.issued command) refl
    (issue_not_stuck context (record { settled = script.settled; issued = script.issued ++ command ∷ [] }) rest fault wells.1) is
  where
    by : (found : Option WorkflowFault) → command_fault context script.settled script.issued command ≡ found
        → (issue_all context (record { settled = script.settled; issued = script.issued ++ command ∷ [] }) rest ≡ Err fault → is_stuck fault ≡ false)
        → unless_fault found (issue_all context (record { settled = script.settled; issued = script.issued ++ command ∷ [] }) rest) ≡ Err fault
        → is_stuck fault ≡ false
    by None p later is = later is
    by (Some other) p later is =
        let same : other ≡ fault = cc in
        command_not_stuck context script.settled script.issued command fault wells.0 (p ∙ ap Some same)

issue_gives : (context : ActivationContext) (script out : Script) (list : List Command) → issue_all context script list ≡ Ok out
    → out.issued ≡ script.issued ++ list
issue_gives context script out [] ok =
    let e : script ≡ out = cc in ap (λ (s : Script). s.issued) (sym e) ∙ sym (append-nil script.issued)
issue_gives context script out (command ∷ rest) ok =
    by (command_fault context script.settled script.issued command)
    (issue_gives context (record { settled = script.settled; issued = script.issued ++ command ∷ [] }) out rest) ok
  where
    by : (fault : Option WorkflowFault)
        → (issue_all context (record { settled = script.settled; issued = script.issued ++ command ∷ [] }) rest ≡ Ok out
        → out.issued ≡ (script.issued ++ command ∷ []) ++ rest)
        → unless_fault fault (issue_all context (record { settled = script.settled; issued = script.issued ++ command ∷ [] }) rest) ≡ Ok out
        → out.issued ≡ script.issued ++ command ∷ rest
    by None later ok = later ok ∙ append_assoc script.issued (command ∷ []) rest
    by (Some fault) later ok = cc

cover_append : (names : List ThingName) (first second : List Command) → are_covered names first ≡ true → are_covered names second ≡ true
    → are_covered names (first ++ second) ≡ true
cover_append names [] second one other = other
cover_append names (command ∷ rest) second one other =
    let parts = and_parts (is_covered names (act_of command)) (are_covered names rest) one in
    and_from _ _ parts.0 (cover_append names rest second parts.1 other)

or_true : (a : Bool) → (a || true) ≡ true
or_true true = refl
or_true false = refl

all_begun : (names : List ThingName) (states : List ThingState) (list : List Job) → begun_so (λ name. true) names states list ≡ true
all_begun [] [] list = refl
all_begun [] (one ∷ rest) list = refl
all_begun (name ∷ names) [] list = refl
all_begun (name ∷ names) (one ∷ rest) list =
    and_from _ _ (or_true (not (one.started || starts_in name list))) (all_begun names rest list)

wells_append : (context : ActivationContext) (start first second : List Command) → AreWell context start first
    → AreWell context (start ++ first) second → AreWell context start (first ++ second)
wells_append context start [] second wells more = subst (λ l. AreWell context l second) (append_none start) more
wells_append context start (one ∷ rest) second wells more =
    (wells.0, wells_append context (start ++ one ∷ []) rest second wells.1 (subst (λ l. AreWell context l second) (sym (append_one start one rest)) more))

module _ (table : Definition) (names : List ThingName) (lawful : IsLawful (program table)) (distinct : are_distinct names ≡ true)
    (known : rows_known names table.rows ≡ true) (plain : are_plain table.rows ≡ true) where
  covered : (state : RowsState) (job : Job) → are_covered names (gives table state job) ≡ true
  covered state job = row_covered names table.rows (seen_by table state job) job known plain

  -- moves lead from one state to another
  pub record Reached (begun begun_later : Bool) (state left : RowsState) (now later : Situation) : Type 0 where
    pub moves : List Move
    pub goes : (more : List Move) → follow table names state now (moves ++ more) ≡ follow table names left later more
    pub fit : (more : List Move) → moves_fit begun (moves ++ more) ≡ moves_fit begun_later more

  pub after_reached : (begun begun_later : Bool) (state left : RowsState) (now later : Situation)
      → Reached begun begun_later state left now later → IsFreeFrom table names begun state now
      → IsFreeFrom table names begun_later left later
  after_reached begun begun_later state left now later reached free moves last on is =
      free (reached.moves ++ moves) last (reached.fit moves ∙ on) (reached.goes moves ∙ is)

  pub both_reached : (one two three : Bool) (state middle left : RowsState) (now done later : Situation)
      → Reached one two state middle now done → Reached two three middle left done later → Reached one three state left now later
  both_reached one two three state middle left now done later first second = record {
    moves = first.moves ++ second.moves;
    goes = λ more.
        ap (λ l. follow table names state now l) (append_assoc first.moves second.moves more)
        ∙ first.goes (second.moves ++ more) ∙ second.goes more;
    fit = λ more.
        ap (λ l. moves_fit one l) (append_assoc first.moves second.moves more)
        ∙ first.fit (second.moves ++ more) ∙ second.fit more;
  }

  -- whether the run has started after the job
  abbrev then_begun : Bool → Job → Bool
  then_begun begun job = begun || is_start job

  legal : Bool → Job → Type 0
  legal true job = is_start job ≡ false
  legal false job = is_start job ≡ true

  fit_one : (begun : Bool) (job : Job) (more : List Move) → legal begun job → moves_fit begun (GivesJob job ∷ more) ≡ moves_on more
  unfolding legal
  fit_one true job more is = rw is refl
  fit_one false (jobs.Start _ _) more is = refl
  fit_one false _ more is = cc

  give : (begun : Bool) (state : RowsState) (now next : Situation) (job : Job) → legal begun job → after_job names job now ≡ Some next
      → Reached begun true state (after table state job) now (after_commands names (gives table state job) next)
  give begun state now next job fits is = record {
    moves = GivesJob job ∷ [];
    goes = λ more.
        ap (λ (x : Option Situation). let all : Option Situation = elim x [
          | Some next ↦ follow table names (after table state job) (after_commands names (gives table state job) next) more
          | None ↦ None
        ] in all) is;
    fit = λ more. fit_one begun job more fits;
  }

  module _ (context : ActivationContext) (test : ThingName → Bool) where
    -- what an activation has come to
    pub record Stands (issued : List Command) (now : Situation) (rest : List Job) : Type 0 where
      pub so : AreSo context issued names now.things
      pub wells : AreWell context [] issued
      pub cover : are_covered names issued ≡ true
      pub take : all_take names now.things rest ≡ true
      pub begun : begun_so test names now.things rest ≡ true

    -- what comes of jobs
    Outcome : Bool → RowsState → Situation → List Job → Bool → Result (Progress RowsState) WorkflowFault → Type 0
    Outcome begun state now rest early (Ok last) =
        (later : Situation) × Reached begun true state last.state now later × Stands last.script.issued later rest
        × (later.awaits_version ≡ false) × (later.takes_signals ≡ early)
    Outcome begun state now rest early (Err fault) = is_stuck fault ≡ false

    made : RowsState → ℕ → Reply → Turn RowsState
    made state meter answer = record {
      progress = record { state = state; script = answer.script; meter = meter };
      next = answer.next;
    }

    marker_well : (marked : Bool) (change : List ℕ) (version : ℤ) (earlier : List Command) → AreWell context earlier (marker_if marked change version)
    marker_well true change version earlier = (tt, tt)
    marker_well false change version earlier = tt

    marker_covered : (marked : Bool) (change : List ℕ) (version : ℤ) → are_covered names (marker_if marked change version) ≡ true
    marker_covered true change version = refl
    marker_covered false change version = refl

    marker_same : (marked : Bool) (change : List ℕ) (version : ℤ) (now : Situation)
        → (after_commands names (marker_if marked change version) now).things ≡ now.things
    marker_same true change version now = refl
    marker_same false change version now = refl

    settled : (begun : Bool) (fuel : ℕ) (job : Job) (first : Progress RowsState) (now next : Situation) (rest : List Job)
        → after_job names job now ≡ Some next → next.awaits_version ≡ false → Stands first.script.issued next rest
        → legal begun job → IsFreeFrom table names begun first.state now
        → Outcome begun first.state now rest next.takes_signals (settle (program table) context fuel job first)
    unfolding settle Outcome made legal
    settled begun zero job first now next rest is awaits stands fits free = refl
    settled begun (suc fuel) job first now next rest is awaits stands fits free =
        by (issue_all context first.script list) refl
        (λ version first now next awaits is. settled true fuel version first now next rest is awaits)
      where
        list : List Command
        list = gives table first.state job

        done : Situation
        done = after_commands names list next

        here : Reached begun true first.state (after table first.state job) now done
        here = give begun first.state now next job fits is

        free_then : IsFreeFrom table names true (after table first.state job) done
        free_then = after_reached begun true first.state (after table first.state job) now done here free

        wells : AreWell context first.script.issued list
        wells =
            wells_on context names first.script.issued list next distinct (covered first.state job) stands.so stands.wells
            (free_then [] done refl refl)

        all_covered : are_covered names (first.script.issued ++ list) ≡ true
        all_covered = cover_append names first.script.issued list stands.cover (covered first.state job)

        so : AreSo context (first.script.issued ++ list) names done.things
        so = (acts_on context names first.script.issued list next distinct (covered first.state job) stands.so stands.wells wells).1

        kept : (all_take names done.things rest ≡ true) × (done.takes_signals ≡ next.takes_signals)
        kept = let all = commands_keep rest names list next in (all.0.0 ∙ stands.take, all.1)

        begun_done : begun_so test names done.things rest ≡ true
        begun_done = (commands_keep rest names list next).0.1 test ∙ stands.begun

        asked : done.awaits_version ≡ is_some (question_of list)
        asked =
            commands_await names list next ∙ ap (λ b. some_asks list || b) awaits ∙ flat (some_asks list)
            ∙ last_asks list (lawful first.state job).asks
          where
            flat : (b : Bool) → (b || false) ≡ b
            flat true = refl
            flat false = refl

        Further : Type 0
        Further =
            (version : Job) (first : Progress RowsState) (now next : Situation) → next.awaits_version ≡ false
            → after_job names version now ≡ Some next → Stands first.script.issued next rest → legal true version
            → IsFreeFrom table names true first.state now
            → Outcome true first.state now rest next.takes_signals (settle (program table) context fuel version first)

        turned : Reply → Turn RowsState
        turned answer = record {
          progress = record { state = after table first.state job; script = answer.script; meter = ticked first.meter };
          next = answer.next;
        }

        on : Reply → Result (Progress RowsState) WorkflowFault
        on answer =
            follow_option answer.next (Ok (turned answer).progress) (λ version. settle (program table) context fuel version (turned answer).progress)

        awaiting : (change : List ℕ) (version : ℤ) → done.awaits_version ≡ true
            → after_job names (jobs.Version change version) done ≡ Some (record done { awaits_version = false })
        awaiting change version waits =
            ap (λ (b : Bool). let x : Option Situation = elim b [ true ↦ Some (record done { awaits_version = false }) | false ↦ None ] in x) waits

        joined : (state : RowsState) (after_version : Situation) (signals : Bool) (result : Result (Progress RowsState) WorkflowFault)
            → signals ≡ next.takes_signals
            → Outcome true (after table first.state job) done rest signals result
            → Outcome begun first.state now rest next.takes_signals result
        joined state after_version signals (Ok last) same out = (
          out.0,
          both_reached begun true true first.state (after table first.state job) last.state now done out.0 here out.1,
          out.2,
          out.3,
          out.4 ∙ same,
        )
        joined state after_version signals (Err fault) same out = out

        by_question : Further → (script : Script) → script.issued ≡ first.script.issued ++ list → (question : Option Question)
            → question_of list ≡ question
            → Outcome begun first.state now rest next.takes_signals (on (reply context script question))
        by_question further script issued None asks = (
          done,
          here,
          record {
            so = subst (λ l. AreSo context l names done.things) (sym issued) so;
            wells = subst (λ l. AreWell context [] l) (sym issued) (wells_append context [] first.script.issued list stands.wells wells);
            cover = subst (λ l. are_covered names l ≡ true) (sym issued) all_covered;
            take = kept.0;
            begun = begun_done;
          },
          asked ∙ ap (λ (q : Option Question). is_some q) asks,
          kept.1,
        )
        by_question further script issued (Some question) asks =
            let choice = choice_of context script.settled question.0 question.1 in
            let marker : List Command = marker_if choice.marked question.0 choice.version in
            let waits : done.awaits_version ≡ true = asked ∙ ap (λ (q : Option Question). is_some q) asks in
            let all_wells : AreWell context [] (first.script.issued ++ list) = wells_append context [] first.script.issued list stands.wells wells in
            let mark_well : AreWell context (first.script.issued ++ list) marker =
            marker_well choice.marked question.0 choice.version (first.script.issued ++ list) in
            let mark_so : AreSo context ((first.script.issued ++ list) ++ marker) names done.things =
            subst (λ l. AreSo context ((first.script.issued ++ list) ++ marker) names l) (marker_same choice.marked question.0 choice.version done)
            (acts_on context names (first.script.issued ++ list) marker done distinct (marker_covered choice.marked question.0 choice.version) so all_wells mark_well).1 in
            joined (after table first.state job) done done.takes_signals
            (settle (program table) context fuel (jobs.Version question.0 choice.version) (turned (reply context script (Some question))).progress)
            kept.1
            (further (jobs.Version question.0 choice.version) (turned (reply context script (Some question))).progress done
            (record done { awaits_version = false }) refl (awaiting question.0 choice.version waits)
            (record {
              so = subst (λ l. AreSo context (l ++ marker) names done.things) (sym issued) mark_so;
              wells =
                  subst (λ l. AreWell context [] (l ++ marker)) (sym issued)
                  (wells_append context [] (first.script.issued ++ list) marker all_wells mark_well);
              cover =
                  subst (λ l. are_covered names (l ++ marker) ≡ true) (sym issued)
                  (cover_append names (first.script.issued ++ list) marker all_covered (marker_covered choice.marked question.0 choice.version));
              take = kept.0;
              begun = begun_done;
            }) refl free_then)

        by : (result : Result Script WorkflowFault) → issue_all context first.script list ≡ result → Further
            → Outcome begun first.state now rest next.takes_signals
            (and_then (and_then (and_then result (λ next. Ok (reply context next (question_of list)))) (λ answer. Ok (turned answer)))
            (λ next. follow_option next.next (Ok next.progress) (λ version. settle (program table) context fuel version next.progress)))
        by (Ok script) p further =
            by_question further script (issue_gives context first.script script list p) (question_of list) refl
        by (Err fault) p further = issue_not_stuck context first.script list fault wells p

    -- an activation
    unfoldable pub Ends : Bool → RowsState → Situation → Result (Progress RowsState) WorkflowFault → Type 0
    Ends begun state now (Ok last) =
        (later : Situation) × Reached begun true state last.state now later × Stands last.script.issued later []
        × (later.awaits_version ≡ false)
    Ends begun state now (Err fault) = is_stuck fault ≡ false

    nothing : (state : RowsState) (now : Situation) → Reached true true state state now now
    nothing state now = record { moves = []; goes = λ more. refl; fit = λ more. refl }

    pub activated : (begun : Bool) (list : List Job) (first : Progress RowsState) (now : Situation)
        → Stands first.script.issued now list → now.awaits_version ≡ false → in_order now.takes_signals list ≡ true
        → are_known names list ≡ true → jobs_fit begun list ≡ true → IsFreeFrom table names begun first.state now
        → Ends begun first.state now (activate (program table) context list first)
    unfolding Outcome Ends legal
    activated true [] first now stands awaits order known fits free = (now, nothing first.state now, stands, awaits)
    activated false [] first now stands awaits order known fits free = cc
    activated begun (job ∷ rest) first now stands awaits order known fits free =
        by (settle (program table) context (room first) job first)
        (settled begun (room first) job first now heard.next rest heard.is heard.awaits
        (record { so = heard.so context first.script.issued stands.so; wells = stands.wells; cover = stands.cover; take = heard.takes_rest; begun = heard.begun test stands.begun })
        legal_here free)
        (λ last later stands awaits signals free. activated true rest last later stands awaits
        (subst (λ b. in_order b rest ≡ true) (sym signals) heard.ordered) knowns.2 rest_fits free)
      where
        knowns : ((is_known names (ending job) && is_known names (starting job)) ≡ true)
            × (not (is_version job) ≡ true) × (are_known names rest ≡ true)
        knowns =
            let outer = and_parts (is_known names (ending job) && is_known names (starting job)) (not (is_version job) && are_known names rest) known in
            let inner = and_parts (not (is_version job)) (are_known names rest) outer.1 in
            (outer.0, inner.0, inner.1)

        both_known : (is_known names (ending job) ≡ true) × (is_known names (starting job) ≡ true)
        both_known = and_parts (is_known names (ending job)) (is_known names (starting job)) knowns.0

        heard : Heard names job rest now
        heard = hears names distinct rest now awaits job stands.take order both_known.0 both_known.1 (not-true (is_version job) knowns.1)

        fit_parts : (begun : Bool) → jobs_fit begun (job ∷ rest) ≡ true → legal begun job × (jobs_fit true rest ≡ true)
        fit_parts true is = let parts = and_parts (not (is_start job)) (jobs_fit true rest) is in (not-true (is_start job) parts.0, parts.1)
        fit_parts false is = and_parts (is_start job) (jobs_fit true rest) is

        legal_here : legal begun job
        legal_here = (fit_parts begun fits).0

        rest_fits : jobs_fit true rest ≡ true
        rest_fits = (fit_parts begun fits).1

        Later : Type 0
        Later =
            (last : Progress RowsState) (later : Situation) → Stands last.script.issued later rest → later.awaits_version ≡ false
            → later.takes_signals ≡ heard.next.takes_signals → IsFreeFrom table names true last.state later
            → Ends true last.state later (activate (program table) context rest last)

        ends_by : (middle : RowsState) (done : Situation) → Reached begun true first.state middle now done
            → (result : Result (Progress RowsState) WorkflowFault) → Ends true middle done result → Ends begun first.state now result
        ends_by middle done here (Ok last) out =
            (out.0, both_reached begun true true first.state middle last.state now done out.0 here out.1, out.2, out.3)
        ends_by middle done here (Err fault) out = out

        by : (result : Result (Progress RowsState) WorkflowFault) → Outcome begun first.state now rest heard.next.takes_signals result → Later
            → Ends begun first.state now (and_then result (activate (program table) context rest))
        by (Err fault) out later = out
        by (Ok last) out later =
            ends_by last.state out.0 out.1 (activate (program table) context rest last)
            (later last out.0 out.2 out.3 out.4 (after_reached begun true first.state last.state now out.0 out.1 free))

pub never_sticks : (table : Definition) (names : List ThingName) → IsLawful (program table) → ActivationsNeverStick table names
unfolding Ends
never_sticks table names lawful context begun list first now fault are issued so awaits come free is =
    by (activate (program table) context list first) is
    (activated table names lawful firsts.0 seconds.0 seconds.1 context (λ name. true) begun list first now
    (record {
      so = subst (λ l. AreSo context l names now.things) (sym issued) so;
      wells = subst (λ l. AreWell context [] l) (sym issued) tt;
      cover = subst (λ l. are_covered names l ≡ true) (sym issued) refl;
      take = may.0;
      begun = all_begun names now.things list;
    }) awaits more.0 last.0 last.1 free)
  where
    parts : ((are_distinct names && are_named names) ≡ true) × ((rows_known names table.rows && are_plain table.rows) ≡ true)
    parts = and_parts (are_distinct names && are_named names) (rows_known names table.rows && are_plain table.rows) are

    firsts : (are_distinct names ≡ true) × (are_named names ≡ true)
    firsts = and_parts (are_distinct names) (are_named names) parts.0

    seconds : (rows_known names table.rows ≡ true) × (are_plain table.rows ≡ true)
    seconds = and_parts (rows_known names table.rows) (are_plain table.rows) parts.1

    may : (all_take names now.things list ≡ true)
        × ((in_order now.takes_signals list && (are_known names list && jobs_fit begun list)) ≡ true)
    may = and_parts (all_take names now.things list) (in_order now.takes_signals list && (are_known names list && jobs_fit begun list)) come

    more : (in_order now.takes_signals list ≡ true) × ((are_known names list && jobs_fit begun list) ≡ true)
    more = and_parts (in_order now.takes_signals list) (are_known names list && jobs_fit begun list) may.1

    last : (are_known names list ≡ true) × (jobs_fit begun list ≡ true)
    last = and_parts (are_known names list) (jobs_fit begun list) more.1

    by : (result : Result (Progress RowsState) WorkflowFault) → result ≡ Err fault
        → Ends table names lawful firsts.0 seconds.0 seconds.1 context (λ name. true) begun first.state now result → is_stuck fault ≡ false
    by (Ok last) is out = cc
    by (Err other) is out = let same : other ≡ fault = cc in ap is_stuck (sym same) ∙ out
