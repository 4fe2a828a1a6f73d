-- The runs of a history whose input begins with a table are those of that table.
use Rattle.std.proofs.Common.{◌≡◌, Bool, true, false, List, [], ◌∷◌, None, Ok, ℤ, refl, sym, ap, subst, ◌∙◌}
use Rattle.wh_events.specs.declared.event.Event.{Event}
use Rattle.wh_events.specs.declared.event.Payload.{Payload}
use Rattle.wh_workflow.specs.declared.job.Job.{Job}
use Rattle.wh_workflow.specs.declared.job.Job.TheVariants as jobs
use Rattle.wh_workflow.specs.Counting.{ticked}
use Rattle.wh_workflow.specs.Scripts.{ActivationContext}
use Rattle.wh_workflow.specs.Activations.{Progress, activate}
use Rattle.wh_replay.specs.Replays.{ReplayResult, begin_at, workflow_of}
use Rattle.wh_rows.specs.declared.row.RowsState.{RowsState}
use Rattle.wh_rows.specs.Rows as rows
use Rattle.wh_rows.specs.Rules.{table_fault}
use Rattle.wh_rows.specs.Lawful.{rows_lawful}
use Rattle.wh_row_rules.specs.declared.owned.OwnedTable.{OwnedTable}
use Rattle.wh_row_rules.specs.Broken.{definition}
use Rattle.wh_table.specs.declared.state.TableState.{TableState}
use Rattle.wh_table.specs.Carrying.{held}
use Rattle.wh_table.specs.Program.{front, tail, table_in, program}
use Rattle.wh_table.specs.Laws.{read_breaks_none}
use Rattle.wh_promise_check.specs.Kept.{input_of}
use Rattle.wh_possible_histories.specs.Tellings.{jobs_fit}
use Rattle.wh_possible_histories.specs.BroughtTables.{BroughtTablesNeverStick, CheckedTablesNeverStick}
use Rattle.wh_possible_histories.proofs.Alike.{Sees, sees_same, sees_start, Follows}
use Rattle.wh_possible_histories.proofs.Followed.{timed, time_gives, time_leaves, activates, starts, alike}
use Rattle.wh_possible_histories.proofs.Histories.{never_stick}

-- a table in an input breaks no rule
breaks_none : (input : List Payload) (table : OwnedTable) → table_in input ≡ Ok table → table_fault (definition table) ≡ None
breaks_none [] table is = cc
breaks_none (first ∷ others) table is = read_breaks_none first.content table is

module _ (events : List Event) (table : OwnedTable) (is : table_in (input_of events) ≡ Ok table) where
  none : table_fault (definition table) ≡ None
  none = breaks_none (input_of events) table is

  abbrev state_of : RowsState → TableState
  state_of run = record { kind = workflow_of events; payload = front (input_of events); table = table; run = run }

  -- before the first task, nothing has come to the rows; then the run is in the state of the rows
  abbrev pub Stood : Bool → TableState → RowsState → Type 0
  Stood false state run = run ≡ rows.initial (definition table)
  Stood true state run = state ≡ state_of run

  no_commands : (state : TableState) (time : ℤ) → program.gives state (jobs.Time time) ≡ []
  no_commands state time = ap (held state.kind state.payload) (time_gives (definition state.table) state.run time)

  module _ (context : ActivationContext) (time : ℤ) (list : List Job) (current : ReplayResult TableState) (run : RowsState) where
    abbrev begun_in : TableState → Progress TableState
    begun_in state = record {
      state = state;
      script = record { settled = current.settled; issued = [] };
      meter = ticked current.meter;
    }

    abbrev rows_begun : Progress RowsState
    rows_begun = record {
      state = run;
      script = record { settled = current.settled; issued = [] };
      meter = ticked current.meter;
    }

    after_time : activate program context (jobs.Time time ∷ list) (begin_at current)
        ≡ activate program context list (begun_in (program.after current.state (jobs.Time time)))
    after_time = timed program context time list (begin_at current) (no_commands current.state time)

  pub follow : Follows program (definition table) events Stood
  follow context true time list current run stood fits from = (
    list,
    sees_same list,
    alike (workflow_of events) (front (input_of events)) table none context _ _
        (after_time context time list current run
        ∙ ap (λ state. activate program context list (begun_in context time list current run state))
        (ap (λ state. program.after state (jobs.Time time)) stood ∙ ap state_of (time_leaves (definition table) run time))
        ∙ activates (workflow_of events) (front (input_of events)) table none context list fits (rows_begun context time list current run)),
  )
  follow context false time list current run stood fits from =
      let first : (rest : List Job) × (list ≡ jobs.Start (workflow_of events) (input_of events) ∷ rest) = from refl in (
        jobs.Start (workflow_of events) (tail (input_of events)) ∷ first.0,
        subst (λ l. Sees l (jobs.Start (workflow_of events) (tail (input_of events)) ∷ first.0)) (sym first.1)
            (sees_start (workflow_of events) (input_of events) (tail (input_of events)) first.0),
        alike (workflow_of events) (front (input_of events)) table none context _ _
            (after_time context time list current run
            ∙ ap (λ l. activate program context l (begun_in context time list current run (program.after current.state (jobs.Time time)))) first.1
            ∙ starts (workflow_of events) (front (input_of events)) table none context (input_of events) first.0 is refl
            (subst (λ l. jobs_fit false l ≡ true) first.1 fits) (program.after current.state (jobs.Time time))
            (rows_begun context time list current run) stood),
      )

pub brought_tables_never_stick : BroughtTablesNeverStick
brought_tables_never_stick events table is plain free records once =
    never_stick program (definition table) (rows_lawful (definition table) (breaks_none (input_of events) table is)) plain free
    events records once (Stood events table is) (follow events table is) refl

pub checked_tables_never_stick : CheckedTablesNeverStick
checked_tables_never_stick events first others brings table reads plain right =
    brought_tables_never_stick events table (ap table_in brings ∙ reads) plain right
