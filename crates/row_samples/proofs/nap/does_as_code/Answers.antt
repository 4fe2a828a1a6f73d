-- The table of Nap gives the same commands as its code.
use Rattle.std.specs.Prelude.{◌≡◌, ℕ, Bool, true, false, ◌&&◌, List, [], ◌∷◌, ◌++◌, slice_get, Option, None, bytes_eq, codes, refl, if◌then◌else◌}
use Rattle.std.proofs.Common.{ap}
use Rattle.wh_events.specs.declared.event.Payload.{Payload}
use Rattle.wh_workflow.specs.declared.command.Command.TheVariants.{StartTimer, Complete}
use Rattle.wh_workflow.specs.declared.job.Job.{Job}
use Rattle.wh_workflow.specs.declared.job.Job.TheVariants as jobs
use Rattle.wh_rows.specs.declared.row.Counters.{Counters}
use Rattle.wh_rows.specs.declared.row.RowsState.{RowsState}
use Rattle.wh_rows.specs.Tables.{Row, seen}
use Rattle.wh_rows.specs.Rows.{program, named, row_for, commands_of, after_effects, row_gives, after_found}
use Rattle.wh_rows.specs.Laws.{one_closes}
use Rattle.wh_sample_workflows.specs.Nap.{nap}
use Rattle.row_samples.specs.declared.nap.TheConstants.{NAP}
use Rattle.row_samples.specs.Alike.{given_until_closed}
use Rattle.row_samples.proofs.nap.does_as_code.Goals as goal

-- a run that is not closed
abbrev asleep : List ℕ → List Payload → List Payload → Counters → RowsState
asleep name input kept counts =
    record { at = codes "asleep"; closed = false; name = name; input = input; kept = kept; counts = counts }

-- both sides of a test
either : (test : Bool) (one other : Option Row) (P : Bool → Option Row → Type 0) → P true one → P false other
    → P test (if test && true then one else other)
either true one other P first second = first
either false one other P first second = second

runs : (jobs : List Job) (name : List ℕ) (input kept : List Payload) (counts : Counters)
    → given_until_closed (program (seen NAP)) (asleep name input kept counts) jobs
    ≡ given_until_closed nap (record {}) jobs
unfolding row_for commands_of after_effects named
runs [] name input kept counts = refl
runs (jobs.Start kind given ∷ later) name input kept counts =
    ap (λ rest. StartTimer (codes "nap") 60 ∷ rest) (runs later [] given kept counts)
runs (jobs.TimerFired id ∷ later) name input kept counts =
    let state : RowsState = asleep name input kept counts in
    let job : Job = jobs.TimerFired id in
    either (bytes_eq id (codes "nap")) (slice_get (seen NAP).rows 1) None
    (λ test row. row_gives row state job
    ++ (if one_closes (row_gives row state job) then [] else given_until_closed (program (seen NAP)) (after_found row (seen NAP).bounds state job) later)
    ≡ (if test then Complete [] ∷ [] else [])
    ++ (if one_closes (if test then Complete [] ∷ [] else []) then [] else given_until_closed nap (record {}) later))
    refl (runs later name input kept counts)
runs (_ ∷ later) name input kept counts = runs later name input kept counts

pub returns : goal.returns
returns c jobs = runs jobs [] [] [] (record { a = 0; b = 0; c = 0; d = 0 })
