-- A table that gives the same commands as code.
use Rattle.std.specs.Prelude.{◌≡◌, ℕ, List, [], ◌∷◌, ◌++◌, if◌then◌else◌}
use Rattle.wh_workflow.specs.declared.command.Command.{Command}
use Rattle.wh_workflow.specs.declared.job.Job.{Job}
use Rattle.wh_workflow.specs.Law.{Program}
use Rattle.wh_rows.specs.Tables.{Definition}
use Rattle.wh_rows.specs.Rows.{program}
use Rattle.wh_rows.specs.Laws.{one_closes}

module _ {S : Type 0} where
  -- the commands that jobs get, one after another, up to the step that closes the run
  abbrev pub given_until_closed : Program S → S → List Job → List Command
  given_until_closed code state [] = []
  given_until_closed code state (job ∷ later) =
      code.gives state job
      ++ (if one_closes (code.gives state job) then [] else given_until_closed code (code.after state job) later)

module _ {S : Type 0} where
  -- a table gives the same commands as the code, whatever jobs come to a run of this type
  abbrev pub GivesAsCode : Definition → Program S → List ℕ → Type 0
  GivesAsCode table code kind =
      (jobs : List Job)
      → given_until_closed (program table) ((program table).initial kind) jobs
      ≡ given_until_closed code (code.initial kind) jobs
