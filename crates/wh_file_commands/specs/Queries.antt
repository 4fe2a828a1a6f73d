-- What a query of a file writes and reports, and why it has no full report.
use Rattle.std.specs.Prelude.{◌≡◌, ◌⊎◌, ℕ, List, IsSome, None, Option, Some}
use Rattle.wh_console.specs.Consoles.{ConsoleView, Printed, Reported}
use Rattle.wh_console.specs.declared.format.Format.{Format}
use Rattle.wh_report.specs.Notes.{record_lines}
use Rattle.wh_diagnostics.specs.Failures.{IsWriteFailure}
use Rattle.wh_diagnostics.specs.Files.{IsNotCarriedOut}
use Rattle.wh_diagnostics.specs.KnownTypes.{known_types_text}
use Rattle.wh_diagnostics.specs.Readings.{Gives}
use Rattle.wh_diagnostics.specs.declared.failures.Failure.{Failure}
use Rattle.wh_diagnostics.specs.declared.failures.Failure.TheVariants.{BadInput, OutOfMemory}
use Rattle.wh_file_faults.specs.Faults.{File}
use Rattle.wh_file_commands.specs.Queried.{IsQueried, status_of as query_status}
use Rattle.wh_file_commands.specs.QueryTexts.{queried_as}
use Rattle.wh_file_commands.specs.declared.queried.Queried.{Queried}
use Rattle.wh_tester.specs.UnknownTypes.{is_no_code}
use Rattle.wh_workflow.specs.Queries.{Queries}
use Rattle.wh_workflow.specs.declared.queryable.Query.{Query as Question}
use Rattle.wh_workflow.specs.Law.{Program}

-- a file was queried as it is asked for, and what came of it was written, then the lines of its record were reported,
-- and the workflow types that there is code for where it has another one; the status is that of the query
pub record HasQueried {S : Type 0} (program : Program S) (queries : Queries S) (types : List ℕ)
    (asked : Option Question) (format : Format) (file : File) (old new : ConsoleView) (status : ℕ) : Type 0 where
  pub query : Question
  pub asks : asked ≡ Some query
  pub queried : Queried
  pub between : ConsoleView
  pub ended : ConsoleView
  pub is : IsQueried program queries file query queried
  pub printed : Printed old between (queried_as format queried)
  pub reported : Reported between ended (record_lines queried.own)
  pub known : Reported ended new (known_types_text types (is_no_code queried.own.line.verdict))
  pub ends : status ≡ query_status queried

-- why no query is asked: an argument is no JSON, or there was no memory to see that
abbrev pub IsUnasked : Option Question → Failure → Type 0
IsUnasked asked failure = ((asked ≡ None) × (failure ≡ BadInput)) ⊎ (failure ≡ OutOfMemory)

-- why a query of the file at a path has no full report: none is asked; or one is, and it is not carried out
abbrev pub IsUnqueried : Gives → Option Question → (path : List ℕ) → Failure → Type 0
IsUnqueried gives asked path failure =
    IsUnasked asked failure ⊎ (IsSome asked × IsNotCarriedOut gives (λ file. IsWriteFailure) path failure)
