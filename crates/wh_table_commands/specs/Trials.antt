-- What a trial of tables is, what it writes, and its status.
use Rattle.std.specs.Prelude.{◌≡◌, ◌≢◌, ◌⊎◌, ℕ, List, Option, Some, None}
use Rattle.wh_console.specs.declared.files.Input.{Input}
use Rattle.wh_console.specs.declared.format.Format.{Format}
use Rattle.wh_diagnostics.specs.Readings.{Gives, IsUnread}
use Rattle.wh_diagnostics.specs.Walks.{Silently, Visits}
use Rattle.wh_diagnostics.specs.declared.failures.Failure.{Failure}
use Rattle.wh_diagnostics.specs.declared.failures.Failure.TheVariants.{OutOfMemory}
use Rattle.wh_table_commands.specs.Files.{IsTableOf}
use Rattle.wh_table_commands.specs.Scenarios.{IsInputBeside, IsScenario, LacksScenario}
use Rattle.wh_table_commands.specs.TrialReports.{HasReported}
use Rattle.wh_table_commands.specs.declared.files.TableFile.{TableFile}
use Rattle.wh_table_commands.specs.declared.trying.TableTrial.{TableTrial}
use Rattle.wh_table_trial.specs.Trials.{trial, without_scenario}

-- what comes of the table in a file that has this scenario
abbrev pub trial_on : TableFile → (scenario : List ℕ) → TableTrial
trial_on file scenario = record { name = file.name; own = trial file.bytes scenario; lack = None }

-- what comes of the table in a file that has no scenario, for this reason
abbrev pub trial_lacking : TableFile → Failure → TableTrial
trial_lacking file failure = record { name = file.name; own = without_scenario; lack = Some failure }

-- the table in a file was tried on its scenario, or it has none: one that is given is there, unless there was no memory
abbrev pub IsTrialOf : Gives → (given : Option (List ℕ)) → TableFile → (beside : Input) → TableTrial → Type 0
IsTrialOf gives given file beside own =
    ((scenario : List ℕ) × IsScenario gives beside given scenario × (own ≡ trial_on file scenario))
    ⊎ ((failure : Failure) × LacksScenario gives beside given failure × (failure ≢ OutOfMemory)
    × (own ≡ trial_lacking file failure))

-- an input was read as the file of a table, and this came of it
pub record IsTried (gives : Gives) (given : Option (List ℕ)) (input : Input) (own : TableTrial) : Type 0 where
  pub file : TableFile
  pub read : IsTableOf gives input file
  pub beside : Input
  pub is_beside : IsInputBeside input beside
  pub tried : IsTrialOf gives given file beside own

-- `try`: the table in each input is tried, and then the report is written
abbrev pub trials : (given : Option (List ℕ)) → Format → Visits TableTrial
trials given format =
    record {
      tells = Silently (λ gives. IsTried gives given);
      stops = IsUnread;
      ends = λ all lacks. HasReported all format lacks;
    }
