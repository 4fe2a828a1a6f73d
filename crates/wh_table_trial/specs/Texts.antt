-- The result of a trial as text.
use Rattle.std.specs.Prelude.{ℕ, List, ◌++◌, length, nat_eq, codes, decimal, Option, Some, None, if◌then◌else◌}
use Rattle.std.specs.List.{flat_map}
use Rattle.wh_tester.specs.Report.{shown}
use Rattle.wh_table_trial.specs.declared.running.TrialDifference.{TrialDifference}
use Rattle.wh_table_trial.specs.declared.running.TrialDifference.TheVariants as differences
use Rattle.wh_table_trial.specs.declared.running.TrialStep.{TrialStep}
use Rattle.wh_table_trial.specs.declared.running.Trial.{Trial}

-- a job and its commands, as a line of a scenario
abbrev pub step_text : TrialStep → List ℕ
step_text step =
    if nat_eq (length step.given) 0 then step.words ++ codes " =>\n"
    else step.words ++ (codes " => " ++ (step.given ++ codes "\n"))

-- jobs and their commands, as lines of a scenario
abbrev pub steps_text : List TrialStep → List ℕ
steps_text steps = flat_map step_text steps

-- the last line if nothing differs
abbrev pub ok_text : List ℕ → ℕ → List ℕ
ok_text name count = shown name ++ (codes ": ok, " ++ (decimal count ++ codes " jobs\n"))

-- the last line for a table that has no scenario
abbrev pub no_scenario_text : List ℕ → List ℕ
no_scenario_text name = shown name ++ codes ": no scenario\n"

-- the last line for a file that is not a table
abbrev pub no_table_text : List ℕ → List ℕ → List ℕ
no_table_text name reason = shown name ++ (codes ": " ++ (shown reason ++ codes "\n"))

-- the last line for words that are not a job
abbrev pub no_job_text : List ℕ → ℕ → List ℕ → List ℕ
no_job_text name line words =
    shown name ++ (codes ": line " ++ (decimal line ++ (codes ": no job is written `" ++ (words ++ codes "`\n"))))

-- the last lines for commands that differ
abbrev pub gives_text : List ℕ → ℕ → List ℕ → List ℕ → List ℕ
gives_text name line given wanted =
    shown name ++ (codes ": line " ++ (decimal line ++ (codes " differs\n  expected " ++ (wanted
    ++ (codes "\n  gives    " ++ (given ++ codes "\n"))))))

-- the last lines: that nothing differs, with the number of jobs, or the difference
abbrev pub difference_text : List ℕ → ℕ → Option TrialDifference → List ℕ
difference_text name count None = ok_text name count
difference_text name count (Some differences.NoScenario) = no_scenario_text name
difference_text name count (Some (differences.NoTable reason)) = no_table_text name reason
difference_text name count (Some (differences.NoJob line words)) = no_job_text name line words
difference_text name count (Some (differences.Gives line given wanted)) = gives_text name line given wanted

-- the last lines of a trial
abbrev pub end_text : List ℕ → Trial → List ℕ
end_text name own = difference_text name (length own.steps) own.difference

-- a trial as text: its jobs, and the last lines
abbrev pub trial_text : List ℕ → Trial → List ℕ
trial_text name own = steps_text own.steps ++ end_text name own
