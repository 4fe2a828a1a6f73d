-- The result of a trial as JSON, and in a format.
use Rattle.std.specs.Prelude.{ℕ, List, [], ◌++◌, length, codes, decimal, Option, Some, None, if◌then◌else◌}
use Rattle.wh_console.specs.declared.format.Format.{Format}
use Rattle.wh_console.specs.declared.format.Format.TheVariants as formats
use Rattle.wh_tester.specs.Json.{escaped}
use Rattle.wh_tester.specs.Report.{shown}
use Rattle.wh_table_trial.specs.declared.running.TrialDifference.{TrialDifference}
use Rattle.wh_table_trial.specs.declared.running.TrialDifference.TheVariants as differences
use Rattle.wh_table_trial.specs.declared.running.Trial.{Trial}
use Rattle.wh_table_trial.specs.Texts.{trial_text}
use Rattle.wh_table_trial.specs.Trials.{is_good}

-- the word for a trial: `ok` if nothing differs, and else `fault`
abbrev pub verdict_word : Trial → List ℕ
verdict_word own = if is_good own then codes "ok" else codes "fault"

-- the beginning of the object of a file: its name, the verdict, and the number of jobs
abbrev pub object_head : List ℕ → Trial → List ℕ
object_head name own =
    codes "{\"file\":\"" ++ (escaped (shown name) ++ (codes "\",\"verdict\":\"" ++ (verdict_word own
    ++ (codes "\",\"jobs\":" ++ decimal (length own.steps)))))

-- the member that says why there is no run
abbrev pub reason_member : List ℕ → List ℕ
reason_member reason = codes ",\"text\":\"" ++ (escaped (shown reason) ++ codes "\"")

-- the members for words that are not a job
abbrev pub no_job_members : ℕ → List ℕ → List ℕ
no_job_members line words =
    codes ",\"line\":" ++ (decimal line ++ (codes ",\"text\":\"no job is written `"
    ++ (escaped (shown words) ++ codes "`\"")))

-- the members for commands that differ
abbrev pub gives_members : ℕ → List ℕ → List ℕ → List ℕ
gives_members line given wanted =
    codes ",\"line\":" ++ (decimal line ++ (codes ",\"expected\":\"" ++ (escaped (shown wanted)
    ++ (codes "\",\"gives\":\"" ++ (escaped (shown given) ++ codes "\"")))))

-- the members of the difference, if there is one
abbrev pub difference_members : Option TrialDifference → List ℕ
difference_members None = []
difference_members (Some differences.NoScenario) = reason_member (codes "no scenario")
difference_members (Some (differences.NoTable reason)) = reason_member reason
difference_members (Some (differences.NoJob line words)) = no_job_members line words
difference_members (Some (differences.Gives line given wanted)) = gives_members line given wanted

-- the object of a file, on a line
abbrev pub trial_object : List ℕ → Trial → List ℕ
trial_object name own = (object_head name own ++ difference_members own.difference) ++ codes "}\n"

-- a trial in a format
abbrev pub trial_as : Format → List ℕ → Trial → List ℕ
trial_as formats.Text name own = trial_text name own
trial_as formats.Json name own = trial_object name own
