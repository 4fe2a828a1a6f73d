-- The entries of a scenario.
use Rattle.std.specs.Prelude.{ℕ, ◌+◌, List, [], ◌∷◌, ◌++◌, length, map, nat_eq, codes, Option, Some, None, if◌then◌else◌}
use Rattle.std.specs.Str.{trim}
use Rattle.std.specs.Str.Lines.{lines}
use Rattle.wh_workflow.specs.declared.job.Job.{Job}
use Rattle.wh_author_tools.specs.JobTexts.{job_of}
use Rattle.wh_author_tools.specs.Scenarios.{at_arrow, parts_of}
use Rattle.wh_table_text.specs.Numbered.{numbered}
use Rattle.wh_table_trial.specs.declared.entries.Entry.{Entry}
use Rattle.wh_table_trial.specs.declared.entries.Entry.TheVariants.{Told, NoJob, LineEnd}

-- the entry of a job, or of words that are not one, in the line of this number
abbrev pub told_or_not : ℕ → List ℕ → Option Job → Entry
told_or_not line words (Some job) = Told words job
told_or_not line words None = NoJob line words

-- the entry of words with whitespace around them
abbrev pub entry_of : ℕ → List ℕ → Entry
entry_of line words = told_or_not line (trim words) (job_of (codes "Table") (trim words))

-- the entries of the parts between semicolons
abbrev pub part_entries : ℕ → List ℕ → List Entry
part_entries line words = map (entry_of line) (parts_of words)

-- the end of a line
abbrev pub line_end : ℕ → Option (List ℕ) → List Entry
line_end line wanted = LineEnd line wanted ∷ []

-- the entries of the words before an arrow and the end of the line, or of a line without an arrow
abbrev pub by_arrow : ℕ → List ℕ → Option (List ℕ × List ℕ) → List Entry
by_arrow line words None = part_entries line words ++ line_end line None
by_arrow line words (Some sides) = part_entries line sides.0 ++ line_end line (Some (trim sides.1))

-- the entries of a line that is not blank
abbrev pub sides_entries : ℕ → List ℕ → List Entry
sides_entries line words = by_arrow line words (at_arrow words)

-- the entries of a line; a blank one has none
abbrev pub line_entries : ℕ → List ℕ → List Entry
line_entries line words = if nat_eq (length (trim words)) 0 then [] else sides_entries line words

-- the entries of a line, if so many come before it
abbrev pub place_entries : ℕ → List ℕ → List Entry
place_entries place words = line_entries (place + 1) words

-- the entries of a scenario
abbrev pub scenario_entries : List ℕ → List Entry
scenario_entries scenario = numbered place_entries 0 (lines scenario)
