-- What a scenario means, and where a workflow first differs from it.
use Rattle.std.specs.Prelude.{◌≡◌, ◌↔◌, ℕ, suc, true, false, List, [], ◌∷◌, ◌++◌, length, take, drop, Option, Some, None, option_to_list, bytes_eq, codes, nat_eq, if◌then◌else◌}
use Rattle.std.specs.List.{slice_split}
use Rattle.std.specs.Str.{trim}
use Rattle.std.specs.Str.Lines.{lines}
use Rattle.wh_workflow.specs.declared.command.Command.{Command}
use Rattle.wh_workflow.specs.declared.job.Job.{Job}
use Rattle.wh_workflow.specs.Law.{Program}
use Rattle.wh_author_tools.specs.declared.fault.ScenarioFault.{ScenarioFault}
use Rattle.wh_author_tools.specs.declared.fault.ScenarioFault.TheVariants.{UnknownWorkflow, NoArrow, NoJob, Differs, OutOfMemory}
use Rattle.wh_author_tools.specs.JobTexts.{job_of}
use Rattle.wh_author_tools.specs.CommandTexts.{commands_text}

-- two parts, the first of them after this byte
abbrev pub onto_before : ℕ → Option (List ℕ × List ℕ) → Option (List ℕ × List ℕ)
onto_before byte None = None
onto_before byte (Some parts) = Some (byte ∷ parts.0, parts.1)

-- the text before the first arrow of a line, and the text after it
abbrev pub at_arrow : List ℕ → Option (List ℕ × List ℕ)
at_arrow [] = None
at_arrow (byte ∷ rest) =
    if bytes_eq (take 2 (byte ∷ rest)) (codes "=>") then Some ([], drop 1 rest) else onto_before byte (at_arrow rest)

-- the parts between semicolons
abbrev pub parts_of : List ℕ → List (List ℕ)
parts_of words = slice_split (λ byte. nat_eq byte 59) words

-- the jobs of those parts that are jobs
abbrev pub jobs_of : List ℕ → List (List ℕ) → List Job
jobs_of kind [] = []
jobs_of kind (part ∷ rest) = option_to_list (job_of kind (trim part)) ++ jobs_of kind rest

-- the words if they are not a job, and else the later result
abbrev pub unless_job : Option Job → List ℕ → Option (List ℕ) → Option (List ℕ)
unless_job None words later = Some words
unless_job (Some job) words later = later

-- the first part that is not a job
abbrev pub no_job_in : List ℕ → List (List ℕ) → Option (List ℕ)
no_job_in kind [] = None
no_job_in kind (part ∷ rest) = unless_job (job_of kind (trim part)) (trim part) (no_job_in kind rest)

module _ {S : Type 0} where
  -- the commands that a run gives to these jobs, one after another
  abbrev pub given_to : Program S → S → List Job → List Command
  given_to program state [] = []
  given_to program state (job ∷ later) = program.gives state job ++ given_to program (program.after state job) later

  -- the state after these jobs
  abbrev pub left_by : Program S → S → List Job → S
  left_by program state [] = state
  left_by program state (job ∷ later) = left_by program (program.after state job) later

-- a difference if the commands are not those that the line expects
abbrev pub difference : ℕ → List ℕ → List ℕ → Option ScenarioFault
difference number given wanted = if bytes_eq given wanted then None else Some (Differs number given wanted)

-- the fault of a part that is not a job, and else the difference
abbrev pub or_difference : ℕ → Option (List ℕ) → Option ScenarioFault → Option ScenarioFault
or_difference number None differs = differs
or_difference number (Some words) differs = Some (NoJob number words)

-- the jobs before the arrow of a line
abbrev pub line_jobs : List ℕ → Option (List ℕ × List ℕ) → List Job
line_jobs kind None = []
line_jobs kind (Some sides) = jobs_of kind (parts_of sides.0)

module _ {S : Type 0} where
  -- the fault of a line of this number with these two sides, for a run in this state
  abbrev pub sides_fault : Program S → List ℕ → S → ℕ → Option (List ℕ × List ℕ) → Option ScenarioFault
  sides_fault program kind state number None = Some (NoArrow number)
  sides_fault program kind state number (Some sides) =
      or_difference number (no_job_in kind (parts_of sides.0))
      (difference number (commands_text (given_to program state (jobs_of kind (parts_of sides.0)))) (trim sides.1))

module _ {S : Type 0} where
  -- the fault of a line of this number, for a run in this state; a blank line has none
  abbrev pub line_fault : Program S → List ℕ → S → ℕ → List ℕ → Option ScenarioFault
  line_fault program kind state number line =
      if nat_eq (length (trim line)) 0 then None else sides_fault program kind state number (at_arrow line)

  -- the state after the jobs of a line
  abbrev pub after_line : Program S → List ℕ → S → List ℕ → S
  after_line program kind state line =
      if nat_eq (length (trim line)) 0 then state else left_by program state (line_jobs kind (at_arrow line))

-- the first of two faults
abbrev pub or_fault : Option ScenarioFault → Option ScenarioFault → Option ScenarioFault
or_fault None later = later
or_fault (Some fault) later = Some fault

module _ {S : Type 0} where
  -- the first fault of these lines, where the first line has this number
  abbrev pub lines_fault : Program S → List ℕ → S → ℕ → List (List ℕ) → Option ScenarioFault
  lines_fault program kind state number [] = None
  lines_fault program kind state number (line ∷ later) =
      or_fault (line_fault program kind state number line)
      (lines_fault program kind (after_line program kind state line) (suc number) later)

module _ {S : Type 0} where
  -- the first fault of a scenario, for a run of the workflow type
  abbrev pub scenario_fault : Program S → List ℕ → List ℕ → Option ScenarioFault
  scenario_fault program kind scenario =
      if program.knows kind
      then lines_fault program kind (program.initial kind) 1 (lines scenario)
      else Some UnknownWorkflow

-- the fault is the expected one, or memory ran out
abbrev pub Tells : ScenarioFault → Option ScenarioFault → Type 0
Tells OutOfMemory wanted = Unit {0}
Tells fault wanted = wanted ≡ Some fault

module _ {S : Type 0} where
  -- the state after these lines
  abbrev pub after_lines : Program S → List ℕ → S → List (List ℕ) → S
  after_lines program kind state [] = state
  after_lines program kind state (line ∷ later) = after_lines program kind (after_line program kind state line) later

-- the line has an arrow, and a run in this state gives to the jobs before it the commands after it
pub record IsAnswered {S : Type 0} (program : Program S) (kind : List ℕ) (state : S) (line : List ℕ) : Type 0 where
  pub jobs : List ℕ
  pub wanted : List ℕ
  pub arrow : at_arrow line ≡ Some (jobs, wanted)
  pub known : no_job_in kind (parts_of jobs) ≡ None
  pub given : commands_text (given_to program state (jobs_of kind (parts_of jobs))) ≡ trim wanted

module _ {S : Type 0} where
  -- each line that is not blank is answered, in the state after the lines before it
  abbrev pub EachAnswered : Program S → List ℕ → S → List (List ℕ) → Type 0
  EachAnswered program kind state list =
      (before : List (List ℕ)) (line : List ℕ) (behind : List (List ℕ)) → list ≡ before ++ line ∷ behind
      → nat_eq (length (trim line)) 0 ≡ false → IsAnswered program kind (after_lines program kind state before) line

module _ {S : Type 0} where
  -- a scenario has no fault exactly if the workflow type is registered and each line is answered
  abbrev pub FollowsEachLine : Program S → Type 0
  FollowsEachLine program =
      (kind scenario : List ℕ)
      → (scenario_fault program kind scenario ≡ None)
      ↔ ((program.knows kind ≡ true) × EachAnswered program kind (program.initial kind) (lines scenario))
