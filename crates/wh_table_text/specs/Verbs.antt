-- The first words of phrases.
use Rattle.std.specs.Prelude.{ℕ, List, [], ◌∷◌, bytes_eq, codes, Option, Some, None, if◌then◌else◌}
use Rattle.wh_rows.specs.declared.row.Source.{Source}
use Rattle.wh_rows.specs.declared.row.Source.TheVariants as sources
use Rattle.wh_table_text.specs.declared.verbs.JobVerb.{JobVerb}
use Rattle.wh_table_text.specs.declared.verbs.JobVerb.TheVariants as job
use Rattle.wh_table_text.specs.declared.verbs.CommandVerb.{CommandVerb}
use Rattle.wh_table_text.specs.declared.verbs.CommandVerb.TheVariants as command

-- the meaning of a word, by a list of words with their meanings
abbrev pub meaning : {A : Type 0} → List (List ℕ × A) → List ℕ → Option A
meaning [] word = None
meaning (entry ∷ rest) word = if bytes_eq word entry.0 then Some entry.1 else meaning rest word

-- the first words of jobs that are about a child workflow or a version
abbrev pub child_verbs : List (List ℕ × JobVerb)
child_verbs =
    (codes "child-started", job.ChildStarted)
    ∷ (codes "child-done", job.ChildDone)
    ∷ (codes "child-canceled", job.ChildCanceled)
    ∷ (codes "child-failed", job.ChildFailed)
    ∷ (codes "version", job.Version)
    ∷ []

-- what the first word of a job means
unfoldable pub job_verb : List ℕ → Option JobVerb
job_verb word = meaning (
    (codes "start", job.Start)
    ∷ (codes "signal", job.Signal)
    ∷ (codes "cancel", job.Cancel)
    ∷ (codes "done", job.Done)
    ∷ (codes "failed", job.Failed)
    ∷ (codes "fired", job.Fired)
    ∷ child_verbs) word

-- the first words of commands that close the run
abbrev pub closing_verbs : List (List ℕ × CommandVerb)
closing_verbs =
    (codes "complete", command.Complete)
    ∷ (codes "fail", command.Fail)
    ∷ (codes "cancel", command.Cancel)
    ∷ (codes "continue", command.Continue)
    ∷ (codes "again", command.Again)
    ∷ []

-- the first words of commands that are about another run, ask for a version or close the run
abbrev pub run_verbs : List (List ℕ × CommandVerb)
run_verbs =
    (codes "child", command.Child)
    ∷ (codes "cancel-child", command.CancelChild)
    ∷ (codes "signal", command.Signal)
    ∷ (codes "ask", command.Ask)
    ∷ closing_verbs

-- what the first word of a command means
unfoldable pub command_verb : List ℕ → Option CommandVerb
command_verb word = meaning (
    (codes "activity", command.Activity)
    ∷ (codes "cancel-activity", command.CancelActivity)
    ∷ (codes "timer", command.Timer)
    ∷ (codes "cancel-timer", command.CancelTimer)
    ∷ run_verbs) word

-- the source of an input or a result that a word names
abbrev pub source_of : List ℕ → Option Source
source_of word = meaning (
    (codes "", sources.Nothing)
    ∷ (codes "input", sources.Input)
    ∷ (codes "brought", sources.Brought)
    ∷ (codes "kept", sources.Kept)
    ∷ []) word
