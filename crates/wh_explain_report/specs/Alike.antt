-- Which tasks are alike except for numbers and times.
use Rattle.std.specs.Prelude.{ℕ, ◌&&◌, List, Bool, true, false, bytes_eq, Option, Some, None}
use Rattle.std.specs.Cmp.Lexicographic.{pointwise}
use Rattle.wh_events.specs.Phrases.{Phrase}
use Rattle.wh_workflow.specs.declared.command.Command.{Command}
use Rattle.wh_workflow.specs.ActivationScripts.{Step}
use Rattle.wh_workflow.specs.Jobs.{job_phrase}
use Rattle.wh_workflow.specs.Names.{command_phrase}
use Rattle.wh_explained_tasks.specs.declared.Ending.{Ending}
use Rattle.wh_explained_tasks.specs.declared.Ending.TheVariants.{Recorded}
use Rattle.wh_explained_tasks.specs.declared.ExplainedTask.{ExplainedTask}
use Rattle.wh_explained_tasks.specs.declared.RecordedEvent.{RecordedEvent}
use Rattle.wh_explained_tasks.specs.declared.Pairing.{Pairing}
use Rattle.wh_explained_tasks.specs.declared.Pairing.TheVariants as pairs
use Rattle.wh_phrases.specs.Phrases.{event_phrase}
use Rattle.wh_view_report.specs.Digits.{alike_texts}

-- two optional words are both absent, or the same except for digits
abbrev pub alike_words : Option (List ℕ) → Option (List ℕ) → Bool
alike_words None None = true
alike_words (Some one) (Some other) = alike_texts one other
alike_words _ _ = false

-- two phrases have the same kind, and the same ids and types except for digits; times, seconds and versions are not
-- compared
abbrev pub alike_phrases : Phrase → Phrase → Bool
alike_phrases one other =
    bytes_eq one.kind other.kind && (alike_words one.id other.id && alike_words one.name other.name)

-- two commands are alike
abbrev pub alike_command : Command → Command → Bool
alike_command one other = alike_phrases (command_phrase one) (command_phrase other)

-- two recorded events are alike
abbrev pub alike_event : RecordedEvent → RecordedEvent → Bool
alike_event one other = alike_phrases (event_phrase one) (event_phrase other)

-- two steps have alike jobs and alike commands
abbrev pub alike_step : Step → Step → Bool
alike_step one other =
    alike_phrases (job_phrase one.job) (job_phrase other.job) && pointwise alike_command one.commands other.commands

-- two pairings have no difference between command and event, and have alike commands and events
abbrev pub alike_pairing : Pairing → Pairing → Bool
alike_pairing (pairs.Alike command event) (pairs.Alike other second) =
    alike_command command other && alike_event event second
alike_pairing _ _ = false

-- two tasks are recorded, with alike pairings
abbrev pub alike_endings : Ending → Ending → Bool
alike_endings (Recorded one) (Recorded other) = pointwise alike_pairing one other
alike_endings _ _ = false

-- two tasks have alike steps and end alike
unfoldable pub alike_tasks : ExplainedTask → ExplainedTask → Bool
alike_tasks one other = pointwise alike_step one.steps other.steps && alike_endings one.ending other.ending
