-- The values of all commands that differ from what their events record.
use Rattle.std.specs.Prelude.{ℕ, ◌-◌, List, [], Option, None, slice_get, option_and_then, option_to_list}
use Rattle.std.specs.List.{flat_map}
use Rattle.serde_json.specs.Data.{Data}
use Rattle.wh_json.specs.Partial.{attributes_in}
use Rattle.wh_explained_tasks.specs.declared.Ending.{Ending}
use Rattle.wh_explained_tasks.specs.declared.Ending.TheVariants.{Recorded}
use Rattle.wh_explained_tasks.specs.declared.ExplainedTask.{ExplainedTask}
use Rattle.wh_explained_tasks.specs.declared.Pairing.{Pairing}
use Rattle.wh_explained_tasks.specs.declared.Pairing.TheVariants.{Alike}
use Rattle.wh_phrases.specs.declared.comparing.OtherValue.{OtherValue}
use Rattle.wh_phrases.specs.Values.{value_of}

-- the attributes of the event of a number, where the events of the members count from 1
abbrev pub attributes_at : List Data → ℕ → Option Data
attributes_at members number = option_and_then attributes_in (slice_get members (number - 1))

-- the value that differs of a command and the event that records it, if one does; a command that differs from the
-- record has none
abbrev pub pairing_value : List Data → Pairing → Option OtherValue
pairing_value members (Alike command event) =
    value_of event.number command (attributes_at members event.number)
pairing_value members _ = None

abbrev pub pairing_values : List Data → Pairing → List OtherValue
pairing_values members pairing = option_to_list (pairing_value members pairing)

-- those of a task that is recorded
abbrev pub ending_values : List Data → Ending → List OtherValue
ending_values members (Recorded pairings) = flat_map (pairing_values members) pairings
ending_values members _ = []

abbrev pub task_values : List Data → ExplainedTask → List OtherValue
task_values members task = ending_values members task.ending

-- those of tasks
abbrev pub values_in : List Data → List ExplainedTask → List OtherValue
values_in members tasks = flat_map (task_values members) tasks
