use Rattle.std.proofs.Common.{◌≡◌, take}
use Rattle.std.specs.Prelude.{map}
use Rattle.std.specs.List.{flat_map}
use Rattle.serde_json.specs.View.{view}
use Rattle.wh_phrases.specs.Gathered.{task_values}
use Rattle.wh_phrases.proofs.gathering.values_in.Given as goal

-- the values of the tasks so far were added
abbrev pub invariant-loop-task : goal.invariant-loop-task
invariant-loop-task l = l.values.items ≡ flat_map (task_values (map view l.members)) (take l.task-index l.tasks)
