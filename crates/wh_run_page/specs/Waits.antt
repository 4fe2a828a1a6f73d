-- What an open run waits for, as its page says it.
use Rattle.std.specs.Prelude.{ℕ, ◌-◌, ◌==◌, is_some, if◌then◌else◌, Option, Some, None, List, [], ◌∷◌, ◌++◌, codes, decimal, map, take, length}
use Rattle.std.specs.List.{flat_map}
use Rattle.wh_view.specs.Runs.{status_of}
use Rattle.wh_view.specs.Waiting.{open_task}
use Rattle.wh_view.specs.declared.view.OpenTask.{OpenTask}
use Rattle.wh_view.specs.declared.view.RunStatus.{RunStatus}
use Rattle.wh_view.specs.declared.view.RunStatus.TheVariants.{Running}
use Rattle.wh_view.specs.declared.view.View.{View}
use Rattle.wh_view.specs.declared.view.ViewedEvent.{ViewedEvent}
use Rattle.wh_view.specs.declared.view.ViewedThing.{ViewedThing}
use Rattle.wh_view_report.specs.Waits.{awaited_thing, awaited_task}
use Rattle.wh_run_page.specs.Moments.{event_at}

-- the things that have not ended
abbrev pub open_if : ViewedThing → List ViewedThing
open_if thing = if is_some thing.ended then [] else thing ∷ []

abbrev pub open_things : List ViewedThing → List ViewedThing
open_things things = flat_map open_if things

-- a thing for which a run waits, in the words of the report; nothing if no event opened it
abbrev pub thing_by : View → ViewedThing → Option ViewedEvent → List ℕ
thing_by view thing None = []
thing_by view thing (Some event) = awaited_thing view thing event

abbrev pub thing_words : View → ViewedThing → List ℕ
thing_words view thing = thing_by view thing (event_at view.events (Some thing.opened))

-- how many more things there are, if there are more
abbrev pub more : ℕ → List (List ℕ)
more left = if left == 0 then [] else (decimal left ++ codes " more") ∷ []

-- the workflow task for which a run waits, in the words of the report, if there is one
abbrev pub task_by : View → OpenTask → Option ViewedEvent → List (List ℕ)
task_by view task None = []
task_by view task (Some event) = awaited_task view task event ∷ []

abbrev pub task_words : View → Option OpenTask → List (List ℕ)
task_words view None = []
task_words view (Some task) = task_by view task (event_at view.events (Some task.scheduled))

-- what a run waits for, or that nothing is open of what it may wait for
abbrev pub or_nothing : List (List ℕ) → List (List ℕ)
or_nothing [] = codes "no activity, timer, child workflow, request or workflow task is open" ∷ []
or_nothing (wait ∷ waits) = wait ∷ waits

-- what a run that is open waits for: the first 40 things that have not ended, how many more there are, and the workflow
-- task
unfoldable pub open_waits : View → List (List ℕ)
open_waits view =
    let open_ones = open_things view.things in
    or_nothing ((map (thing_words view) (take 40 open_ones) ++ more (length open_ones - 40))
    ++ task_words view (open_task view.events))

-- what a run of the status waits for
abbrev pub waits_by : RunStatus → View → List (List ℕ)
waits_by Running view = open_waits view
waits_by _ view = []

abbrev pub waits_of : View → List (List ℕ)
waits_of view = waits_by (status_of view.events) view
