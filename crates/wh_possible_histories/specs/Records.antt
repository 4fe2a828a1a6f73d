-- A task begins with what the commands of the task before made of the things, as the record of that task has them.
use Rattle.std.specs.Prelude.{◌≡◌, Bool, true, ◌&&◌, List, [], ◌∷◌, ◌++◌, Option, Some, None, IsTrue}
use Rattle.wh_events.specs.declared.event.Event.{Event}
use Rattle.wh_events.specs.Cuts.{is_task_started, commanded}
use Rattle.wh_events.specs.Places.{is_named, fault_after}
use Rattle.wh_workflow.specs.declared.command.Command.{Command}
use Rattle.wh_workflow.specs.Names.{mismatch}
use Rattle.wh_workflow.specs.Scripts.{ActivationContext, reduced}
use Rattle.wh_possible_runs.specs.declared.thing.ThingState.{ThingState}
use Rattle.wh_possible_runs.specs.Situations.{ThingName, next_things}
use Rattle.wh_possible_runs.specs.Rules.{AreWell, AreSo}

-- each name is that of an activity, a timer or a child
abbrev pub are_named : List ThingName → Bool
are_named [] = true
are_named (name ∷ rest) = is_named name.0 && are_named rest

-- what the activation knows at the next cut, after these events
abbrev pub next_context : ActivationContext → List Event → Event → Option (List Event) → ActivationContext
next_context context since cut recorded =
    record { seen = (context.seen ++ since) ++ cut ∷ []; between = since; recorded = recorded }

-- A history is in place up to a cut. The commanded events since the cut before it are those of the commands of that
-- cut's activation, none of which opened or canceled a thing at fault. Then a server begins the next task with things
-- that are as the rules say at the cut: what the commands left, apart from what has ended since.
abbrev pub RecordsAreKept : Type 0
RecordsAreKept =
    (context : ActivationContext) (issued : List Command) (since : List Event) (cut : Event) (more : List Event)
    (recorded : Option (List Event)) (names : List ThingName) (things : List ThingState)
    → fault_after [] ((context.seen ++ since) ++ cut ∷ []) ≡ None → IsTrue (is_task_started cut)
    → AreWell context [] issued
    → mismatch ((context.seen ++ since) ++ more) (reduced context issued) (commanded since) ≡ None
    → IsTrue (are_named names) → AreSo context issued names things
    → (ended : List Bool) × (next : List ThingState) × (next_things names ended things ≡ Some next)
    × AreSo (next_context context since cut recorded) [] names next
