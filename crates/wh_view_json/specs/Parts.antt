-- Kinds and places, as parts of JSON.
use Rattle.std.specs.Prelude.{ℕ, List, [], ◌++◌, codes, decimal, Option, Some, None, slice_get, option_map, option_and_then}
use Rattle.wh_view.specs.declared.view.ThingKind.{ThingKind}
use Rattle.wh_view.specs.declared.view.ThingKind.TheVariants as kinds
use Rattle.wh_view.specs.declared.view.View.{View}

-- the kind of a thing, in Temporal's words
abbrev pub kind_word : ThingKind → List ℕ
kind_word kinds.Activity = codes "activity"
kind_word kinds.Timer = codes "timer"
kind_word kinds.Child = codes "childWorkflow"
kind_word kinds.CancelRequest = codes "requestCancelExternalWorkflow"
kind_word kinds.SignalRequest = codes "signalExternalWorkflow"
kind_word kinds.Signal = codes "signal"
kind_word kinds.Marker = codes "marker"

-- the place of the event at an index
abbrev pub place_at : View → Option ℕ → Option ℕ
place_at view index = option_map (λ event. event.place) (option_and_then (slice_get view.events) index)

-- the place of an event, as a further member of an object
abbrev pub place_member : List ℕ → Option ℕ → List ℕ
place_member key None = []
place_member key (Some place) = codes ",\"" ++ (key ++ (codes "\":" ++ decimal place))
