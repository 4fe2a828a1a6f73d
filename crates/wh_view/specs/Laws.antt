-- What holds of the view of a history that the reader accepts.
use Rattle.std.specs.Prelude.{◌≡◌, ℕ, List, map, Some, None, Ok}
use Rattle.wh_events.specs.declared.event.Event.{Event}
use Rattle.wh_json.specs.Events.{history}
use Rattle.wh_view.specs.declared.view.View.{View}
use Rattle.wh_view.specs.Views.{IsViewIn}

-- the events of the view have the bodies of the history's, one by one
abbrev pub BodiesAreViewed : Type 0
BodiesAreViewed = (bytes : List ℕ) (events : List Event) (view : View) → history bytes ≡ Ok events → IsViewIn bytes view
    → map (λ viewed. viewed.read.kind) view.events ≡ map (λ event. Some event.body) events

-- no event of the view has a fault
abbrev pub NoneHasAFault : Type 0
NoneHasAFault = (bytes : List ℕ) (events : List Event) (view : View) → history bytes ≡ Ok events → IsViewIn bytes view
    → map (λ viewed. viewed.read.fault) view.events ≡ map (λ event. None) events
