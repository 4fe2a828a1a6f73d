-- The kinds of events of a history that the reader does not support.
use Rattle.std.specs.Prelude.{ℕ, ◌+◌, ◌&&◌, List, [], ◌∷◌, ◌++◌, Bool, true, false, not, bytes_eq, Option, Some, None, slice_get, option_and_then, count_by, if◌then◌else◌}
use Rattle.std.specs.List.{list_any}
use Rattle.wh_json.specs.declared.fault.ReadFault.{ReadFault}
use Rattle.wh_json.specs.declared.fault.ReadFault.TheVariants.{UnsupportedEvent, UnsupportedMarker}
use Rattle.wh_view.specs.declared.view.ViewedEvent.{ViewedEvent}
use Rattle.wh_view.specs.declared.view.UnsupportedKind.{UnsupportedKind}

-- an event is refused because its type, or its marker's name, is not supported
abbrev pub is_unsupported : Option ReadFault → Bool
is_unsupported (Some (UnsupportedEvent at name)) = true
is_unsupported (Some (UnsupportedMarker at name)) = true
is_unsupported _ = false

-- two events are refused for the same type, or for markers of the same name
abbrev pub same_kind : Option ReadFault → Option ReadFault → Bool
same_kind (Some (UnsupportedEvent _ name)) (Some (UnsupportedEvent _ other)) = bytes_eq name other
same_kind (Some (UnsupportedMarker _ name)) (Some (UnsupportedMarker _ other)) = bytes_eq name other
same_kind _ _ = false

-- why the event at an index is refused, if it is
abbrev pub fault_at : List ViewedEvent → ℕ → Option ReadFault
fault_at events index = option_and_then (λ event. event.read.fault) (slice_get events index)

-- the first event of one of the kinds is refused for the same reason
abbrev pub is_among : List ViewedEvent → Option ReadFault → List UnsupportedKind → Bool
is_among events fault kinds = list_any (λ kind. same_kind (fault_at events kind.first) fault) kinds

-- the kind of the event at an index, with how many events are of it
abbrev pub kind_at : List ViewedEvent → Option ReadFault → ℕ → UnsupportedKind
kind_at events fault index =
    record { first = index; count = count_by (λ event. same_kind fault event.read.fault) events }

-- the kinds, with that of the event at an index, if it is a new one
abbrev pub with_kind : List ViewedEvent → Option ReadFault → ℕ → List UnsupportedKind → List UnsupportedKind
with_kind events fault index kinds =
    if is_unsupported fault && not (is_among events fault kinds)
    then kinds ++ kind_at events fault index ∷ []
    else kinds

-- the kinds, with those of the rest of the events, which stand from an index on
unfoldable pub kinds_from : List ViewedEvent → ℕ → List ViewedEvent → List UnsupportedKind → List UnsupportedKind
kinds_from events index [] kinds = kinds
kinds_from events index (event ∷ rest) kinds =
    kinds_from events (index + 1) rest (with_kind events event.read.fault index kinds)

-- the kinds of events that are not supported, in the order of their first events
abbrev pub unsupported_kinds : List ViewedEvent → List UnsupportedKind
unsupported_kinds events = kinds_from events 0 events []
