-- The things of a history, and the events that opened, started, canceled and ended each.
use Rattle.std.specs.Prelude.{ℕ, ◌+◌, ◌==◌, List, [], ◌∷◌, ◌++◌, length, slice_get, slice_set, Bool, false, Option, Some, None, option_and_then, if◌then◌else◌}
use Rattle.wh_events.specs.declared.kind.Effect.{Effect}
use Rattle.wh_events.specs.declared.kind.Effect.TheVariants.{Starts, Cancels, Closes}
use Rattle.wh_events.specs.Machines.{or_else}
use Rattle.wh_view.specs.declared.view.ThingKind.{ThingKind}
use Rattle.wh_view.specs.declared.view.ViewedEvent.{ViewedEvent}
use Rattle.wh_view.specs.declared.view.ViewedThing.{ViewedThing}
use Rattle.wh_view.specs.declared.parts.Part.{Part}
use Rattle.wh_view.specs.declared.parts.Part.TheVariants.{Opens, Happens, Refers, Other}
use Rattle.wh_view.specs.Parts.{part_of, same_kind}

-- a thing that the event at the index has just opened
abbrev pub opened_thing : ThingKind → Option ℕ → ℕ → ViewedThing
opened_thing kind number at =
    record { kind = kind; number = number; opened = at; started = None; cancelling = None; ended = None }

-- a thing that the event at the index both opens and ends
abbrev pub lone_thing : ThingKind → Option ℕ → ℕ → ViewedThing
lone_thing kind number at = record (opened_thing kind number at) { ended = Some at }

-- the thing as it is after the event at the index referred to it; only the first event of each effect is kept
abbrev pub with_effect : Effect → ℕ → ViewedThing → ViewedThing
with_effect Starts at thing = record thing { started = or_else thing.started (Some at) }
with_effect Cancels at thing = record thing { cancelling = or_else thing.cancelling (Some at) }
with_effect Closes at thing = record thing { ended = or_else thing.ended (Some at) }

-- there is a number, and it is that one
abbrev pub is_number : ℕ → Option ℕ → Bool
is_number number None = false
is_number number (Some other) = other == number

-- the index of the last of the things that an event of the number opened; indices count up from the first
unfoldable pub last_from : ℕ → ℕ → List ViewedThing → Option ℕ
last_from number first [] = None
last_from number first (thing ∷ things) =
    or_else (last_from number (first + 1) things) (if is_number number thing.number then Some first else None)

-- the thing is of the kind
abbrev pub is_of_kind : ThingKind → Option ViewedThing → Bool
is_of_kind kind None = false
is_of_kind kind (Some thing) = same_kind kind thing.kind

-- the index, if the thing at it is of the kind
abbrev pub if_of_kind : ThingKind → List ViewedThing → ℕ → Option ℕ
if_of_kind kind things index = if is_of_kind kind (slice_get things index) then Some index else None

-- the thing to which a reference points: the last one that an event of the number opened, if it is of the kind
abbrev pub found : ThingKind → ℕ → List ViewedThing → Option ℕ
found kind number things = option_and_then (if_of_kind kind things) (last_from number 0 things)

-- the things that the first events of a history opened, and for each of these events the index of its thing
pub record Gathered : Type 0 where
  pub things : List ViewedThing
  pub links : List (Option ℕ)

-- one more thing, and the event that opened it
abbrev pub with_thing : ViewedThing → Gathered → Gathered
with_thing thing g = record {
  things = g.things ++ thing ∷ [];
  links = g.links ++ Some (length g.things) ∷ [];
}

-- the things, with the effect of an event on the one at the index
abbrev pub changed_at : Effect → ℕ → ℕ → List ViewedThing → Option ViewedThing → List ViewedThing
changed_at effect at index things None = things
changed_at effect at index things (Some thing) = slice_set things index (with_effect effect at thing)

-- one more event that refers to the thing at the index, or to none
abbrev pub with_reference : Effect → ℕ → Option ℕ → Gathered → Gathered
with_reference effect at None g = record g { links = g.links ++ None ∷ [] }
with_reference effect at (Some index) g = record {
  things = changed_at effect at index g.things (slice_get g.things index);
  links = g.links ++ Some index ∷ [];
}

-- one more event at an index, with its number and its part
abbrev pub with_part : ℕ → Option ℕ → Part → Gathered → Gathered
with_part at number (Opens kind) g = with_thing (opened_thing kind number at) g
with_part at number (Happens kind) g = with_thing (lone_thing kind number at) g
with_part at number (Refers kind target effect) g = with_reference effect at (found kind target g.things) g
with_part at number Other g = record g { links = g.links ++ None ∷ [] }

-- one more event at an index
abbrev pub with_event : ℕ → ViewedEvent → Gathered → Gathered
with_event at event g = with_part at event.read.number (part_of event.read.kind) g

-- no event was gathered yet
abbrev pub nothing_gathered : Gathered
nothing_gathered = record { things = []; links = [] }

-- what was gathered, with more events, the first of them at the index
unfoldable pub gathered_from : ℕ → List ViewedEvent → Gathered → Gathered
gathered_from at [] g = g
gathered_from at (event ∷ events) g = gathered_from (at + 1) events (with_event at event g)

-- the things of all events
abbrev pub gathered : List ViewedEvent → Gathered
gathered events = gathered_from 0 events nothing_gathered
