-- How far a walk back over the things of one kind and id has come.
use Rattle.std.specs.Prelude.{◌≡◌, ℕ, List, take, Option}
use Rattle.wh_events.specs.declared.event.Event.{Event}
use Rattle.wh_events.specs.declared.place.Thing.{Thing}
use Rattle.wh_events.specs.Machines.{last_named}

-- the last such thing among some first events, which have all those up to the place
pub record IsLastWithin (events : List Event) (thing : Thing) (id : List ℕ) (place : ℕ) (last : Option ℕ) : Type 0 where
  pub count : ℕ
  pub reaches : take place (take count events) ≡ take place events
  pub is : last ≡ last_named (take count events) thing id
