-- What the tables beside the events hold.
use Rattle.std.specs.Prelude.{◌≡◌, ℕ, Bool, true, false, List, [], Option, Some, None, eqb, option_and_then}
use Rattle.std.specs.Ordering.{nat_cmp}
use Rattle.std.specs.BTreeMap as tree
use Rattle.slab.specs.Slab as slab
use Rattle.wh_events.specs.declared.event.Event.{Event}
use Rattle.wh_events.specs.declared.place.Thing.{Thing}
use Rattle.wh_events.specs.declared.place.Thing.TheVariants.{Activity, Timer, Child}
use Rattle.wh_events.specs.Places.{fault_after, is_over}
use Rattle.wh_machines.specs.declared.opening.Opening.{Opening}
use Rattle.wh_machines.specs.declared.openings.Openings.{Openings}
use Rattle.wh_machines.specs.declared.names.Names.{Names}
use Rattle.wh_machines.specs.declared.jumps.Jump.{Jump}
use Rattle.wh_machines.specs.Private.Openings.{opening_of, named_of}
use Rattle.wh_machines.specs.Private.Jumps.{JumpsBack}

-- the key under which the opening of a number is kept
abbrev pub key_of : Openings → ℕ → Option ℕ
key_of openings number = tree.get nat_cmp openings.keys number

-- the opening that is kept under a key
abbrev pub entry_at : Openings → ℕ → Option Opening
entry_at openings key = slab.get openings.entries key

-- what is kept of the thing that the event of a number opened
abbrev pub opening_in : Openings → ℕ → Option Opening
opening_in openings number = option_and_then (entry_at openings) (key_of openings number)

-- there is an opening, and it has the number
abbrev pub has_number : ℕ → Option Opening → Bool
has_number number None = false
has_number number (Some opening) = eqb number opening.number

-- the key of each number is that of an entry with this number, and each entry is found by its number
pub record IsKeyed (keys : ℕ → Option ℕ) (entries : ℕ → Option Opening) : Type 0 where
  pub keyed : (number key : ℕ) → keys number ≡ Some key → has_number number (entries key) ≡ true
  pub entered : (key : ℕ) (opening : Opening) → entries key ≡ Some opening → keys opening.number ≡ Some key

-- the map of the numbers and the entries of the openings fit each other
abbrev pub IsSound : Openings → Type 0
IsSound openings = IsKeyed (key_of openings) (entry_at openings)

-- the last thing of a kind under an id
abbrev pub named_in : Names → Thing → List ℕ → Option ℕ
named_in names Activity id = tree.get_by_text names.activities id
named_in names Timer id = tree.get_by_text names.timers id
named_in names Child id = tree.get_by_text names.children id
named_in names _ id = None

-- the events are in place, and the tables hold what the events say
pub record IsTracked (events : List Event) (over : Bool) (openings : Openings) (names : Names)
    (jumps : List Jump) : Type 0 where
  pub placed : fault_after [] events ≡ None
  pub ended : over ≡ is_over events
  pub sound : IsSound openings
  pub opened : (number : ℕ) → opening_in openings number ≡ opening_of events number
  pub named : (thing : Thing) (id : List ℕ) → named_in names thing id ≡ named_of events thing id
  pub jumping : JumpsBack events jumps
