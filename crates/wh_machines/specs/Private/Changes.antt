-- How one more event changes what is kept of the things.
use Rattle.std.specs.Prelude.{ℕ, ◌&&◌, List, Option, Some, None, if◌then◌else◌, eqb, bytes_eq, option_map}
use Rattle.wh_events.specs.declared.place.Thing.{Thing}
use Rattle.wh_events.specs.declared.place.Thing.TheVariants.{Child}
use Rattle.wh_events.specs.declared.kind.Effect.{Effect}
use Rattle.wh_events.specs.Kinds.{Role}
use Rattle.wh_events.specs.declared.kind.Effect.TheVariants.{Starts, Cancels, Closes}
use Rattle.wh_events.specs.Kinds.Role.{Opens, Refers, CancelsChild, Plain}
use Rattle.wh_events.specs.Machines.{or_else, same_thing, is_number}
use Rattle.wh_events.specs.Places.{is_named}
use Rattle.wh_machines.specs.declared.opening.Opening.{Opening}

-- a thing that was opened just now
abbrev pub new_opening : ℕ → Option ℕ → Opening
new_opening number previous =
    record { number = number; started = None; cancelling = None; closed = None; previous = previous }

-- the thing after a reference by the event of the number; only the first event of each effect is kept
abbrev pub with_effect : Effect → ℕ → Opening → Opening
with_effect Starts by opening = record opening { started = or_else opening.started (Some by) }
with_effect Cancels by opening = record opening { cancelling = or_else opening.cancelling (Some by) }
with_effect Closes by opening = record opening { closed = or_else opening.closed (Some by) }

-- the things with this one at its number
abbrev pub with_opening : (ℕ → Option Opening) → Opening → ℕ → Option Opening
with_opening old opening number = if eqb opening.number number then Some opening else old number

-- the things, with the effect on the one of a number, if there is one
abbrev pub with_mark : (ℕ → Option Opening) → Option ℕ → Effect → ℕ → ℕ → Option Opening
with_mark old target effect by number =
    if is_number number target then option_map (with_effect effect by) (old number) else old number

-- the things after an event of the number with this role
abbrev pub things_after : Role → ℕ → (Thing → List ℕ → Option ℕ) → (ℕ → Option Opening) → ℕ → Option Opening
things_after (Opens thing id) by names old number = with_opening old (new_opening by (names thing id)) number
things_after (Refers thing target effect) by names old number = with_mark old (Some target) effect by number
things_after (CancelsChild workflow_id) by names old number =
    with_mark (with_opening old (new_opening by None)) (names Child workflow_id) Cancels by number
things_after Plain by names old number = old number

-- the last things, with the one of a kind under an id replaced, if the ids of the kind are kept
abbrev pub with_name : (Thing → List ℕ → Option ℕ) → Thing → List ℕ → ℕ → Thing → List ℕ → Option ℕ
with_name old thing id by other other_id =
    if is_named thing && (same_thing thing other && bytes_eq id other_id) then Some by else old other other_id

-- the last things after an event of the number with this role
abbrev pub names_after : Role → ℕ → (Thing → List ℕ → Option ℕ) → Thing → List ℕ → Option ℕ
names_after (Opens thing id) by old other other_id = with_name old thing id by other other_id
names_after _ by old other other_id = old other other_id
