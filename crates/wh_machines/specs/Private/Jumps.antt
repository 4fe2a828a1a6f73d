-- The jumps back over the things of one kind and id.
use Rattle.std.specs.Prelude.{◌≡◌, ℕ, ◌-◌, ◌<◌, ◌≤◌, ◌⊎◌, List, length, Option, Some, None, if◌then◌else◌, nat_lt, slice_get}
use Rattle.wh_events.specs.declared.event.Event.{Event}
use Rattle.wh_events.specs.Kinds.{Role}
use Rattle.wh_events.specs.Machines.{role_at}
use Rattle.wh_machines.specs.declared.jumps.Jump.{Jump}

-- the number to which a jump goes, if there is one
abbrev pub target_of : Option Jump → Option ℕ
target_of None = None
target_of (Some jump) = jump.to

-- the number to which the jump of the event of the number goes
abbrev pub jump_at : List Jump → ℕ → Option ℕ
jump_at jumps number = target_of (slice_get jumps (number - 1))

-- the next thing of a walk back from a thing past the place: the one to which its jump goes, if that is past the place
-- too, else the one before it
abbrev pub back_by : ℕ → Option ℕ → Option ℕ → Option ℕ
back_by place None previous = previous
back_by place (Some to) previous = if nat_lt place to then Some to else previous

-- the number is the given one, or two jumps before it
abbrev pub IsShort : List Jump → ℕ → ℕ → Type 0
IsShort jumps from to =
    (from ≡ to) ⊎ ((middle : ℕ) × (jump_at jumps from ≡ Some middle) × (jump_at jumps middle ≡ Some to))

-- the event of the number is one of the events and has the role
abbrev pub IsAlike : List Event → Role → ℕ → Type 0
IsAlike events role number = (0 < number) × (number ≤ length events) × (role_at events number ≡ role)

-- each event has a jump, which goes to an earlier event with the same role
pub record JumpsBack (events : List Event) (jumps : List Jump) : Type 0 where
  pub even : length jumps ≡ length events
  pub alike : (number to : ℕ) → 0 < number → jump_at jumps number ≡ Some to → (to < number)
      × IsAlike events (role_at events number) to
