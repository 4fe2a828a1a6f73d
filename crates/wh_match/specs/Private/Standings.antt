-- How a thing stands at a cut, and what a value of the code's type `Act` stands for.
use Rattle.std.specs.Prelude.{ℕ, Bool, true, false, List, Option, Some, None}
use Rattle.wh_events.specs.declared.event.Event.{Event}
use Rattle.wh_events.specs.declared.place.Status.{Status}
use Rattle.wh_events.specs.declared.place.Status.TheVariants.{Open, Started, Cancelling as CancellingStatus, Closed}
use Rattle.wh_events.specs.declared.place.Thing.{Thing}
use Rattle.wh_events.specs.Cuts.{is_outside}
use Rattle.wh_events.specs.Machines.{open_named, last_named}
use Rattle.wh_machines.specs.Lookups.{thing_of}
use Rattle.wh_workflow.specs.Scripts.{ActivationContext, Act, open_at, cancels_open, closer_of, has_outside}
use Rattle.wh_workflow.specs.Scripts.Act.{Opening, Cancelling, Closing, Asking, Other as OtherAct}
use Rattle.wh_match.specs.declared.act.Act.{Act as CodeAct}
use Rattle.wh_match.specs.declared.act.Act.TheVariants.{Opens, Cancels, Closes, Asks, Other}
use Rattle.wh_match.specs.declared.standing.Standing.{Standing}

-- what a value of the code's type stands for
abbrev pub act_seen : CodeAct → Act
act_seen (Opens kind id) = Opening (thing_of kind) id.now
act_seen (Cancels kind id) = Cancelling (thing_of kind) id.now
act_seen Closes = Closing
act_seen (Asks change_id min max) = Asking change_id.now min max
act_seen Other = OtherAct

-- how the things of a kind under an id stand at a cut
abbrev pub standing_of : ActivationContext → Thing → List ℕ → Standing
standing_of context thing id = record {
  is_open = open_at context thing id;
  is_cancelling = cancels_open context (open_named context.seen thing id);
  is_ended = has_outside (closer_of context.seen (last_named context.seen thing id)) context.between;
}

-- how they stand, by the status of the last of them at the cut
abbrev pub standing_by : List Event → Status → Standing
standing_by between (Closed by) =
    record { is_open = false; is_cancelling = false; is_ended = has_outside (Some by) between }
standing_by between CancellingStatus = record { is_open = true; is_cancelling = true; is_ended = false }
standing_by between Open = record { is_open = true; is_cancelling = false; is_ended = false }
standing_by between Started = record { is_open = true; is_cancelling = false; is_ended = false }

-- there is an event, and the workflow did not cause it itself
abbrev pub is_outside_in : Option Event → Bool
is_outside_in None = false
is_outside_in (Some event) = is_outside event
