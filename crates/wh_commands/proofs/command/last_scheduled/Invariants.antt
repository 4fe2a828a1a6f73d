use Rattle.std.proofs.Common.{◌≡◌, drop}
use Rattle.wh_events.specs.declared.place.Thing.TheVariants.{Activity}
use Rattle.wh_events.specs.Machines.{last_named, or_else}
use Rattle.wh_commands.proofs.command.last_scheduled.Given as goal

-- the last among the rest, or else the one found so far, is the last of all
abbrev pub invariant-loop-event : goal.invariant-loop-event
invariant-loop-event l =
    or_else (last_named (drop l.event-index l.events) Activity l.id) l.found ≡ last_named l.events Activity l.id
