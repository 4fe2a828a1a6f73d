use Rattle.std.proofs.Common.{take}
use Rattle.std.specs.List.{flat_map}
use Rattle.std.specs.Io.KnownBytes.{Appends}
use Rattle.wh_view_json.specs.Objects.{within_object}
use Rattle.wh_view_json.proofs.objects.write_events.Given as goal

-- the objects so far have been written
abbrev pub invariant-loop-event : goal.invariant-loop-event
invariant-loop-event g l =
    Appends (g.O.Write.contents l.initial.writer) (g.O.Write.contents l.writer) (flat_map (within_object l.view l.span) (take l.event-index l.view.events))
