use Rattle.std.proofs.Common.{take}
use Rattle.std.specs.List.{flat_map}
use Rattle.std.specs.Io.KnownBytes.{Appends}
use Rattle.wh_view_json.specs.Run.{thing_object}
use Rattle.wh_view_json.proofs.run.write_things.Given as goal

-- the things so far have been written
abbrev pub invariant-loop-thing : goal.invariant-loop-thing
invariant-loop-thing g l =
    Appends (g.O.Write.contents l.initial.writer) (g.O.Write.contents l.writer) (flat_map (thing_object l.view) (take l.thing-index l.view.things))
