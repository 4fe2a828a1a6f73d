use Rattle.std.proofs.Common.{take}
use Rattle.std.specs.List.{flat_map}
use Rattle.std.specs.Io.KnownBytes.{Appends}
use Rattle.wh_view_json.specs.Objects.{unsupported_object}
use Rattle.wh_view_json.proofs.objects.write_kinds.Given as goal

-- the objects so far have been written
abbrev pub invariant-loop-kind : goal.invariant-loop-kind
invariant-loop-kind g l =
    Appends (g.O.Write.contents l.initial.writer) (g.O.Write.contents l.writer) (flat_map (unsupported_object l.view) (take l.kind-index l.view.unsupported))
