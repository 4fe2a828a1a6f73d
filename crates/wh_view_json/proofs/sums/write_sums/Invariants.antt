use Rattle.std.proofs.Common.{take}
use Rattle.std.specs.List.{flat_map}
use Rattle.std.specs.Io.KnownBytes.{Appends}
use Rattle.wh_view_json.specs.Sums.{type_object}
use Rattle.wh_view_json.proofs.sums.write_sums.Given as goal

-- the types so far have been written
abbrev pub invariant-loop-sum : goal.invariant-loop-sum
invariant-loop-sum g l =
    Appends (g.O.Write.contents l.initial.writer) (g.O.Write.contents l.writer) (flat_map (type_object l.view) (take l.sum-index l.view.sums))
