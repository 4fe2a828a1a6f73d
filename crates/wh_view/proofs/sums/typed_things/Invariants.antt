use Rattle.std.proofs.Common.{◌≡◌, take}
use Rattle.std.specs.List.{flat_map}
use Rattle.wh_view.specs.Sums.{typed_thing}
use Rattle.wh_view.proofs.sums.typed_things.Given as goal

-- the things so far
abbrev pub invariant-loop-thing : goal.invariant-loop-thing
invariant-loop-thing l = l.things.items ≡ flat_map (typed_thing l.view) (take l.thing-index l.view.things)
