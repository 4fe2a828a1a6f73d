use Rattle.std.proofs.Common.{◌≡◌, take}
use Rattle.wh_run_page.specs.Waits.{open_things}
use Rattle.wh_run_page.proofs.waits.open_things.Given as goal

-- the open things so far
abbrev pub invariant-loop-thing : goal.invariant-loop-thing
invariant-loop-thing l = l.pending.items ≡ open_things (take l.thing-index l.things)
