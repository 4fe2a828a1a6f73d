use Rattle.std.proofs.Common.{◌≡◌, take}
use Rattle.wh_run_page.proofs.choosing.all_shown.Given as goal

-- the things so far
abbrev pub invariant-loop-thing : goal.invariant-loop-thing
invariant-loop-thing l = l.own.items ≡ take l.thing-index l.things
