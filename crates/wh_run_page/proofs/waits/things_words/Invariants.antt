use Rattle.std.proofs.Common.{◌≡◌, take, map}
use Rattle.wh_run_page.specs.Waits.{thing_words}
use Rattle.wh_run_page.proofs.waits.things_words.Given as goal

-- the words of the things so far
abbrev pub invariant-loop-thing : goal.invariant-loop-thing
invariant-loop-thing l = l.all.items ≡ map (thing_words l.view) (take l.thing-index l.things)
