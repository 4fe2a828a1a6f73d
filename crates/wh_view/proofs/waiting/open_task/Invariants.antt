use Rattle.std.proofs.Common.{◌≡◌, drop}
use Rattle.wh_view.specs.Waiting.{open_from, open_task}
use Rattle.wh_view.proofs.waiting.open_task.Given as goal

-- the task that is open after the rest, after those so far, is the one after all
abbrev pub invariant-loop-index : goal.invariant-loop-index
invariant-loop-index l = open_from l.index (drop l.index l.events) l.current ≡ open_task l.events
