use Rattle.std.proofs.Common.{◌≡◌, ◌++◌, drop}
use Rattle.wh_run_page.specs.Choices.{weight, heaviest}
use Rattle.wh_run_page.proofs.choosing.heaviest.Given as goal

-- the things so far and those of the rest are all
abbrev pub invariant-loop-thing : goal.invariant-loop-thing
invariant-loop-thing l =
    l.own.items ++ heaviest (weight l.view l.times l.fault) l.least l.room (drop l.thing-index l.things)
    ≡ heaviest (weight l.view l.times l.fault) l.least l.fn.room l.things
