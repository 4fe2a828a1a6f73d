use Rattle.std.proofs.Common.{◌≡◌, take, map}
use Rattle.wh_run_page.specs.Rows.{first_of}
use Rattle.wh_run_page.proofs.rows.firsts_of.Given as goal

-- the first ones of the rows of the things so far
abbrev pub invariant-loop-thing : goal.invariant-loop-thing
invariant-loop-thing l = l.firsts.items ≡ map (first_of l.view l.all) (take l.thing-index l.all)
