use Rattle.std.proofs.Common.{◌≡◌, ◌++◌, drop}
use Rattle.wh_run_page.specs.Rows.{placed_from}
use Rattle.wh_run_page.proofs.rows.placed_things.Given as goal

-- the things so far and those of the rest are all
abbrev pub invariant-loop-index : goal.invariant-loop-index
invariant-loop-index l =
    l.placed.items ++ placed_from l.view l.all l.firsts l.index (drop l.index l.all) ≡ placed_from l.view l.all l.firsts 0 l.all
