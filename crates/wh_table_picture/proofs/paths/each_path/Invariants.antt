use Rattle.std.proofs.Common.{◌≡◌, ◌+◌, ◌++◌, drop}
use Rattle.wh_table_picture.specs.Paths.{paths_from}
use Rattle.wh_table_picture.proofs.paths.each_path.Given as goal

-- those so far and those of the rest are all
abbrev pub invariant-loop-index : goal.invariant-loop-index
invariant-loop-index l =
    l.paths.items ++ paths_from (l.index + 1) (drop l.index l.list) ≡ paths_from 1 l.list
