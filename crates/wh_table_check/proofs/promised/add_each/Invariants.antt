use Rattle.std.proofs.Common.{◌≡◌, ◌++◌, drop}
use Rattle.wh_table_text.specs.Numbered.{numbered}
use Rattle.wh_table_check.specs.Promised.{promise_lacks}
use Rattle.wh_table_check.proofs.promised.add_each.Given as goal

-- the warnings so far and those of the promises that are left are all
abbrev pub invariant-loop-index : goal.invariant-loop-index
invariant-loop-index l =
    l.found.items ++ numbered (promise_lacks l.rows) l.index (drop l.index l.list)
    ≡ l.initial.found.items ++ numbered (promise_lacks l.rows) 0 l.list
