use Rattle.std.proofs.Common.{◌≡◌, ◌++◌, drop}
use Rattle.wh_table_text.specs.Numbered.{numbered}
use Rattle.wh_table_check.specs.Counters.{repeated}
use Rattle.wh_table_check.proofs.counters.add_all_repeated.Given as goal

-- the warnings so far and those of the phrases that are left are all
abbrev pub invariant-loop-place : goal.invariant-loop-place
invariant-loop-place l =
    l.found.items ++ numbered (repeated l.phrases) l.place (drop l.place l.phrases)
    ≡ l.initial.found.items ++ numbered (repeated l.phrases) 0 l.phrases
