use Rattle.std.proofs.Common.{◌≡◌, drop}
use Rattle.wh_table_text.specs.Counters.{named_from}
use Rattle.wh_table_text.proofs.counters.counter_named.Given as goal

-- no counter passed so far has the name
abbrev pub invariant-loop-index : goal.invariant-loop-index
invariant-loop-index l = named_from l.index (drop l.index l.names) l.word ≡ named_from 0 l.names l.word
