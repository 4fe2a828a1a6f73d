-- The open calls, seen as their table.
use Rattle.std.specs.Ordering.{nat_cmp}
use Rattle.std.specs.BTreeMap.{get}
use Rattle.wh_rpc.specs.declared.open_calls.OpenCalls.{OpenCalls}
use Rattle.wh_rpc.specs.Tables.{Table, table}

abbrev pub table_of : {T : Type 0} → OpenCalls T → Table T
table_of calls = table calls.next calls.closed calls.draining (get nat_cmp calls.waiting)
