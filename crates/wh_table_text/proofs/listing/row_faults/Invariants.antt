use Rattle.std.proofs.Common.{◌≡◌, ◌++◌, drop}
use Rattle.std.specs.Prelude.{map}
use Rattle.serde_json.specs.View.{view}
use Rattle.wh_table_text.specs.Numbered.{numbered}
use Rattle.wh_table_text.specs.Faults.{unread}
use Rattle.wh_table_text.proofs.listing.row_faults.Given as goal

-- the faults so far and those of the rows that are left are all
abbrev pub invariant-loop-place : goal.invariant-loop-place
invariant-loop-place l =
    l.faults.items ++ numbered (unread l.names) l.place (map view (drop l.place l.values))
    ≡ numbered (unread l.names) 0 (map view l.values)
