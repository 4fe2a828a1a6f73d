use Rattle.std.proofs.Common.{◌≡◌, ◌++◌, drop}
use Rattle.std.specs.Prelude.{map}
use Rattle.serde_json.specs.View.{view}
use Rattle.wh_table_text.specs.Numbered.{numbered}
use Rattle.wh_table_picture.specs.Layout.{line_at}
use Rattle.wh_table_picture.proofs.layout.lines_with.Given as goal

-- the rows so far and those that are left are all
abbrev pub invariant-loop-place : goal.invariant-loop-place
invariant-loop-place l =
    l.lines.items ++ numbered (line_at l.rows l.firsts) l.place (map view (drop l.place l.values))
    ≡ numbered (line_at l.rows l.firsts) 0 (map view l.values)
