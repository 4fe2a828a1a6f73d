use Rattle.std.proofs.Common.{◌≡◌, ◌++◌, map, drop}
use Rattle.wh_table_text.specs.Numbered.{numbered}
use Rattle.wh_table_trial.specs.Entries.{place_entries}
use Rattle.wh_table_trial.proofs.entries.lines_entries.Given as goal

-- what the lines so far say, and those that are left, is all
abbrev pub invariant-loop-place : goal.invariant-loop-place
invariant-loop-place l =
    l.entries.items ++ numbered place_entries l.place (map (λ line. line.now) (drop l.place l.lines))
    ≡ numbered place_entries 0 (map (λ line. line.now) l.lines)
