use Rattle.std.proofs.Common.{◌≡◌, true, drop, map}
use Rattle.wh_rows.specs.Deciding.{each}
use Rattle.wh_table_promises.specs.Private.Found.{is_in}
use Rattle.wh_table_promises.specs.Private.Seen.{config_seen}
use Rattle.wh_table_promises.proofs.found.are_known.Given as goal

-- all are known if the rest is
abbrev pub invariant-loop-one : goal.invariant-loop-one
invariant-loop-one l =
    each (is_in (map config_seen l.configs)) (map config_seen (drop l.one-index l.list)) ≡ true
    → each (is_in (map config_seen l.configs)) (map config_seen l.list) ≡ true
