use Rattle.std.proofs.Common.{◌≡◌, ◌-◌}
use Rattle.wh_rows.specs.Rules.{hears_each}
use Rattle.wh_row_rules.proofs.versions.hears_places.Given as goal

-- each version passed so far is heard
abbrev pub invariant-loop-place : goal.invariant-loop-place
invariant-loop-place l =
    hears_each l.change (l.end - l.place) l.place l.name l.rows ≡ hears_each l.change (l.end - l.from) l.from l.name l.rows
