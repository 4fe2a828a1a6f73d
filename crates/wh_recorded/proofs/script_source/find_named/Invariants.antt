use Rattle.std.proofs.Common.{◌≡◌, drop}
use Rattle.wh_recorded.specs.Rounds.{first_named}
use Rattle.wh_recorded.proofs.script_source.find_named.Given as goal

abbrev pub invariant-loop-place : goal.invariant-loop-place
invariant-loop-place l = first_named l.place l.name (drop l.place l.histories) ≡ first_named 0 l.name l.histories
