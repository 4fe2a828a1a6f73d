use Rattle.std.proofs.Common.{◌≡◌, ◌++◌, drop}
use Rattle.wh_recorded.specs.Rounds.{ends_after, ends_of}
use Rattle.wh_recorded.proofs.script_source.find_ends.Given as goal

abbrev pub invariant-loop-place : goal.invariant-loop-place
invariant-loop-place l = l.ends.items ++ ends_after l.place (drop l.place l.events) ≡ ends_of l.events
