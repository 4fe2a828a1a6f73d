use Rattle.std.proofs.Common.{◌≡◌, map}
use Rattle.wh_recorded.specs.Rounds.{scripted}
use Rattle.wh_recorded.proofs.script_source.ScriptSource.new.Given as goal

abbrev pub invariant-loop-history : goal.invariant-loop-history
invariant-loop-history l = map scripted l.yielded ≡ l.scripted.items
