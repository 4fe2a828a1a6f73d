use Rattle.std.proofs.Common.{◌≡◌, take}
use Rattle.wh_recorded.specs.Rounds.{deliveries_of}
use Rattle.wh_recorded.proofs.script_source.ScriptSource.deliveries.Given as goal

abbrev pub invariant-loop-history : goal.invariant-loop-history
invariant-loop-history l = l.deliveries ≡ deliveries_of (take l.history-index l.self.histories)
