use Rattle.std.proofs.Common.{◌≡◌, ◌++◌}
use Rattle.wh_sample_workflows.specs.Flood.{timers, counted}
use Rattle.wh_sample_workflows.proofs.flood.start_timers.Given as goal

-- so many timers were started, and the number counted on
abbrev pub invariant-loop : goal.invariant-loop
invariant-loop l = (l.out.items ≡ l.initial.out.items ++ timers l.counter l.initial.state.next) × (l.state.next ≡ counted l.counter l.initial.state.next)
