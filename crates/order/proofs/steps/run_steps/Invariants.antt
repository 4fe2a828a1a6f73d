use Rattle.std.proofs.Common.{take}
use Rattle.order.specs.Steps.{WentOn}
use Rattle.order.proofs.steps.run_steps.Given as goal

-- the activity went on after each step so far
abbrev pub invariant-loop-step : goal.invariant-loop-step
invariant-loop-step g l = WentOn g.H.Heartbeat.brings (take l.step-index l.steps)
