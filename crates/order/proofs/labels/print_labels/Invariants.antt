use Rattle.order.specs.Labels.{WentOn}
use Rattle.order.proofs.labels.print_labels.Given as goal

-- the labels so far are printed, each followed by a heartbeat after which printing went on
abbrev pub invariant-loop-printed : goal.invariant-loop-printed
invariant-loop-printed g l = WentOn g.H.Heartbeat.brings l.first l.printed l.steps.items
