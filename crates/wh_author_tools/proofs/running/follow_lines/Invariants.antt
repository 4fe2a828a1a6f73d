use Rattle.std.proofs.Common.{◌≡◌, ◌+◌, drop, map}
use Rattle.wh_author_tools.specs.Scenarios.{lines_fault}
use Rattle.wh_author_tools.proofs.running.follow_lines.Given as goal

-- no line so far has a fault
abbrev pub invariant-loop-place : goal.invariant-loop-place
invariant-loop-place g l =
    lines_fault g.W.Workflow.program l.kind l.state (l.place + 1) (map (λ line. line.now) (drop l.place l.lines))
    ≡ lines_fault g.W.Workflow.program l.kind l.initial.state 1 (map (λ line. line.now) l.lines)
