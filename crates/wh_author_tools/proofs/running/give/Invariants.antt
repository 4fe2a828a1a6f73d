use Rattle.std.proofs.Common.{◌≡◌, ◌++◌, drop}
use Rattle.wh_author_tools.specs.Scenarios.{given_to, left_by}
use Rattle.wh_author_tools.proofs.running.give.Given as goal

-- the commands so far and those of the rest are those of all, and the rest leaves what all do
abbrev pub invariant-loop-job : goal.invariant-loop-job
invariant-loop-job g l =
    (l.given.items ++ given_to g.W.Workflow.program l.state (drop l.job-index l.jobs)
    ≡ given_to g.W.Workflow.program l.initial.state l.jobs)
    × (left_by g.W.Workflow.program l.state (drop l.job-index l.jobs)
    ≡ left_by g.W.Workflow.program l.initial.state l.jobs)
