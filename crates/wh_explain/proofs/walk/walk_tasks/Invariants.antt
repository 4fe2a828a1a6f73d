use Rattle.std.proofs.Common.{◌≡◌, ◌+◌, ◌-◌, ◌≤◌, ◌||◌, length, drop}
use Rattle.wh_events.specs.Cuts.{cuts}
use Rattle.wh_replay.specs.Outcomes.{ends_live}
use Rattle.wh_explain.proofs.Walked.{AreDone, HasReached}
use Rattle.wh_explain.proofs.walk.walk_tasks.Given as goal

-- the tasks so far have no fault, the replay leaves the same of them, and what is left to count is counted
abbrev pub invariant-loop-cut : goal.invariant-loop-cut
invariant-loop-cut g l =
    let program = g.W.Workflow.program in
    record {
      low : l.last ≤ length l.track;
      few : l.count ≤ l.last;
      counted : l.count + length (cuts (drop l.last l.track)) ≡ length (cuts l.track);
      lives : (l.live || ends_live (drop l.last l.track)) ≡ ends_live l.track;
      tasks : AreDone program l.track l.fn.left.state l.fn.left.versions l.detail l.tasks.items l.last l.left.state l.left.versions;
      replay : HasReached program l.track l.fn.left.state l.fn.left.versions l.last l.left.state l.left.versions;
    }

abbrev pub decreases-loop-cut : goal.decreases-loop-cut
decreases-loop-cut g l = length l.track - l.last
