use Rattle.std.proofs.Common.{◌≡◌, ◌+◌, ◌-◌, ◌≤◌, ◌||◌, [], length, take, drop}
use Rattle.wh_events.specs.Cuts.{cuts}
use Rattle.wh_replay.specs.Replays.{replay_after}
use Rattle.wh_replay.specs.Views.{replay_result_of}
use Rattle.wh_replay.specs.Outcomes.{ends_live}
use Rattle.wh_replay.proofs.replaying.replay_since.Given as goal

-- what is left to do gives what the whole does, and what is left to find is found
abbrev pub invariant-loop-cut : goal.invariant-loop-cut
invariant-loop-cut g l =
    let program = g.W.Workflow.program in
    record {
      low : l.last ≤ length l.track;
      left : replay_after program (take l.last l.track) [] (drop l.last l.track) (replay_result_of l.replayed l.meter) ≡ replay_after program (take l.from l.track) [] (drop l.from l.track) (replay_result_of l.fn.replayed l.fn.meter);
      few : l.tasks ≤ l.last;
      counted : l.tasks + length (cuts (drop l.last l.track)) ≡ length (cuts (drop l.from l.track));
      lives : (l.live || ends_live (drop l.last l.track)) ≡ ends_live (drop l.from l.track);
      never_lowered : l.fn.meter ≤ l.meter;
    }

abbrev pub decreases-loop-cut : goal.decreases-loop-cut
decreases-loop-cut g l = length l.track - l.last
