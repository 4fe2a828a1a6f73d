use Rattle.std.proofs.Common.{◌≡◌, ◌++◌, drop, map}
use Rattle.std.specs.Prelude.{string_bytes}
use Rattle.wh_stuck_check.specs.Verdicts.{move_of}
use Rattle.wh_stuck_check.specs.Scenarios.{scenario_from, scenario_text}
use Rattle.wh_stuck_check.specs.Private.Joints.{joint_text}
use Rattle.wh_stuck_check.proofs.words.scenario_text.Given as goal

-- the text so far and that of the rest are all
abbrev pub invariant-loop-one : goal.invariant-loop-one
invariant-loop-one l =
    string_bytes l.text ++ scenario_from (joint_text l.joint) (map move_of (drop l.one-index l.moves)) ≡ scenario_text (map move_of l.moves)
