-- What stands between the jobs of a scenario.
use Rattle.std.specs.Prelude.{◌≡◌, ℕ, List, [], ◌∷◌, ◌++◌, codes}
use Rattle.wh_possible_runs.specs.PossibleRuns.{Move}
use Rattle.wh_stuck_check.specs.declared.words.Joint.{Joint}
use Rattle.wh_stuck_check.specs.declared.words.Joint.TheVariants as joints
use Rattle.wh_stuck_check.specs.Scenarios.{scenario_from}

-- its text
abbrev pub joint_text : Joint → List ℕ
joint_text joints.Nothing = []
joint_text joints.Task = codes "; "
joint_text joints.Job = codes " + "

-- a text with a move, and what comes after it, is the text with the move and what comes after it
abbrev pub AddsMove : List ℕ → List ℕ → Move → List ℕ → List ℕ → Type 0
AddsMove before separator one behind next =
    (later : List Move) → behind ++ scenario_from next later ≡ before ++ scenario_from separator (one ∷ later)
