-- What the replay of a file finds, and its values that differ.
use Rattle.std.specs.Prelude.{◌≡◌, ℕ, List}
use Rattle.wh_json.specs.Events.{history}
use Rattle.wh_workflow.specs.Law.{Program}
use Rattle.wh_tester.specs.Verdicts.{IsVerdict}
use Rattle.wh_explain.specs.declared.explanation.Explanation.{Explanation}
use Rattle.wh_explain.specs.Differences.{IsDifferenceIn}
use Rattle.wh_explain.specs.Explaining.{AreTasksIn}
use Rattle.wh_phrases.specs.declared.comparing.OtherValue.{OtherValue}
use Rattle.wh_report.specs.OtherValues.{AreOtherValues}

pub record IsFound {S : Type 0} (program : Program S) (bytes : List ℕ) (explanation : Explanation)
    (others : List OtherValue) : Type 0 where
  pub verdict : IsVerdict program bytes explanation.verdict
  pub difference : IsDifferenceIn program bytes explanation.difference
  pub tasks : AreTasksIn program (history bytes) explanation.tasks
  pub values : AreOtherValues program bytes explanation.verdict others
