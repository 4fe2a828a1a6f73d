-- The values of a file that differ from what it records.
use Rattle.std.specs.Prelude.{◌≡◌, ℕ, Bool, true, false, List, [], Option, Some, None, Result, Ok, Err}
use Rattle.serde_json.specs.Data.{Data}
use Rattle.wh_json.specs.declared.fault.ReadFault.{ReadFault}
use Rattle.wh_json.specs.Events.{document_within, events_in, history}
use Rattle.wh_workflow.specs.Law.{Program}
use Rattle.wh_tester.specs.Report.{is_good}
use Rattle.wh_tester.specs.declared.line.Verdict.{Verdict}
use Rattle.wh_explained_tasks.specs.declared.ExplainedTask.{ExplainedTask}
use Rattle.wh_explain.specs.Explaining.{AreTasksIn}
use Rattle.wh_phrases.specs.declared.comparing.OtherValue.{OtherValue}
use Rattle.wh_phrases.specs.Gathered.{values_in}

-- the members of a document, if there are any
abbrev pub members_or_none : Option (List Data) → List Data
members_or_none None = []
members_or_none (Some members) = members

abbrev pub members_of : Result Data ReadFault → List Data
members_of (Ok d) = members_or_none (events_in d)
members_of (Err fault) = []

-- the values of tasks that differ, if the replay is good
abbrev pub values_if : (good : Bool) → List Data → List ExplainedTask → List OtherValue
values_if true members tasks = values_in members tasks
values_if false members tasks = []

-- the values of a file with this verdict that differ: those of its tasks if its replay is good, and else none
pub record AreOtherValues {S : Type 0} (program : Program S) (bytes : List ℕ) (verdict : Verdict)
    (values : List OtherValue) : Type 0 where
  pub tasks : List ExplainedTask
  pub explained : AreTasksIn program (history bytes) tasks
  pub are : values ≡ values_if (is_good verdict) (members_of (document_within bytes)) tasks
