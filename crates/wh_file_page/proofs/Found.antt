-- What is said of a file whose history was read.
use Rattle.std.proofs.Common.{◌≡◌, ℕ, List, Result, Ok, Err}
use Rattle.std.specs.Prelude.{◌≢◌, IfOk}
use Rattle.wh_events.specs.declared.memory.OutOfMemory.{OutOfMemory}
use Rattle.wh_explain.specs.Reading.{IsExplanationIn}
use Rattle.wh_explain.specs.declared.explanation.Explanation.{Explanation}
use Rattle.wh_file_page.specs.Pages.{IsFoundIn, IsReplayed, recorded_said, said_in, status_of}
use Rattle.wh_file_page.specs.declared.said.Judged.{Judged}
use Rattle.wh_tester.specs.declared.line.Verdict.TheVariants as verdicts
use Rattle.wh_workflow.specs.Law.{Program}

module _ {S : Type 0} (program : Program S) (name bytes : List ℕ) (explanation : Explanation) where
  found_in : IsExplanationIn program bytes explanation → explanation.verdict ≢ verdicts.OutOfMemory → IsFoundIn program bytes explanation
  found_in own known = record {
    verdict = own.verdict;
    known = known;
    difference = record { tasks = explanation.tasks; explained = own.explained; last = own.difference };
  }

  -- what its replay found is said of it
  pub found_said : (judged : Result Judged OutOfMemory) → IsExplanationIn program bytes explanation
      → IfOk judged (λ own. own.said ≡ said_in name bytes explanation) → IfOk judged (λ own. own.status ≡ status_of explanation.verdict)
      → IfOk judged (λ _. explanation.verdict ≢ verdicts.OutOfMemory)
      → IfOk judged (λ own. IsReplayed program name bytes own.said own.status)
  found_said (Ok judged) own said ends known =
      record { explanation = explanation; found = found_in own known; is = said; ends = ends }
  found_said (Err full) own said ends known = tt

-- what is said of a file that is not replayed
pub recorded_alone : (name : List ℕ) (judged : Result Judged OutOfMemory)
    → IfOk judged (λ own. own.said ≡ recorded_said name) → IfOk judged (λ own. own.status ≡ 0)
    → IfOk judged (λ own. (own.said ≡ recorded_said name) × (own.status ≡ 0))
recorded_alone name (Ok judged) said ends = (said, ends)
recorded_alone name (Err full) said ends = tt
