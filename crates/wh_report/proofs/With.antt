-- What is found of a file, with its values.
use Rattle.std.proofs.Common.{◌≡◌, ◌≤◌, ℕ, true, List, length, Result, Ok, Err, sym, subst}
use Rattle.std.specs.Prelude.{IfErr, IfOk}
use Rattle.serde_json.specs.Data.{Data}
use Rattle.wh_json.specs.Events.{document_within, longest}
use Rattle.wh_workflow.specs.Law.{Program}
use Rattle.wh_tester.specs.Report.{is_good}
use Rattle.wh_explain.specs.Reading.{IsExplanationIn}
use Rattle.wh_explain.specs.declared.explanation.Explanation.{Explanation}
use Rattle.wh_report.specs.OtherValues.{members_of, values_if}
use Rattle.wh_report.specs.Private.Found.{IsFound}
use Rattle.wh_phrases.specs.declared.comparing.OtherValue.{OtherValue}
use Rattle.wh_report.proofs.Read.{found_values, good_within}

module _ {S A E : Type 0} (program : Program S) (bytes : List ℕ) (members : List Data) (explanation : Explanation) (explained : IsExplanationIn program bytes explanation) where
  -- if there was memory for the values
  pub found_with : (of : A → Explanation) (values : A → List OtherValue) (result : Result A E) → members_of (document_within bytes) ≡ members → IfOk result (λ a. of a ≡ explanation) → IfOk result (λ a. values a ≡ values_if (is_good explanation.verdict) members explanation.tasks)
      → IfOk result (λ a. IsFound program bytes (of a) (values a))
  found_with of values (Ok a) are same own = subst (λ f. IsFound program bytes f (values a)) (sym same) (found_values program bytes members explanation (values a) explained are own)
  found_with of values (Err e) are same own = tt

  -- else the file is good
  pub full_within : (result : Result A E) → IfErr result (λ _. is_good explanation.verdict ≡ true) → IfErr result (λ _. length bytes ≤ longest)
  full_within (Ok a) good = tt
  full_within (Err e) good = good_within program bytes explanation.verdict explained.verdict good
