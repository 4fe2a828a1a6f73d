use Rattle.wh_client.proofs.Statuses.{accepted_answers, answers_by_code, no_run_by_code, polls_by_code, runs_by_receipt}
use Rattle.wh_client.proofs.laws.codes_are_said.Goals as goal

pub returns : goal.returns
returns c = record {
  no_run = no_run_by_code;
  polls = polls_by_code;
  answers = answers_by_code;
  accepted = accepted_answers;
  runs = runs_by_receipt;
}
