use Rattle.wh_payload_metadata.proofs.Ending.{open_stay, stay_until_taken, failures_end}
use Rattle.wh_payload_metadata.proofs.laws.open_runs_stay.Goals as goal

pub returns : goal.returns
returns c = record { unclosed = open_stay; taken = stay_until_taken; failures = failures_end }
