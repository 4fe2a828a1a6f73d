use Rattle.wh_live.proofs.Faults.{causes_by_fault, receipts_by_fault, unsent_by_fault}
use Rattle.wh_live.proofs.laws.answers_are_said.Goals as goal

pub returns : goal.returns
returns c = record { causes = causes_by_fault; receipts = receipts_by_fault; unsent = unsent_by_fault }
