use Rattle.std.proofs.Common.{sym}
use Rattle.std.proofs.Output.{has_written_of_eq}
use Rattle.wh_tester.proofs.JsonTexts.{fault_by_parts}
use Rattle.wh_tester.proofs.json_report.write_fault.Goals as goal

-- the members of the fault, by their parts
pub returns : goal.returns
returns g c = λ plain ok.
    has_written_of_eq _ _ _ _ _ (sym (fault_by_parts c.args.fault.now)) (c.write.ensures.writes plain ok)
