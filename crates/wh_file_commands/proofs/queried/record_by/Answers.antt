use Rattle.std.proofs.Common.{sym, ◌∙◌}
use Rattle.wh_file_commands.proofs.Good.{good_is_record}
use Rattle.wh_file_commands.proofs.queried.record_by.Goals as goal

-- what was found is the record of the file
pub returns-in-Some-clause-own : goal.returns-in-Some-clause-own
returns-in-Some-clause-own g c =
    good_is_record g.W.Workflow.program g.met.W.Workflow.lawful c.args.file c.in-Some.found c.good_record.result (sym c.in-Some.is ∙ c.requires) c.good_record.ensures
