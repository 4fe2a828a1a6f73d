use Rattle.std.proofs.Common.{◌∙◌, sym}
use Rattle.wh_live.proofs.Faults.{cached_acknowledged}
use Rattle.wh_live.proofs.Receipts.{acknowledged_open}
use Rattle.wh_live.proofs.answering.answer_workflow.Goals as goal

-- if the run may be cached the answer was acknowledged
pub returns-clause-run : goal.returns-clause-run
returns-clause-run g c =
    λ cached. acknowledged_open _ c.args.current c.args.name c.answer_open-receipt.result c.answer_open-receipt.ensures.received
    (cached_acknowledged c.answer_open-receipt.result (sym c.run_use.ensures ∙ cached))
