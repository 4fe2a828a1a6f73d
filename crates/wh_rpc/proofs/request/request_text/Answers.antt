use Rattle.std.proofs.lemmas.Result.{IfOk-weaker}
use Rattle.wh_rpc.proofs.Printing.{printed_is_one_line}
use Rattle.wh_rpc.proofs.request.request_text.Goals as goal

pub returns-clause-one_line : goal.returns-clause-one_line
returns-clause-one_line c = IfOk-weaker c.to_string.result _ _ (λ text printed. printed_is_one_line _ printed) c.to_string.ensures.compact
