use Rattle.wh_rpc.proofs.Reasoning.{meanings_have_no_fault, reasons_come_in_order}
use Rattle.wh_rpc.proofs.laws.reasons_come_in_order.Goals as goal

pub returns-clause-first : goal.returns-clause-first
returns-clause-first c = reasons_come_in_order

pub returns-clause-none : goal.returns-clause-none
returns-clause-none c = meanings_have_no_fault
