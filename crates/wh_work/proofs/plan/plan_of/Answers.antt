use Rattle.wh_work.proofs.plan.plan_of.Goals as goal

-- there are no policies, wherever counts are kept
pub returns-in-Err-clause-fault : goal.returns-in-Err-clause-fault
returns-in-Err-clause-fault g c = c.in-Err.ensures.fault c.args.options.metrics
