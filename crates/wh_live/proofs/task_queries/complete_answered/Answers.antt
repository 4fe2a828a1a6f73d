use Rattle.std.proofs.Common.{sym, ◌∙◌, true≢false}
use Rattle.wh_live.proofs.Queried.{by_none, by_some}
use Rattle.wh_live.proofs.task_queries.complete_answered.Goals as goal

pub returns-then-is_empty-clause-received : goal.returns-then-is_empty-clause-received
returns-then-is_empty-clause-received g c =
    by_none c.args.task.now.queries.entries _ _ (c.is_empty.ensures.0 c.if-is_empty.true) c.complete_alone.ensures.received

pub returns-clause-received : goal.returns-clause-received
returns-clause-received g c =
    by_some c.args.task.now.queries.entries _ _ (λ none. true≢false (sym (c.is_empty.ensures.1 none) ∙ c.if-is_empty.false))
    c.complete_queried.ensures.received
