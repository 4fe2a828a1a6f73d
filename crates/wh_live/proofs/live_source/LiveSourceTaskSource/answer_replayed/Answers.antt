use Rattle.std.proofs.Common.{ap, option_map, refl, sym}
use Rattle.wh_slots.specs.declared.TaskName.{TaskName}
use Rattle.wh_tasks.specs.declared.source.Sent.{Sent}
use Rattle.wh_tasks.specs.declared.source.Sent.TheVariants.{Workflow as OfWorkflow}
use Rattle.wh_live.specs.Private.Noting.{NotesReply}
use Rattle.wh_live.specs.Private.Opening.{later_kept}
use Rattle.wh_live.proofs.Adding.{by_reply, noted_as}
use Rattle.wh_live.proofs.Keeping.{answered}
use Rattle.wh_live.proofs.live_source.LiveSourceTaskSource.answer_replayed.Goals as goal

-- the answer is added if it counts as taken, and noted; nothing else changes but the open task and counts
pub returns-clause-keeps : goal.returns-clause-keeps
returns-clause-keeps g c =
    let C = g.L.Connection in
    let names = c.self.inside.client.options.now.names in
    let one : TaskName × Sent = (c.args.name, OfWorkflow c.args.answer) in
    let settled = c.answer_workflow-accepted.ensures.settled in
    answered C.gives _ c.args.self.now _ c.answer_workflow-accepted.result.sent one settled.receipt c.take-current.result c.self.view_is refl refl
    (ap (option_map later_kept) (sym c.take-current.ensures.value)) (ap (option_map later_kept) c.take-current.ensures.after)
    c.answer_workflow-accepted.ensures.sent c.answer_workflow-accepted.ensures.unsent settled.taken c.answer_workflow-accepted.ensures.failures
    (noted_as _ (NotesReply C.gives C.fails C.shows names c.args.answer) one c.take-current.result c.args.name settled.receipt _ _
    (λ task. by_reply C.gives C.fails C.shows names c.args.answer task settled.receipt _ _)
    settled.is.0 settled.is.1)
