use Rattle.std.proofs.Common.{◌≡◌, ◌∙◌, Some, inr, subst, sym}
use Rattle.std.specs.Prelude.{IfOk}
use Rattle.wh_client.specs.Roles.{polls_sticky}
use Rattle.wh_live.specs.Deliveries.{AreLater}
use Rattle.wh_live.specs.Private.Opening.{IsWorkflowFault, OnTask, QueueCameTo}
use Rattle.wh_live.proofs.Ending.{closed_by, over_if_ended, workflow_over}
use Rattle.wh_live.proofs.Later.{is_of_poll, leaves_open, opened_later}
use Rattle.wh_live.proofs.Noted.{noted_polled, queue_came_to}
use Rattle.wh_live.proofs.polling.poll_workflow.Goals as goal

-- the later events that are kept are those of the task that the queue returned
pub returns-clause-later : goal.returns-clause-later
returns-clause-later g c =
    let gives = g.L.Connection.gives in
    let names = c.args.client.now.options.now.names in
    let queue = polls_sticky c.args.role in
    let sticky : queue ≡ Some c.in-Some.sticky = sym c.polls_sticky.ensures ∙ c.in-Some.is in
    let poll = subst (λ q. IfOk c.take_workflow-taken.result (OnTask (λ taken. AreLater gives names q taken.0.run taken.0.later.items))) (sym sticky) c.take_workflow-taken.ensures.later in
    let given = is_of_poll (λ taken. AreLater gives names queue taken.0.run taken.0.later.items) c.take_workflow-taken.result c.note_poll-polled.result poll c.note_poll-polled.ensures.task in
    opened_later gives names queue c.note_poll-polled.result c.args.current.now c.open_polled.result c.open_polled.new.current c.open_polled.ensures given

-- the poll that failed has shown whether a later one can succeed
pub note_poll-polled-requires : goal.note_poll-polled-requires
note_poll-polled-requires g c =
    workflow_over g.L.Connection.gives g.L.Connection.fails c.args.client.now.options.now.names c.in-Some.sticky c.take_workflow-taken.result
    c.take_workflow-taken.ensures.failed c.take_workflow-taken.ensures.refused

-- the source is ended only by a poll that has shown so
pub returns-clause-ended : goal.returns-clause-ended
returns-clause-ended g c =
    let gives = g.L.Connection.gives in
    let fails = g.L.Connection.fails in
    let may = workflow_over gives fails c.args.client.now.options.now.names c.in-Some.sticky c.take_workflow-taken.result c.take_workflow-taken.ensures.failed c.take_workflow-taken.ensures.refused in
    over_if_ended fails c.take_workflow-taken.result c.args.journal.now.ended c.note_poll-polled.new.self.ended may c.note_poll-polled.ensures.ended

-- and closed by one that was closed
pub returns-clause-closed : goal.returns-clause-closed
returns-clause-closed g c =
    let came = IsWorkflowFault g.L.Connection.gives g.L.Connection.fails c.args.client.now.options.now.names c.in-Some.sticky in
    let queue : polls_sticky c.args.role ≡ Some c.in-Some.sticky = sym c.polls_sticky.ensures ∙ c.in-Some.is in
    λ closed. inr (inr (c.in-Some.sticky, queue, closed_by came c.take_workflow-taken.result c.note_poll-polled.result c.args.current.now c.open_polled.result c.open_polled.new.current c.take_workflow-taken.ensures.failed c.take_workflow-taken.ensures.refused c.note_poll-polled.ensures.reports c.open_polled.ensures closed))

-- a poll that delivers no task leaves the open one
pub returns-clause-stays : goal.returns-clause-stays
returns-clause-stays g c =
    leaves_open c.note_poll-polled.result c.args.current.now c.open_polled.result c.open_polled.new.current c.open_polled.ensures

-- the poll notes itself by what the source reports
pub returns-clause-noted : goal.returns-clause-noted
returns-clause-noted g c =
    let gives = g.L.Connection.gives in
    let fails = g.L.Connection.fails in
    let names = c.args.client.now.options.now.names in
    let queue = polls_sticky c.args.role in
    let sticky : queue ≡ Some c.in-Some.sticky = sym c.polls_sticky.ensures ∙ c.in-Some.is in
    noted_polled gives g.L.Connection.shows (QueueCameTo gives fails names queue) c.take_workflow-taken.result c.note_poll-polled.result c.args.current.now c.open_polled.result
    c.open_polled.new.current c.args.journal.now.notes c.take_workflow-taken.new.notes c.note_poll-polled.new.self.notes
    (queue_came_to gives fails names queue c.in-Some.sticky c.take_workflow-taken.result sticky c.take_workflow-taken.ensures.brings c.take_workflow-taken.ensures.failed c.take_workflow-taken.ensures.refused)
    c.take_workflow-taken.ensures.noted c.note_poll-polled.ensures.notes c.note_poll-polled.ensures.reports c.open_polled.ensures
