use Rattle.std.proofs.Common.{inr}
use Rattle.wh_live.specs.Private.Opening.{ActivitiesCameTo, IsActivityFault}
use Rattle.wh_live.proofs.Ending.{activity_over, closed_by, over_if_ended}
use Rattle.wh_live.proofs.Later.{leaves_open}
use Rattle.wh_live.proofs.Noted.{activities_came_to, noted_polled, nothing_before_activity}
use Rattle.wh_live.proofs.polling.poll_activity.Goals as goal

-- the poll that failed has shown whether a later one can succeed
pub note_poll-polled-requires : goal.note_poll-polled-requires
note_poll-polled-requires g c =
    activity_over g.L.Connection.gives g.L.Connection.fails c.args.client.now.options.now.names c.take_activity-taken.result
    c.take_activity-taken.ensures.failed c.take_activity-taken.ensures.refused

-- the source is ended only by a poll that has shown so
pub returns-clause-ended : goal.returns-clause-ended
returns-clause-ended g c =
    let gives = g.L.Connection.gives in
    let fails = g.L.Connection.fails in
    let may = activity_over gives fails c.args.client.now.options.now.names c.take_activity-taken.result c.take_activity-taken.ensures.failed c.take_activity-taken.ensures.refused in
    over_if_ended fails c.take_activity-taken.result c.args.journal.now.ended c.note_poll-polled.new.self.ended may c.note_poll-polled.ensures.ended

-- and closed by one that was closed
pub returns-clause-closed : goal.returns-clause-closed
returns-clause-closed g c =
    let came = IsActivityFault g.L.Connection.gives g.L.Connection.fails c.args.client.now.options.now.names in
    λ closed. inr (inr (closed_by came c.take_activity-taken.result c.note_poll-polled.result c.args.current.now c.open_polled.result c.open_polled.new.current c.take_activity-taken.ensures.failed c.take_activity-taken.ensures.refused c.note_poll-polled.ensures.reports c.open_polled.ensures closed))

-- a poll that delivers no task leaves the open one
pub returns-clause-stays : goal.returns-clause-stays
returns-clause-stays g c =
    leaves_open c.note_poll-polled.result c.args.current.now c.open_polled.result c.open_polled.new.current c.open_polled.ensures

-- the poll notes itself by what the source reports
pub returns-clause-noted : goal.returns-clause-noted
returns-clause-noted g c =
    let gives = g.L.Connection.gives in
    let shows = g.L.Connection.shows in
    let fails = g.L.Connection.fails in
    let names = c.args.client.now.options.now.names in
    let notes = c.args.journal.now.notes in
    noted_polled gives shows (ActivitiesCameTo gives fails names) c.take_activity-taken.result c.note_poll-polled.result c.args.current.now c.open_polled.result
    c.open_polled.new.current notes notes c.note_poll-polled.new.self.notes
    (activities_came_to gives fails names c.take_activity-taken.result c.take_activity-taken.ensures.brings c.take_activity-taken.ensures.failed c.take_activity-taken.ensures.refused)
    (nothing_before_activity gives shows names c.take_activity-taken.result notes c.take_activity-taken.ensures.brings)
    c.note_poll-polled.ensures.notes c.note_poll-polled.ensures.reports c.open_polled.ensures
