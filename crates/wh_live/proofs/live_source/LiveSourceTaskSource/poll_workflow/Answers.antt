use Rattle.std.proofs.Common.{refl}
use Rattle.wh_live.proofs.Adding.{by_polled}
use Rattle.wh_live.proofs.Keeping.{polled}
use Rattle.wh_live.proofs.live_source.LiveSourceTaskSource.poll_workflow.Goals as goal

-- the poll is noted, and nothing else changes but the open task and counts
pub returns-clause-keeps : goal.returns-clause-keeps
returns-clause-keeps g c =
    polled g.L.Connection.gives _ c.args.self.now _ c.poll_workflow.result _ c.poll_workflow.new.current c.self.view_is refl refl refl refl refl
    c.poll_workflow.ensures.failures
    (by_polled g.L.Connection.shows _ c.poll_workflow.result _ c.poll_workflow.new.current _ _ c.poll_workflow.ensures.noted c.poll_workflow.ensures.stays)
