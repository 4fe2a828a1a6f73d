use Rattle.std.proofs.Common.{refl}
use Rattle.wh_live.proofs.Adding.{by_fetched}
use Rattle.wh_live.proofs.Keeping.{polled}
use Rattle.wh_live.proofs.live_source.LiveSourceTaskSource.whole.Goals as goal

-- only a task that is failed is noted, and nothing else changes but the open task and counts
pub returns-clause-keeps : goal.returns-clause-keeps
returns-clause-keeps g c =
    polled g.L.Connection.gives _ c.args.self.now _ c.whole.result _ c.whole.new.current c.self.view_is refl refl refl refl refl
    c.whole.ensures.failures
    (by_fetched g.L.Connection.gives g.L.Connection.fails g.L.Connection.shows _ c.whole.result _ c.whole.new.current _ _ _ _ _
    c.whole.ensures.counts c.whole.ensures.current c.whole.ensures.closed)
