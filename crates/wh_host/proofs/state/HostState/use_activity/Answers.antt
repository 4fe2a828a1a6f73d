use Rattle.wh_host.specs.Machine.{host_view}
use Rattle.wh_host.proofs.Keeps.{use_activity}
use Rattle.wh_host.proofs.state.HostState.use_activity.Goals as goal

pub invariant_of-self-2 : goal.invariant_of-self-2
invariant_of-self-2 g c =
    rw c.add_taken.ensures.books (use_activity g.W.Workflow.program _ c.self.invariant c.use_slot.new.self c.args.permit c.args.name c.in_ok-held.held c.in_ok-held.ensures.held)

pub returns-clause-step : goal.returns-clause-step
returns-clause-step g c =
    rw (← c.self.view_is) (c.in_ok-held.ensures.held, λ i. host_view c.self.inside.workflow c.use_slot.new.self c.self.inside.marks.items c.self.inside.cache (c.add_taken.ensures.books i))
