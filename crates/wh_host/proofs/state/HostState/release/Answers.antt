use Rattle.std.proofs.Common.{◌≡◌, rules}
use Rattle.wh_slots.specs.declared.SlotKind.TheVariants.{Workflow, Activity}
use Rattle.wh_host.proofs.Keeps.{release_either, release_either_activity, released, released_activity}
use Rattle.wh_host.proofs.state.HostState.release.Goals as goal

pub invariant_of-self : goal.invariant_of-self
invariant_of-self g c = release_either g.W.Workflow.program _ c.self.invariant c.release.new.self _ c.release.result c.release.ensures.released c.release.ensures.unchanged

pub invariant_of-self-in-Activity : goal.invariant_of-self-in-Activity
invariant_of-self-in-Activity g c =
    release_either_activity g.W.Workflow.program _ c.self.invariant c.release-in-Activity.new.self _ c.release-in-Activity.result c.release-in-Activity.ensures.released c.release-in-Activity.ensures.unchanged

pub returns-in-Workflow : goal.returns-in-Workflow
returns-in-Workflow g c =
    let kind : c.args.permit.0 ≡ Workflow = search rules in
    let e = c.release.ensures in
    rw (← c.self.view_is) (released _ c.release.new.self c.args.permit c.release.result kind e.released e.refused e.handed_back e.unchanged)

pub returns-in-Activity : goal.returns-in-Activity
returns-in-Activity g c =
    let kind : c.args.permit.0 ≡ Activity = search rules in
    let e = c.release-in-Activity.ensures in
    rw (← c.self.view_is) (released_activity _ c.release-in-Activity.new.self c.args.permit c.release-in-Activity.result kind e.released e.refused e.handed_back e.unchanged)
