use Rattle.std.proofs.Common.{◌≡◌, rules}
use Rattle.wh_slots.specs.declared.SlotKind.TheVariants.{Workflow, Activity}
use Rattle.wh_host.proofs.Keeps.{reserve_either, reserve_either_activity, reserved, reserved_activity}
use Rattle.wh_host.proofs.state.HostState.reserve.Goals as goal

pub invariant_of-self : goal.invariant_of-self
invariant_of-self g c = reserve_either g.W.Workflow.program _ c.self.invariant c.reserve.new.self c.reserve.result c.reserve.ensures.reserved c.reserve.ensures.unchanged

pub invariant_of-self-in-Activity : goal.invariant_of-self-in-Activity
invariant_of-self-in-Activity g c =
    reserve_either_activity g.W.Workflow.program _ c.self.invariant c.reserve-in-Activity.new.self c.reserve-in-Activity.result c.reserve-in-Activity.ensures.reserved c.reserve-in-Activity.ensures.unchanged

pub returns-in-Workflow : goal.returns-in-Workflow
returns-in-Workflow g c =
    let kind : c.args.kind ≡ Workflow = search rules in
    let e = c.reserve.ensures in
    rw (← c.self.view_is) (reserved _ c.reserve.new.self c.args.kind c.reserve.result kind e.reserved e.refused e.unchanged)

pub returns-in-Activity : goal.returns-in-Activity
returns-in-Activity g c =
    let kind : c.args.kind ≡ Activity = search rules in
    let e = c.reserve-in-Activity.ensures in
    rw (← c.self.view_is) (reserved_activity _ c.reserve-in-Activity.new.self c.args.kind c.reserve-in-Activity.result kind e.reserved e.refused e.unchanged)
