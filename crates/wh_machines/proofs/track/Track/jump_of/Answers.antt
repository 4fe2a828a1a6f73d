use Rattle.std.proofs.Common.{◌≡◌, List, Some, sym, ap, subst, ◌∙◌}
use Rattle.std.specs.Prelude.{IfSome}
use Rattle.wh_events.specs.declared.event.Event.{Event}
use Rattle.wh_events.specs.Kinds.{Role, role_seen}
use Rattle.wh_events.specs.Kinds.Role.{Opens}
use Rattle.wh_machines.specs.declared.jumps.Jump.{Jump}
use Rattle.wh_machines.specs.Private.Jumps.{IsShort, IsAlike}
use Rattle.wh_machines.specs.Private.Openings.{named_of}
use Rattle.wh_machines.proofs.Jumping.{each_short}
use Rattle.wh_machines.proofs.Found.{last_alike}
use Rattle.wh_machines.proofs.track.Track.jump_of.Goals as goal

pub returns-in-Some : goal.returns-in-Some
returns-in-Some c =
    let events = c.self.inside.events.items in
    let jumps = c.self.inside.jumps.items in
    let thing = c.in-Opens.thing in
    let id = c.in-Opens.id.now in
    let previous = c.in-Some.previous in
    let to = c.jump_to.result.to in
    let role : Opens thing id ≡ role_seen c.args.role = ap role_seen (sym c.in-Opens.is) in
    let named : named_of events thing id ≡ Some previous = sym (c.self.invariant.named thing id) ∙ sym c.last.ensures ∙ c.in-Some.is in
    let start = last_alike events thing id previous c.self.invariant.placed named in
    let short = subst (λ (list : List Jump). IfSome to (IsShort list previous)) c.deref.ensures.value c.jump_to.ensures.short in
    let alike = each_short events jumps (Opens thing id) previous to c.self.invariant.jumping start short in
    subst (λ (list : List Event). IfSome to (IsAlike list (role_seen c.args.role))) c.self.view_is (subst (λ (done : Role). IfSome to (IsAlike events done)) role alike)
