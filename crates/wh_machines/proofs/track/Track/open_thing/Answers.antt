use Rattle.std.proofs.Common.{◌≡◌, Some, None, sym, ap, ◌∙◌, arith}
use Rattle.wh_events.specs.Machines.{last_named}
use Rattle.wh_machines.specs.Private.Openings.{opening_of}
use Rattle.wh_machines.specs.Private.Tables.{opening_in}
use Rattle.wh_machines.proofs.Found.{none_open, last_open, last_kept, last_opened}
use Rattle.wh_machines.proofs.track.Track.open_thing.Goals as goal

pub returns-in_err-number : goal.returns-in_err-number
returns-in_err-number c =
    let thing = c.args.thing in
    let placed = rw c.self.view_is at c.self.invariant.placed in
    let kept = ap (λ list. last_named list thing c.args.id.now) c.self.view_is in
    let nothing : last_named c.args.self.now thing c.args.id.now ≡ None = sym kept ∙ sym (last_kept c.self.inside.events.items thing c.args.id.now c.requires) ∙ sym (c.self.invariant.named thing c.args.id.now) ∙ sym c.in_err-number.ensures in
    rw c.from_residual.ensures (sym (none_open c.args.self.now thing c.args.id.now c.requires placed nothing))

pub returns-in_err-opening : goal.returns-in_err-opening
returns-in_err-opening c =
    let thing = c.args.thing in
    let events = c.self.inside.events.items in
    let last : last_named events thing c.args.id.now ≡ Some c.in_ok-number.number = sym (last_kept events thing c.args.id.now c.requires) ∙ sym (c.self.invariant.named thing c.args.id.now) ∙ sym c.in_ok-number.ensures in
    let there = last_opened events thing c.args.id.now c.in_ok-number.number c.self.invariant.placed last in
    let nothing : opening_of events c.in_ok-number.number ≡ None = sym (c.self.invariant.opened c.in_ok-number.number) ∙ ap (opening_in c.self.inside.openings) (sym c.get.ensures.kept) ∙ sym c.in_err-opening.ensures in
    cc

pub returns-then-is_none : goal.returns-then-is_none
returns-then-is_none c =
    let thing = c.args.thing in
    let events = c.self.inside.events.items in
    let last : last_named events thing c.args.id.now ≡ Some c.in_ok-number.number = sym (last_kept events thing c.args.id.now c.requires) ∙ sym (c.self.invariant.named thing c.args.id.now) ∙ sym c.in_ok-number.ensures in
    let found : opening_of events c.in_ok-number.number ≡ Some c.in_ok-opening.opening = sym (c.self.invariant.opened c.in_ok-number.number) ∙ ap (opening_in c.self.inside.openings) (sym c.get.ensures.kept) ∙ sym c.in_ok-opening.ensures in
    let is = last_open events thing c.args.id.now c.requires c.self.invariant.placed c.in_ok-number.number c.in_ok-opening.opening last found in
    let view = c.self.view_is in
    grind (arith, is)

pub returns-else-is_none : goal.returns-else-is_none
returns-else-is_none c =
    let thing = c.args.thing in
    let events = c.self.inside.events.items in
    let last : last_named events thing c.args.id.now ≡ Some c.in_ok-number.number = sym (last_kept events thing c.args.id.now c.requires) ∙ sym (c.self.invariant.named thing c.args.id.now) ∙ sym c.in_ok-number.ensures in
    let found : opening_of events c.in_ok-number.number ≡ Some c.in_ok-opening.opening = sym (c.self.invariant.opened c.in_ok-number.number) ∙ ap (opening_in c.self.inside.openings) (sym c.get.ensures.kept) ∙ sym c.in_ok-opening.ensures in
    let is = last_open events thing c.args.id.now c.requires c.self.invariant.placed c.in_ok-number.number c.in_ok-opening.opening last found in
    let view = c.self.view_is in
    grind (arith, is)
