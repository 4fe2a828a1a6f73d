use Rattle.std.proofs.Common.{◌≡◌, ◌<◌, Some, None, take, unwrap_or, sym, ap, ◌∙◌, arith}
use Rattle.wh_machines.specs.Private.Jumps.{jump_at, back_by}
use Rattle.wh_machines.specs.Lookups.{thing_of, last_at, with_status}
use Rattle.wh_machines.specs.Private.Openings.{opening_of, status_up_to}
use Rattle.wh_machines.specs.Private.Tables.{opening_in}
use Rattle.wh_machines.proofs.Found.{is_named_kind, walk_opened, walk_on, walk_end, walk_status, walk_smaller}
use Rattle.wh_machines.proofs.track.Track.last_at.Goals as goal

pub returns-in_err-opening : goal.returns-in_err-opening
returns-in_err-opening c =
    let events = c.self.inside.events.items in
    let thing = thing_of c.args.kind in
    let walk = walk_opened events thing c.args.id.now c.args.place c.self.invariant.placed c.in-Some.number (rw c.in-Some.is at c.loop-last.invariant) in
    let there = walk.1 in
    let nothing : opening_of events c.in-Some.number ≡ None = sym (c.self.invariant.opened c.in-Some.number) ∙ ap (opening_in c.self.inside.openings) (sym c.get.ensures.kept) ∙ sym c.in_err-opening.ensures in
    cc

pub returns-then-get-place : goal.returns-then-get-place
returns-then-get-place c =
    let events = c.self.inside.events.items in
    let thing = thing_of c.args.kind in
    let within = rw c.in-Some.is at c.loop-last.invariant in
    let found : opening_of events c.in-Some.number ≡ Some c.in_ok-opening.opening = sym (c.self.invariant.opened c.in-Some.number) ∙ ap (opening_in c.self.inside.openings) (sym c.get.ensures.kept) ∙ sym c.in_ok-opening.ensures in
    let number = c.get-in-Some.ensures.kept in
    let near = c.if-get-place.true in
    let here : Some (c.in-Some.number, status_up_to c.args.place c.in_ok-opening.opening) ≡ last_at events thing c.args.id.now c.args.place =
    walk_status events thing c.args.id.now c.args.place c.self.invariant.placed c.in-Some.number c.in_ok-opening.opening (omega arith) within found in
    ap (λ status. Some (c.in-Some.number, status)) c.status_up_to.ensures
    ∙ here
    ∙ ap (λ list. last_at list thing c.args.id.now c.args.place) c.self.view_is

pub loop-last-smaller : goal.loop-last-smaller
loop-last-smaller c =
    let events = c.self.inside.events.items in
    let thing = thing_of c.args.kind in
    let jumps = c.self.inside.jumps.items in
    let opening = c.in_ok-opening.opening in
    let within = rw c.in-Some.is at c.loop-last.invariant in
    let found : opening_of events c.in-Some.number ≡ Some opening = sym (c.self.invariant.opened c.in-Some.number) ∙ ap (opening_in c.self.inside.openings) (sym c.get.ensures.kept) ∙ sym c.in_ok-opening.ensures in
    let next : c.step_back-last.result ≡ back_by c.args.place (jump_at jumps c.in-Some.number) opening.previous = c.step_back-last.ensures ∙ ap (λ list. back_by c.args.place (jump_at list c.in-Some.number) opening.previous) c.deref.ensures.value in
    let smaller = walk_smaller events thing c.args.id.now c.args.place c.self.invariant.placed c.in-Some.number jumps c.self.invariant.jumping within opening found c.step_back-last.result next in
    let result : unwrap_or c.step_back-last.result 0 < unwrap_or c.loop-last.last 0 = rw c.in-Some.is smaller in
    result

pub loop-last-preserved : goal.loop-last-preserved
loop-last-preserved c =
    let events = c.self.inside.events.items in
    let thing = thing_of c.args.kind in
    let jumps = c.self.inside.jumps.items in
    let opening = c.in_ok-opening.opening in
    let within = rw c.in-Some.is at c.loop-last.invariant in
    let found : opening_of events c.in-Some.number ≡ Some opening = sym (c.self.invariant.opened c.in-Some.number) ∙ ap (opening_in c.self.inside.openings) (sym c.get.ensures.kept) ∙ sym c.in_ok-opening.ensures in
    let next : c.step_back-last.result ≡ back_by c.args.place (jump_at jumps c.in-Some.number) opening.previous = c.step_back-last.ensures ∙ ap (λ list. back_by c.args.place (jump_at list c.in-Some.number) opening.previous) c.deref.ensures.value in
    let number = c.get-in-Some.ensures.kept in
    let past = c.if-get-place.false in
    walk_on events thing c.args.id.now c.args.place c.self.invariant.placed c.in-Some.number jumps c.self.invariant.jumping within opening found c.step_back-last.result next (is_named_kind c.args.kind) (omega arith)

pub returns : goal.returns
returns c =
    let events = c.self.inside.events.items in
    let thing = thing_of c.args.kind in
    let within = rw c.in_default.is at c.loop-last.invariant in
    sym (ap (with_status (take c.args.place events)) (walk_end events thing c.args.id.now c.args.place c.self.invariant.placed within))
    ∙ ap (λ list. last_at list thing c.args.id.now c.args.place) c.self.view_is
