use Rattle.std.proofs.Common.{◌≡◌, ◌+◌, eqb, false, length, arith}
use Rattle.wh_events.specs.Places as places
use Rattle.wh_machines.proofs.Histories.{later_fault}
use Rattle.wh_machines.proofs.track.Track.place_fault.Goals as goal

pub returns-in-Some : goal.returns-in-Some
returns-in-Some c =
    let view = c.self.view_is in
    let ended = c.self.invariant.ended in
    let first : eqb (length c.args.self.now) 0 ≡ places.is_start c.args.event.now = grind arith in
    let number : c.args.event.now.number ≡ length c.args.self.now + 1 = grind arith in
    let over : places.is_over c.args.self.now ≡ false = grind arith in
    let later = later_fault c.args.self.now c.args.event.now first number over in
    grind (arith, later)

pub returns-then-len-ge-MOST_EVENTS : goal.returns-then-len-ge-MOST_EVENTS
returns-then-len-ge-MOST_EVENTS c =
    let view = c.self.view_is in
    let ended = c.self.invariant.ended in
    let first : eqb (length c.args.self.now) 0 ≡ places.is_start c.args.event.now = grind arith in
    let number : c.args.event.now.number ≡ length c.args.self.now + 1 = grind arith in
    let over : places.is_over c.args.self.now ≡ false = grind arith in
    let later = later_fault c.args.self.now c.args.event.now first number over in
    grind (arith, later)
