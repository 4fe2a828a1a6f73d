use Rattle.std.proofs.Common.{◌≡◌, ◌∷◌, [], ◌++◌, length, None, Err, sym, ap, ◌∙◌, append_assoc, arith}
use Rattle.std.proofs.lemmas.Result.{err_from_is_err_and}
use Rattle.std.specs.Vec.Iter.{into_iter_items}
use Rattle.wh_events.specs.Places.{place_fault}
use Rattle.wh_machines.proofs.Histories.{fault_after-push}
use Rattle.wh_replay.proofs.Taking.{told_none, refused}
use Rattle.wh_replay.proofs.pushing.push_each.Goals as goal

pub loop-event-preserved : goal.loop-event-preserved
loop-event-preserved c =
    let at = c.loop-event in
    let event = c.in-Some.event in
    let steps : into_iter_items at.event-iterator ≡ event ∷ into_iter_items c.next.new.self = c.in-Some.ensures.steps.0 in
    let fits : place_fault at.track event ≡ None = told_none c.push.result c.in_ok-push.field-0 (place_fault at.track event) c.push.ensures.fault c.in_ok-push.was in
    let held = at.invariant.taken in
    record {
      parts = append_assoc at.yielded (event ∷ []) _ ∙ rw (← steps) at.invariant.parts;
      count = let was = at.invariant.count in let gone = c.in-Some.ensures.steps.1 in let short = ap length steps in omega arith;
      in_place = fault_after-push c.args.track.now at.yielded event at.invariant.in_place (ap (λ l. place_fault l event) (sym held) ∙ fits);
      taken = c.in_ok-push.ensures.ok ∙ (ap (λ l. l ++ event ∷ []) held ∙ append_assoc c.args.track.now at.yielded (event ∷ []));
    }

pub returns-in_err-push : goal.returns-in_err-push
returns-in_err-push c =
    let at = c.loop-event in
    let event = c.in-Some.event in
    let rest = into_iter_items c.next.new.self in
    let fault = c.in_err-push.field-0.0 in
    let steps : into_iter_items at.event-iterator ≡ event ∷ rest = c.in-Some.ensures.steps.0 in
    let all : at.yielded ++ event ∷ rest ≡ c.args.events.items = rw steps at at.invariant.parts ∙ c.into_iter-event-iterator.ensures.into_iter_gives.0 in
    let p = err_from_is_err_and c.from_residual.result c.from_residual.ensures.1 in
    rw (p.1, p.2)
    (refused (Unit {0}) c.args.track.now at.yielded rest c.args.events.items c.push.new.self event fault at.invariant.in_place
    (λ f e. ap (λ l. place_fault l event) (sym at.invariant.taken) ∙ (c.push.ensures.fault f).0 (c.in_err-push.was ∙ ap Err e))
    (c.in_err-push.ensures.err ∙ at.invariant.taken) (sym all))
