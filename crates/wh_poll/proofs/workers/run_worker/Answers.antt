use Rattle.std.proofs.Common.{◌≡◌, rules, ◌<◌, ◌+◌, false, true, inl, inr, arith, [], ◌∷◌, ◌++◌, refl, sym, ◌∙◌, subst}
use Rattle.wh_poll.specs.Workers.{first_rota, is_last, next_rota}
use Rattle.wh_poll.specs.Ends.{IsWorked}
use Rattle.wh_poll.specs.Turns.{IsTurn, GoesOn, at_first}
use Rattle.wh_poll.proofs.Turns.{end_so_far, goes_on_more, one_more_so_far, turn_more}
use Rattle.wh_poll.proofs.Zips.{moved_two}
use Rattle.wh_poll.proofs.workers.run_worker.Goals as goal
use Rattle.wh_poll.proofs.workers.run_worker.Goals.{else-loop-turn-test, then-loop-turn-test+then-not-goes_on}

-- nothing was done before the first turn
pub loop-turn-init : goal.loop-turn-init
loop-turn-init g c = record {
  seat = search rules;
  so_far = search rules;
  turns = ([], refl, (c.first-rota.ensures, search rules));
}

pub loop-turn-preserved : goal.loop-turn-preserved
loop-turn-preserved g c =
    let S = g.S.TaskSource in
    let before = c.loop-turn.invariant in
    let served = c.take_turn-served.result in
    let own = c.take_turn-served.ensures in
    let old = c.loop-turn.end in
    let new = c.take_turn-served.new.self in
    let rota = c.loop-turn.rota in
    let more : is_last rota.other_closed served ≡ false = search rules in
    let next : c.goes_on.new.self ≡ next_rota rota served = search rules in
    let step = IsTurn g.W.Workflow.program S.fetches S.delivers S.answers S.failures S.comes_from g.A.ActivityHandler.may g.O.Observer.hears in
    let first = at_first c.args.seat c.args.setup in
    let led = goes_on_more step first_rota rota first old new before.turns.0 served before.turns.2 own.turn more in
    record {
      seat = own.counted;
      so_far = one_more_so_far g.W.Workflow.program S.fetches S.delivers S.answers S.failures S.comes_from g.A.ActivityHandler.may g.O.Observer.hears c.args.seat c.args.setup c.loop-turn._turn rota.kind old served new
          before.so_far own.turn c.loop-turn.seat c.take_turn-served.new.seat before.seat own.counted own.taken own.answered;
      turns = (before.turns.0 ++ served ∷ [], turn_more before.turns.0 served c.loop-turn._turn before.turns.1, subst (λ r. GoesOn step first_rota first (before.turns.0 ++ served ∷ []) r new) (sym next) led);
    }

-- all turns are done, or the one that was done is the last
pub returns : goal.returns
returns g c =
    let S = g.S.TaskSource in
    let before = c.loop-turn.invariant in
    let old = c.loop-turn.end in
    let rota = c.loop-turn.rota in
    let is = moved_two (λ seat end. IsWorked g.W.Workflow.program S.fetches S.delivers S.answers S.failures S.comes_from g.A.ActivityHandler.may g.O.Observer.hears (c.args.seat, c.args.setup) (seat, end)) in
    elim c.loop-turn-test.branch [
      | else-loop-turn-test w ↦
          let done : c.loop-turn._turn ≡ c.args.setup.turns = omega (arith, w.loop-turn-test.false, c.loop-turn.auto._turn-end) in
          is c.loop-turn.seat c.loop-turn-test.seat old c.loop-turn-test.end (sym w.seat-is) (sym w.end-is) (record {
            seat = before.seat;
            end = end_so_far g.W.Workflow.program S.fetches S.delivers S.answers S.failures S.comes_from g.A.ActivityHandler.may g.O.Observer.hears c.args.seat c.args.setup c.loop-turn._turn old (omega (arith, done)) before.so_far (record {
              turns = before.turns.0;
              rota = rota;
              before = old;
              led = before.turns.2;
              ended = inl (before.turns.1 ∙ done, refl);
            });
          })
      | then-loop-turn-test+then-not-goes_on w ↦
          let served = w.take_turn-served.result in
          let own = w.take_turn-served.ensures in
          let new = w.take_turn-served.new.self in
          let below : c.loop-turn._turn < c.args.setup.turns = w.loop-turn-test.true in
          let last : is_last rota.other_closed served ≡ true = search (rules, w.goes_on.ensures.ends, w.if-not-goes_on.true) in
          let so_far = one_more_so_far g.W.Workflow.program S.fetches S.delivers S.answers S.failures S.comes_from g.A.ActivityHandler.may g.O.Observer.hears c.args.seat c.args.setup c.loop-turn._turn rota.kind old served new
          before.so_far own.turn c.loop-turn.seat w.take_turn-served.new.seat before.seat own.counted own.taken own.answered in
          is w.take_turn-served.new.seat c.loop-turn-test.seat new c.loop-turn-test.end (sym w.seat-is) (sym w.end-is) (record {
            seat = own.counted;
            end = end_so_far g.W.Workflow.program S.fetches S.delivers S.answers S.failures S.comes_from g.A.ActivityHandler.may g.O.Observer.hears c.args.seat c.args.setup (c.loop-turn._turn + 1) new (omega (arith, below)) so_far (record {
              turns = before.turns.0;
              rota = rota;
              before = old;
              led = before.turns.2;
              ended = inr (served, own.turn, last, omega (arith, below, before.turns.1));
            });
          })
    ]
