use Rattle.std.proofs.Common.{◌≡◌, ◌∙◌, arith, List, length, map, rules, subst, ap}
use Rattle.wh_host.specs.Machine.{totals_of}
use Rattle.wh_host.specs.declared.ledger.Shares.{Shares}
use Rattle.wh_host.specs.Shares.{no_shares, sums_of}
use Rattle.wh_poll.specs.Ends.{AreEnds, IsEndOf}
use Rattle.wh_poll.proofs.Zips.{of_fresh}
use Rattle.wh_poll.proofs.hosting.run_with.Goals as goal

-- no seat of a host that has just opened has counted anything
pub returns-clause-end : goal.returns-clause-end
returns-clause-end g c =
    let S = g.S.TaskSource in
    let setups = c.args.setups in
    let ends = c.in_ok-seats.workers in
    let R = IsEndOf g.W.Workflow.program S.fetches S.delivers S.answers S.failures S.comes_from g.A.ActivityHandler.may g.O.Observer.hears in
    let are : List Shares → Type 0 = λ s. AreEnds g.W.Workflow.program S.fetches S.delivers S.answers S.failures S.comes_from g.A.ActivityHandler.may g.O.Observer.hears s setups.items ends.items in
    let led : are c.in_ok-host.fresh.items = search rules in
    let long : length setups.items ≡ c.args.config.seats = omega (arith, setups.ok.0, c.requires.seats) in
    let own : c.in_ok-seats.seats.items ≡ map (λ end. end.counted) ends.items = search rules in
    record {
      sizes = search rules;
      count = search rules;
      ends = of_fresh R no_shares c.args.config.seats setups.items ends.items long (subst are c.in_ok-host.ensures.seats led);
      gathered = c.close_host-totals.ensures.gathered ∙ ap (λ seats. totals_of (sums_of seats)) own;
      balanced = search rules;
    }
