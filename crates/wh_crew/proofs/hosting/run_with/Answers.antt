use Rattle.std.proofs.Common.{◌≡◌, ◌∙◌, ◌++◌, arith, List, length, map, replicate, rules, subst, sym, ap}
use Rattle.wh_host.specs.Spares.{spare_seats}
use Rattle.wh_host.specs.Machine.{totals_of}
use Rattle.wh_host.specs.declared.ledger.Shares.{Shares}
use Rattle.wh_host.specs.Shares.{no_shares}
use Rattle.wh_poll.specs.Ends.{AreEnds, IsEndOf}
use Rattle.wh_crew.proofs.Spares.{first_part, sums_back}
use Rattle.wh_poll.proofs.Zips.{of_fresh}
use Rattle.wh_crew.proofs.hosting.run_with.Goals as goal

-- no seat of a host that has just opened has counted anything, and that beside those of the workers never does
pub returns-clause-end : goal.returns-clause-end
returns-clause-end g c =
    let S = g.S.TaskSource in
    let setups = c.args.setups in
    let ends = c.in_ok-seats.workers in
    let seats = c.take_spare-spare.new.seats in
    let spare = spare_seats c.take_spare-spare.result in
    let parts : replicate c.args.config.seats no_shares ≡ seats.items ++ spare = sym c.in_ok-host.ensures.seats ∙ c.take_spare-spare.ensures.all in
    let R = IsEndOf g.W.Workflow.program S.fetches S.delivers S.answers S.failures S.comes_from g.A.ActivityHandler.may g.O.Observer.hears in
    let are : List Shares → Type 0 = λ s. AreEnds g.W.Workflow.program S.fetches S.delivers S.answers S.failures S.comes_from g.A.ActivityHandler.may g.O.Observer.hears s setups.items ends.items in
    let led : are seats.items = search rules in
    let long : length setups.items ≡ length seats.items = omega (arith, setups.ok.0, c.len.ensures, c.take_spare-spare.ensures.workers, seats.ok.0) in
    let counted = map (λ end. end.counted) ends.items in
    let own : c.in_ok-seats.seats.items ≡ counted = search rules in
    let same =
    sums_back seats.items spare (spare_seats c.run_beside-spare.result.0) c.in_ok-seats.seats.items c.put_spare.new.seats.items counted c.args.config.seats
    parts (ap spare_seats c.run_beside-spare.ensures.beside) c.put_spare.ensures own in
    record {
      sizes = search rules;
      count = search rules;
      ends = of_fresh R no_shares (length seats.items) setups.items ends.items long (subst are (first_part no_shares seats.items spare c.args.config.seats parts) led);
      gathered = c.close_host-totals.ensures.gathered ∙ ap (λ sums. totals_of sums) same;
      balanced = search rules;
    }
