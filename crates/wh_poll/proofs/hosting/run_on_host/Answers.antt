use Rattle.std.proofs.Common.{◌≡◌, ◌∙◌, length, map, vec_len, arith, ap, sym}
use Rattle.std.proofs.lemmas.List.{length-map}
use Rattle.wh_poll.specs.Ends.{IsWorked}
use Rattle.wh_poll.proofs.Ends.{ends_of_pairs, seats_counted}
use Rattle.wh_poll.proofs.Zips.{map-map, zip_each}
use Rattle.wh_poll.proofs.hosting.run_on_host.Goals as goal

-- there is a seat for each setup
pub zip_lists-requires : goal.zip_lists-requires
zip_lists-requires g c = sym c.requires.seats

-- each worker is paired with its seat and its setup
pub returns : goal.returns
returns g c =
    let S = g.S.TaskSource in
    let pairs = c.in_ok-pairs.pairs.items in
    let ended = c.in_ok-ended.ended.items in
    let firsts = c.unzip_pairs.ensures.firsts in
    let seconds = c.unzip_pairs.ensures.seconds in
    let long : vec_len c.in_ok-pairs.pairs ≡ length pairs = c.in_ok-pairs.pairs.ok.0 in
    let same : length ended ≡ length pairs = sym c.in_ok-ended.ended.ok.0 ∙ (c.in_ok-ended.ensures.count ∙ long) in
    let setups = sym (length-map pairs (λ seated. seated.1)) ∙ ap length c.in_ok-pairs.ensures.seconds ∙ sym c.args.setups.ok.0 in
    let R = IsWorked g.W.Workflow.program S.fetches S.delivers S.answers S.failures S.comes_from g.A.ActivityHandler.may g.O.Observer.hears in
    let all = zip_each R pairs ended same (λ i seated end below. c.in_ok-ended.ensures.each i seated end (omega (arith, below, long))) in
    record {
      seats = c.unzip_pairs.result.0.ok.0 ∙ (ap length firsts ∙ length-map ended (λ end. end.0) ∙ same ∙ setups);
      count = c.unzip_pairs.result.1.ok.0 ∙ (ap length seconds ∙ length-map ended (λ end. end.1) ∙ same ∙ setups);
      counted = firsts ∙ seats_counted R pairs ended all (λ seated end worked. worked.seat) ∙ sym (ap (map (λ end. end.counted)) seconds ∙ map-map (λ end. end.counted) (λ end. end.1) ended);
      ends = ends_of_pairs g.W.Workflow.program S.fetches S.delivers S.answers S.failures S.comes_from g.A.ActivityHandler.may g.O.Observer.hears
          pairs ended c.args.seats.items c.args.setups.items c.unzip_pairs.result.1.items c.in_ok-pairs.ensures.firsts c.in_ok-pairs.ensures.seconds seconds all;
      room = c.unzip_pairs.ensures.room ∙ c.zip_lists.ensures.room;
    }
