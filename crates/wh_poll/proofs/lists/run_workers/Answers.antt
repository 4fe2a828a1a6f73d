use Rattle.std.proofs.Common.{◌≡◌, ◌∙◌, length, vec_len, arith, sym}
use Rattle.wh_poll.specs.Ends.{IsWorked}
use Rattle.wh_poll.proofs.ByLists.{workers_answered, workers_come, workers_rose, workers_within, workers_worked}
use Rattle.wh_poll.proofs.Zips.{zip_each}
use Rattle.wh_poll.proofs.lists.run_workers.Goals as goal

-- each worker is what its seat and its setup became
pub returns : goal.returns
returns g c =
    let S = g.S.TaskSource in
    let pairs = c.in_ok-pairs.pairs.items in
    let ended = c.in_ok-ended.ended.items in
    let long : vec_len c.in_ok-pairs.pairs ≡ length pairs = c.in_ok-pairs.pairs.ok.0 in
    let same : length ended ≡ length pairs = sym c.in_ok-ended.ended.ok.0 ∙ (c.in_ok-ended.ensures.count ∙ long) in
    let R = IsWorked g.W.Workflow.program S.fetches S.delivers S.answers S.failures S.comes_from g.A.ActivityHandler.may (λ old turn new. new ≡ old) in
    let all = zip_each R pairs ended same (λ i seated end below. c.in_ok-ended.ensures.each i seated end (omega (arith, below, long))) in
    let setups = c.in_ok-setups.setups.items in
    let firsts = c.in_ok-pairs.ensures.firsts in
    let seconds = c.in_ok-pairs.ensures.seconds in
    let own = c.in_ok-setups.ensures in
    let workers = c.workers_of.ensures in
    record {
      turns = workers_within g.W.Workflow.program S.fetches S.delivers S.answers S.failures S.comes_from g.A.ActivityHandler.may pairs ended setups _ c.args.sources.items c.args.handlers.items _ _ firsts seconds own.sources own.handlers own.turns workers all;
      faults = workers_rose g.W.Workflow.program S.fetches S.delivers S.answers S.failures S.comes_from g.A.ActivityHandler.may pairs ended setups _ c.args.sources.items c.args.handlers.items _ _ firsts seconds own.sources own.handlers own.turns workers all;
      origins = workers_come g.W.Workflow.program S.fetches S.delivers S.answers S.failures S.comes_from g.A.ActivityHandler.may pairs ended setups _ c.args.sources.items c.args.handlers.items _ _ firsts seconds own.sources own.handlers own.turns workers all;
      answered = workers_answered g.W.Workflow.program S.fetches S.delivers S.answers S.failures S.comes_from g.A.ActivityHandler.may pairs ended setups _ c.args.sources.items c.args.handlers.items _ _ firsts seconds own.sources own.handlers own.turns workers all;
      work = workers_worked g.W.Workflow.program S.fetches S.delivers S.answers S.failures S.comes_from g.A.ActivityHandler.may pairs ended setups _ c.args.sources.items c.args.handlers.items _ _ firsts seconds own.sources own.handlers own.turns workers all;
    }
