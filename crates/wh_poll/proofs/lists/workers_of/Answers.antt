use Rattle.std.proofs.Common.{◌≡◌, ◌∙◌, arith, length, map, sym}
use Rattle.std.proofs.lemmas.Grind.{common_steps}
use Rattle.std.proofs.lemmas.List.{length-map}
use Rattle.wh_poll.specs.Lists.{worker_of}
use Rattle.wh_poll.proofs.Zips.{in_order, map-self, one_taken}
use Rattle.wh_poll.proofs.lists.workers_of.Goals as goal

pub loop-end-preserved : goal.loop-end-preserved
loop-end-preserved g c = record {
  workers = one_taken worker_of (λ worker. worker) c.loop-end.ended.items c.pop.new.self.items c.in-Some.end c.loop-end.workers.items c.push_reserved.new.self.items c.worker_of.result _
      c.in-Some.ensures.items c.push_reserved.ensures.items c.worker_of.ensures c.loop-end.invariant.workers;
  room = grind (arith, common_steps);
}

pub returns : goal.returns
returns g c =
    let none : length c.loop-end.ended.items ≡ 0 = grind (arith, common_steps) in
    let none = length-map c.loop-end.ended.items worker_of ∙ none in
    sym (map-self c.reverse.new.self.items)
    ∙ in_order (λ worker. worker) (map worker_of c.loop-end.ended.items) (map worker_of c.args.ended.items) c.loop-end.workers.items c.reverse.new.self.items c.loop-end.invariant.workers none c.reverse.ensures.items
