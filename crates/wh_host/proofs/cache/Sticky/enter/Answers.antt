use Rattle.std.proofs.Common.{length, inr, sym, ap, subst, ◌∙◌, arith, rules}
use Rattle.std.specs.Prelude.{map}
use Rattle.std.proofs.lemmas.List.{length-map}
use Rattle.wh_host.specs.Cache.{CacheView, entry_of, with_first, IsSound}
use Rattle.wh_host.proofs.Fitting.{held_by-few, not_all_fit, entered}
use Rattle.wh_host.proofs.cache.Sticky.enter.Goals as goal

pub returns-in_default-clause-needed : goal.returns-in_default-clause-needed
returns-in_default-clause-needed g c =
    inr (not_all_fit c.args.self.now _ c.count_evictions-going.result c.count_evictions-going.ensures.most (search rules) c.count_evictions-going.ensures.count)

pub put_first-requires-clause-held : goal.put_first-requires-clause-held
put_first-requires-clause-held g c κs within =
    let few = held_by-few g.W.Workflow.program _ c.self.invariant.2 in
    let held = c.self.invariant.1 in (held, omega (arith, few, held))

pub push_out-requires-clause-count : goal.push_out-requires-clause-count
push_out-requires-clause-count g c =
    let less = c.count_evictions-going.ensures.count in
    let first = ap length c.in_ok-put_first.ensures.runs in
    let runs = ap (λ (v : CacheView). length (with_first (entry_of c.args.run) v.runs)) c.self.view_is in
    omega (arith, less, first, runs)

pub invariant_of-self-2 : goal.invariant_of-self-2
invariant_of-self-2 g c =
    let sound = subst (λ (v : CacheView). IsSound g.W.Workflow.program v) c.self.view_is c.self.invariant.2 in
    let runs = ap (λ (v : CacheView). with_first (entry_of c.args.run) v.runs) (sym c.self.view_is) in
    let parts = runs ∙ sym c.in_ok-put_first.ensures.runs ∙ c.push_out.ensures.parts in
    let gone = map entry_of c.push_out.new.gone.items in
    let counted = length-map c.push_out.new.gone.items entry_of ∙ c.push_out.ensures.count in
    let all = entered g.W.Workflow.program c.args.self.now (entry_of c.args.run) _ gone c.count_evictions-going.result sound c.count_evictions-going.ensures.replayed c.count_evictions-going.ensures.most parts counted in (
      c.push_out.ensures.cap ∙ c.put_first.ensures.cap ∙ c.self.invariant.0,
      c.push_out.ensures.held,
      subst (λ (v : CacheView). IsSound g.W.Workflow.program (record v { runs = c.push_out.new.runs.entries })) (sym c.self.view_is) all.1,
    )

pub returns-clause-entered : goal.returns-clause-entered
returns-clause-entered g c =
    let sound = subst (λ (v : CacheView). IsSound g.W.Workflow.program v) c.self.view_is c.self.invariant.2 in
    let runs = ap (λ (v : CacheView). with_first (entry_of c.args.run) v.runs) (sym c.self.view_is) in
    let parts = runs ∙ sym c.in_ok-put_first.ensures.runs ∙ c.push_out.ensures.parts in
    let gone = map entry_of c.push_out.new.gone.items in
    let counted = length-map c.push_out.new.gone.items entry_of ∙ c.push_out.ensures.count in
    let all = entered g.W.Workflow.program c.args.self.now (entry_of c.args.run) _ gone c.count_evictions-going.result sound c.count_evictions-going.ensures.replayed c.count_evictions-going.ensures.most parts counted in
    record {
      may = c.requires;
      same = ap (λ (v : CacheView). record v { runs = c.push_out.new.runs.entries }) c.self.view_is;
      keeps = all.0;
    }
