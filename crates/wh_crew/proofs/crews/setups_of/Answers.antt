use Rattle.std.proofs.Common.{◌≡◌, ◌∙◌, ◌++◌, ◌∷◌, [], ap, is_some, length, replicate, rules, sym}
use Rattle.std.proofs.lemmas.Iterator.Adapters.{YieldsList-from_vec}
use Rattle.std.proofs.lemmas.Iterator.Consumers.{YieldsList-end}
use Rattle.std.proofs.lemmas.List.{map-id}
use Rattle.wh_crew.specs.Crews.{normal_workers, role_at, sources_of}
use Rattle.wh_live.specs.Deliveries.{fresh}
use Rattle.wh_crew.proofs.Setups.{count_more, shown_more, sources_more, turns_more}
use Rattle.wh_crew.proofs.crews.setups_of.Goals as goal

-- the setup of one member more stands after those before it
pub loop-handler-preserved : goal.loop-handler-preserved
loop-handler-preserved g c =
    let at = c.loop-handler in
    let workers = c.args.workers in
    let normal = c.normal_workers-normal.result in
    let names = c.args.options.now.names in
    let before = sources_of names normal workers (length at.yielded) in
    let grown = c.in_ok-push.ensures.items in
    let place : c.len.result ≡ length at.yielded = search (rules, at.invariant.count) in
    let source : c.new-source.result ≡ fresh (role_at normal workers (length at.yielded)) names =
    c.new-source.ensures ∙ ap (λ role. fresh role names) (c.role_at-role.ensures ∙ ap (role_at normal workers) place) in
    record {
      count = count_more _ _ at.yielded _ c.in_ok-push.ensures.len at.invariant.count;
      members = shown_more (λ setup. (setup.handler, setup.observer)) at.setups.items c.push.new.self.items _ at.yielded grown at.invariant.members;
      sources =
          shown_more (λ setup. setup.source) at.setups.items c.push.new.self.items _ before grown at.invariant.sources
          ∙ ap (λ s. before ++ s ∷ []) source
          ∙ sym (sources_more names normal workers at.yielded _);
      turns =
          shown_more (λ setup. setup.turns) at.setups.items c.push.new.self.items _ (replicate (length at.yielded) 18446744073709551615) grown at.invariant.turns
          ∙ sym (turns_more 18446744073709551615 at.yielded _);
    }

-- all members of the crew have a setup
pub returns : goal.returns
returns g c =
    let at = c.loop-handler in
    let crew = c.args.crew.items in
    let workers = c.args.workers in
    let names = c.args.options.now.names in
    let has_cache = is_some c.args.options.now.sticky in
    let given = c.into_iter-handler-iterator.ensures.into_iter_gives in
    let road = YieldsList-from_vec {s = c.into_iter-handler-iterator.result} crew given.0 (given.1 ∙ c.args.crew.ok.0) in
    let gone = (YieldsList-end road at.yielded at.handler-iterator at.yielded_by c.next.result c.next.new.self c.in-None.is c.next.ensures.steps).0 in
    let all : at.yielded ≡ crew = sym (map-id at.yielded) ∙ gone in
    let count = ap length all ∙ sym c.args.crew.ok.0 in
    let normal : c.normal_workers-normal.result ≡ normal_workers workers has_cache = search rules in
    record {
      count = at.invariant.count ∙ count;
      members = at.invariant.members ∙ all;
      sources =
          at.invariant.sources
          ∙ ap (λ n. sources_of names n workers (length at.yielded)) normal
          ∙ ap (sources_of names (normal_workers workers has_cache) workers) count;
      turns = at.invariant.turns ∙ ap (λ n. replicate n 18446744073709551615) count;
    }
