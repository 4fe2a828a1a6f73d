use Rattle.std.proofs.Common.{length, ap, ◌∙◌}
use Rattle.std.specs.Prelude.{map}
use Rattle.std.proofs.lemmas.List.{length-map}
use Rattle.wh_host.specs.Machine.{evicted_for}
use Rattle.wh_host.proofs.Keeps.{evict_run}
use Rattle.wh_host.proofs.Marks.{written}
use Rattle.wh_host.proofs.state.HostState.evict.Goals as goal

pub invariant_of-self : goal.invariant_of-self
invariant_of-self g c =
    let marks = c.mark_places-marked.ensures.marks ∙ ap (map (evicted_for c.args.key.now)) c.as_mut_slice.ensures.value in
    let long = ap length c.mark_places-marked.ensures.marks ∙ length-map c.as_mut_slice.result.now (evicted_for c.args.key.now) ∙ c.as_mut_slice.ensures.len in
    let all = written _ c.mark_places-marked.new.marks c.self.inside.marks.items long ∙ marks in
    rw (all, c.evict.ensures.runs) (evict_run g.W.Workflow.program _ c.self.invariant c.args.key.now)

pub invariant_of-self-then-marked : goal.invariant_of-self-then-marked
invariant_of-self-then-marked g c =
    let marks = c.mark_places-marked.ensures.marks ∙ ap (map (evicted_for c.args.key.now)) c.as_mut_slice.ensures.value in
    let long = ap length c.mark_places-marked.ensures.marks ∙ length-map c.as_mut_slice.result.now (evicted_for c.args.key.now) ∙ c.as_mut_slice.ensures.len in
    let all = written _ c.mark_places-marked.new.marks c.self.inside.marks.items long ∙ marks in
    rw (all, c.evict.ensures.runs) (evict_run g.W.Workflow.program _ c.self.invariant c.args.key.now)

pub invariant_of-self-2 : goal.invariant_of-self-2
invariant_of-self-2 g c =
    let marks = c.mark_places-marked.ensures.marks ∙ ap (map (evicted_for c.args.key.now)) c.as_mut_slice.ensures.value in
    let long = ap length c.mark_places-marked.ensures.marks ∙ length-map c.as_mut_slice.result.now (evicted_for c.args.key.now) ∙ c.as_mut_slice.ensures.len in
    let all = written _ c.mark_places-marked.new.marks c.self.inside.marks.items long ∙ marks in
    rw (all, c.evict.ensures.runs) (evict_run g.W.Workflow.program _ c.self.invariant c.args.key.now)
