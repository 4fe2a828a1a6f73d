use Rattle.std.proofs.Common.{◌∙◌, rules}
use Rattle.std.proofs.lemmas.Option.{slice_get_within}
use Rattle.std.specs.Prelude.{slice_set}
use Rattle.wh_host.specs.Machine.{host_view}
use Rattle.wh_host.proofs.Keeps.{AllMarked-length, used_place, used_is_held, use_at}
use Rattle.wh_host.proofs.state.HostState.use_workflow.Goals as goal

pub unreachable-requires : goal.unreachable-requires
unreachable-requires g c = c.in_default.ensures.missing (used_is_held c.self.inside.workflow c.use_slot.new.self c.args.permit c.args.name c.in-Ok.held c.in-Ok.ensures.held)

pub index_mut-requires : goal.index_mut-requires
index_mut-requires g c =
    let used = used_place c.self.inside.workflow c.use_slot.new.self c.args.permit c.args.name c.in-Ok.held c.in-Some.at c.in-Ok.ensures.held c.in-Some.ensures.found in
    let within = slice_get_within c.self.inside.workflow.places c.in-Some.at _ used.0 in
    let same = AllMarked-length _ _ c.self.invariant.marked in
    search rules

pub invariant_of-self-2 : goal.invariant_of-self-2
invariant_of-self-2 g c =
    rw (c.hand_out-run.ensures.runs, c.replace.ensures.after, c.add_taken.ensures.books) (use_at g.W.Workflow.program _ c.self.invariant c.use_slot.new.self c.args.permit c.args.name c.in-Ok.held c.args.key c.in-Some.at c.in-Ok.ensures.held c.in-Some.ensures.found)

pub returns-clause-step : goal.returns-clause-step
returns-clause-step g c =
    let u = c.in-Ok.ensures.held in
    let used = used_place c.self.inside.workflow c.use_slot.new.self c.args.permit c.args.name c.in-Ok.held c.in-Some.at u c.in-Some.ensures.found in
    rw (← c.self.view_is) (record {
      own_kind = u.own_kind ∙ c.self.invariant.kinds.0;
      same_number = u.same_number;
      unnamed = u.unnamed;
      handed_out = c.hand_out-run.ensures.run;
      place = c.in-Some.at;
      was_reserved = used.0;
      changed = λ i. host_view (used.1 i) c.self.inside.activity (slice_set c.self.inside.marks.items c.in-Some.at (c.replace.ensures.after i)) (c.hand_out-run.ensures.runs i) (c.add_taken.ensures.books i);
    })
