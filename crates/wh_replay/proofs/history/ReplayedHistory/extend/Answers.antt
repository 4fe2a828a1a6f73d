use Rattle.std.proofs.Common.{◌∙◌, refl, sym, ap, subst, arith, List, ◌++◌, Err, rules}
use Rattle.wh_events.specs.declared.event.Event.{Event}
use Rattle.wh_workflow.specs.Counting.{risen}
use Rattle.wh_replay.specs.Runs.{HistoryView, IsReplayed, advance_steps}
use Rattle.wh_replay.specs.Private.Runs.{IsRun}
use Rattle.wh_replay.specs.Private.Advances.{GivesHistory}
use Rattle.wh_replay.specs.Views.{replay_result_of}
use Rattle.wh_replay.specs.Private.Views.{view_of}
use Rattle.wh_replay.proofs.Ending.{is_replayed, refused_err, is_longer, longer_within, kept_run, longer_run, longer_counts, longer_err}
use Rattle.wh_replay.proofs.history.ReplayedHistory.extend.Goals as goal

pub returns-in-Err-clause-history : goal.returns-in-Err-clause-history
returns-in-Err-clause-history g c =
    let program = g.W.Workflow.program in
    let kept = c.self.inside.replayed in
    let before = c.self.inside.track in
    let new = c.args.events.items in
    let fault = c.in-Err.fault in
    let P : List Event → Type 0 = λ l. GivesHistory program (l ++ new) (Err fault) in
    subst P (ap (λ (h : HistoryView). h.events) c.self.view_is) (refused_err program before new kept.state kept.versions kept.unsent.items fault _ c.self.invariant c.requires.ends c.in-Err.ensures)

pub replay_joined-requires-clause-within : goal.replay_joined-requires-clause-within
replay_joined-requires-clause-within g c =
    let kept = c.self.inside.replayed in
    let longer = is_longer g.W.Workflow.program c.self.inside.track c.args.events.items c.push_all.new.track c.len-held.result c.args.meter.now kept.state kept.versions kept.unsent.items c.self.invariant c.requires.ends c.in_default.ensures (search rules) (omega (arith, c.count-proof_fits.ensures, c.count-proof_fits.type_inv)) in
    λ lives outlive. longer_within _ _ _ _ _ _ _ _ _ longer

pub replay_joined-requires-clause-kept : goal.replay_joined-requires-clause-kept
replay_joined-requires-clause-kept g c =
    let kept = c.self.inside.replayed in
    let longer = is_longer g.W.Workflow.program c.self.inside.track c.args.events.items c.push_all.new.track c.len-held.result c.args.meter.now kept.state kept.versions kept.unsent.items c.self.invariant c.requires.ends c.in_default.ensures (search rules) (omega (arith, c.count-proof_fits.ensures, c.count-proof_fits.type_inv)) in
    λ lives outlive. kept_run _ _ _ _ _ _ _ _ _ longer

pub returns-in-Err-replay_joined-clause-history : goal.returns-in-Err-replay_joined-clause-history
returns-in-Err-replay_joined-clause-history g c =
    let kept = c.self.inside.replayed in
    let longer = is_longer g.W.Workflow.program c.self.inside.track c.args.events.items c.push_all.new.track c.len-held.result c.args.meter.now kept.state kept.versions kept.unsent.items c.self.invariant c.requires.ends c.in_default.ensures (search rules) (omega (arith, c.count-proof_fits.ensures, c.count-proof_fits.type_inv)) in
    let fault = c.in-Err-replay_joined.fault in
    let P : List Event → Type 0 = λ l. GivesHistory g.W.Workflow.program (l ++ c.args.events.items) (Err fault) in
    subst P (ap (λ (h : HistoryView). h.events) c.self.view_is) (longer_err _ g.met.W.Workflow.lawful _ _ _ _ _ _ _ _ fault _ _ longer refl c.in-Err-replay_joined.ensures.advanced)

pub invariant_of-result : goal.invariant_of-result
invariant_of-result g c =
    let kept = c.self.inside.replayed in
    let longer = is_longer g.W.Workflow.program c.self.inside.track c.args.events.items c.push_all.new.track c.len-held.result c.args.meter.now kept.state kept.versions kept.unsent.items c.self.invariant c.requires.ends c.in_default.ensures (search rules) (omega (arith, c.count-proof_fits.ensures, c.count-proof_fits.type_inv)) in
    let value = replay_result_of c.in-Ok.walk.replayed c.replay_joined.new.meter in
    let P : List Event → Type 0 = λ l. IsRun g.W.Workflow.program l value.state value.settled value.unsent in
    subst P (sym longer.joins) (longer_run _ g.met.W.Workflow.lawful _ _ _ _ _ _ _ _ value longer c.in-Ok.ensures.advanced)

pub returns-in-Ok-clause-history : goal.returns-in-Ok-clause-history
returns-in-Ok-clause-history g c =
    let kept = c.self.inside.replayed in
    let longer = is_longer g.W.Workflow.program c.self.inside.track c.args.events.items c.push_all.new.track c.len-held.result c.args.meter.now kept.state kept.versions kept.unsent.items c.self.invariant c.requires.ends c.in_default.ensures (search rules) (omega (arith, c.count-proof_fits.ensures, c.count-proof_fits.type_inv)) in
    let value = replay_result_of c.in-Ok.walk.replayed c.replay_joined.new.meter in
    let run = longer_run _ g.met.W.Workflow.lawful _ _ _ _ _ _ _ _ value longer c.in-Ok.ensures.advanced in (
      longer.joins ∙ ap (λ (h : HistoryView). h.events ++ c.args.events.items) c.self.view_is,
      subst (λ (l : List Event). IsReplayed g.W.Workflow.program (view_of l value.settled value.unsent)) (sym longer.joins) (is_replayed _ _ value.state value.settled value.unsent run),
    )

pub returns-in-Ok-clause-meter : goal.returns-in-Ok-clause-meter
returns-in-Ok-clause-meter g c =
    let kept = c.self.inside.replayed in
    let longer = is_longer g.W.Workflow.program c.self.inside.track c.args.events.items c.push_all.new.track c.len-held.result c.args.meter.now kept.state kept.versions kept.unsent.items c.self.invariant c.requires.ends c.in_default.ensures (search rules) (omega (arith, c.count-proof_fits.ensures, c.count-proof_fits.type_inv)) in
    let value = replay_result_of c.in-Ok.walk.replayed c.replay_joined.new.meter in
    longer_counts _ g.met.W.Workflow.lawful _ _ _ _ _ _ _ _ value longer c.in-Ok.ensures.advanced
    ∙ ap (λ (h : HistoryView). risen c.args.meter.now (advance_steps g.W.Workflow.program h.events c.args.events.items)) c.self.view_is
