use Rattle.std.proofs.Common.{◌∙◌, ◌&&◌, ℕ, is_none, sym, ap, take, drop}
use Rattle.std.proofs.lemmas.List.{take-append-drop}
use Rattle.wh_events.specs.Cuts.{is_recorded, record_of}
use Rattle.wh_workflow.specs.Names.{mismatch}
use Rattle.wh_replay.proofs.Resuming.{confirms_run}
use Rattle.wh_replay.proofs.continuing.is_confirmed.Goals as goal

pub returns : goal.returns
returns g c =
    let events = c.args.track.now in
    let held : ℕ = c.args.held in
    let rest = drop held events in
    let kept = c.args.kept.now in
    c.is_completed.ensures
    ∙ (ap (λ l. is_recorded rest && is_none (mismatch events l (record_of rest))) c.as_slice.ensures.value
    ∙ (ap (λ l. is_recorded rest && is_none (mismatch l kept.unsent.items (record_of rest))) (sym (take-append-drop held events))
    ∙ sym (confirms_run g.W.Workflow.program (take held events) rest kept.state kept.versions kept.unsent.items c.requires.kept)))
