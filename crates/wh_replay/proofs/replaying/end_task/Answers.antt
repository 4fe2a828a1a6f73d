use Rattle.std.proofs.Common.{◌∙◌, Ok, List, [], Option, refl, sym, ap, option_map}
use Rattle.wh_events.specs.declared.event.Event.{Event}
use Rattle.wh_events.specs.Cuts.{commanded}
use Rattle.wh_workflow.specs.Names.{mismatch}
use Rattle.wh_match.specs.Issuing.{reduced_by}
use Rattle.wh_replay.specs.Replays.{ReplayResult}
use Rattle.wh_replay.specs.Views.{context_of, progress_of, span_events}
use Rattle.wh_replay.specs.declared.cut.Span.{Span}
use Rattle.wh_replay.proofs.Responding.{sent_is, live_task, matched_task, differing_task}
use Rattle.wh_replay.proofs.replaying.end_task.Goals as goal

pub returns-in_default : goal.returns-in_default
returns-in_default g c meter =
    let cut = c.args.cut.now in
    let script = c.args.activation.script in
    let sent = reduced_by script.late script.issued in
    let told : Option Span → Option (List Event) = option_map (λ span. commanded (span_events cut.track.now span)) in
    live_task cut.track.now (context_of cut) cut.number (progress_of c.args.activation meter) sent (sent_is cut script sent c.requires.script refl) (ap told c.in_default.is)
    ∙ ap Ok (sym (c.in_ok-replayed.ensures meter))

pub returns-in_default-difference : goal.returns-in_default-difference
returns-in_default-difference g c meter =
    let cut = c.args.cut.now in
    let script = c.args.activation.script in
    let sent = reduced_by script.late script.issued in
    let told : Option Span → Option (List Event) = option_map (λ span. commanded (span_events cut.track.now span)) in
    let events = commanded (span_events cut.track.now c.in-Some.span) in
    let left = c.in_ok-replayed.ensures meter in
    matched_task cut.track.now (context_of cut) cut.number (progress_of c.args.activation meter) sent (sent_is cut script sent c.requires.script refl) events c.difference.result (ap told c.in-Some.is)
    (c.difference.ensures ∙ ap (λ l. mismatch cut.track.now l events) (c.as_slice.ensures.value ∙ ap (λ (u : ReplayResult _). u.unsent) left)) c.in_default-difference.is
    ∙ ap Ok (ap (λ (u : ReplayResult _). record u { unsent = [] }) (sym left) ∙ sym (c.send_unsent.ensures meter))

pub returns : goal.returns
returns g c meter =
    let cut = c.args.cut.now in
    let script = c.args.activation.script in
    let sent = reduced_by script.late script.issued in
    let told : Option Span → Option (List Event) = option_map (λ span. commanded (span_events cut.track.now span)) in
    let events = commanded (span_events cut.track.now c.in-Some.span) in
    rw c.get.ensures.kept
    (differing_task cut.track.now (context_of cut) cut.number (progress_of c.args.activation meter) sent (sent_is cut script sent c.requires.script refl) events c.difference.result c.in-Some-difference.mismatch (ap told c.in-Some.is)
    (c.difference.ensures ∙ ap (λ l. mismatch cut.track.now l events) (c.as_slice.ensures.value ∙ ap (λ (u : ReplayResult _). u.unsent) (c.in_ok-replayed.ensures meter))) c.in-Some-difference.is)
