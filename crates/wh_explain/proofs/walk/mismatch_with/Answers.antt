use Rattle.std.proofs.Common.{◌∙◌, List, Option, sym, ap, option_map}
use Rattle.wh_events.specs.declared.event.Event.{Event}
use Rattle.wh_events.specs.Cuts.{commanded}
use Rattle.wh_replay.specs.Views.{span_events}
use Rattle.wh_replay.specs.declared.cut.Span.{Span}
use Rattle.wh_explain.specs.Private.Tasks.{mismatch_with}
use Rattle.wh_explain.proofs.walk.mismatch_with.Goals as goal

pub returns-in-Some : goal.returns-in-Some
returns-in-Some c =
    let cut = c.args.cut.now in
    let told : Option Span → Option (List Event) = option_map (λ span. commanded (span_events cut.track.now span)) in
    c.difference.ensures ∙ sym (ap (λ o. mismatch_with cut.track.now c.args.sent.now (told o)) c.in-Some.is)

pub returns-in-None : goal.returns-in-None
returns-in-None c =
    let cut = c.args.cut.now in
    let told : Option Span → Option (List Event) = option_map (λ span. commanded (span_events cut.track.now span)) in
    sym (ap (λ o. mismatch_with cut.track.now c.args.sent.now (told o)) c.in-None.is)
