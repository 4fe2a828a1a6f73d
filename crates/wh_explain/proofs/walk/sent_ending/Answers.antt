use Rattle.std.proofs.Common.{◌∙◌, List, Option, sym, ap, option_map}
use Rattle.wh_events.specs.declared.event.Event.{Event}
use Rattle.wh_events.specs.Cuts.{commanded}
use Rattle.wh_replay.specs.Views.{span_events}
use Rattle.wh_replay.specs.declared.cut.Span.{Span}
use Rattle.wh_explained_tasks.specs.declared.Ending.TheVariants.{Live, Recorded}
use Rattle.wh_explain.specs.Explaining.{sent_ending}
use Rattle.wh_explain.specs.Pairings.{pairings}
use Rattle.wh_explain.proofs.walk.sent_ending.Goals as goal

-- a task that is not recorded
pub returns-in_default : goal.returns-in_default
returns-in_default c =
    let cut = c.args.cut.now in
    let told : Option Span → Option (List Event) = option_map (λ span. commanded (span_events cut.track.now span)) in
    ap Live c.new.ensures ∙ sym (ap (λ o. sent_ending cut.track.now c.args.sent.items (told o)) c.in_default.is)

-- and one that is
pub returns : goal.returns
returns c =
    let cut = c.args.cut.now in
    let told : Option Span → Option (List Event) = option_map (λ span. commanded (span_events cut.track.now span)) in
    let events = commanded (span_events cut.track.now c.in-Some.span) in
    let shown = ap (λ l. pairings l c.as_slice.result.now (commanded c.between-record.result.now)) c.events.ensures.events
    ∙ (ap (λ l. pairings cut.track.now c.as_slice.result.now (commanded l)) c.between-record.ensures ∙ ap (λ l. pairings cut.track.now l events) c.as_slice.ensures.value) in
    ap Recorded (c.new-2.ensures ∙ (c.in_ok-pairings.ensures ∙ shown)) ∙ sym (ap (λ o. sent_ending cut.track.now c.args.sent.items (told o)) c.in-Some.is)
