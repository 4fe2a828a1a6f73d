use Rattle.std.proofs.Common.{◌≡◌, ◌+◌, [], ◌∷◌, ◌++◌, map, drop, sym, ap, ◌∙◌, append_assoc, arith}
use Rattle.std.proofs.lemmas.List.{drop_more}
use Rattle.serde_json.specs.View.{view}
use Rattle.wh_payload_metadata.specs.Header.{fields_after, fields_after_event, fields_of}
use Rattle.wh_payload_metadata.proofs.Setting.{after_first, fields_after-append, on_error}
use Rattle.wh_payload_metadata.proofs.header.Header.keep_events.Goals as goal

pub loop-event-preserved : goal.loop-event-preserved
loop-event-preserved c =
    let l = c.loop-event in
    let events = c.args.events.now in
    let event = c.event-item.result in
    let rest = drop (l.event-index + 1) events in
    let here : drop l.event-index events ≡ event ∷ rest = drop_more events l.event-index event (omega arith) ∙ ap (λ e. e ∷ rest) (sym c.event-item.is) in
    let first = l.invariant.1.0 in
    let old = fields_of c.args.self.now in (
      ap (fields_after (map view rest)) c.in_ok-keep_event.ensures.set
          ∙ ap (λ es. fields_after (map view es) (fields_of l.self)) (sym here) ∙ l.invariant.0,
      (
        first ++ view event ∷ [],
        l.invariant.1.1 ∙ ap (λ es. first ++ map view es) here ∙ sym (append_assoc first (view event ∷ []) (map view rest)),
        c.in_ok-keep_event.ensures.set ∙ ap (fields_after_event (view event)) l.invariant.1.2 ∙ sym (fields_after-append first (view event ∷ []) old),
      ),
    )

pub returns-in_err-keep_event-clause-some : goal.returns-in_err-keep_event-clause-some
returns-in_err-keep_event-clause-some c =
    let l = c.loop-event in
    let events = c.args.events.now in
    let event = c.event-item.result in
    let rest = drop (l.event-index + 1) events in
    let here : drop l.event-index events ≡ event ∷ rest = drop_more events l.event-index event (omega arith) ∙ ap (λ e. e ∷ rest) (sym c.event-item.is) in
    let first = l.invariant.1.0 in
    on_error c.from_residual.result
    (after_first (map view events) first (view event) (map view rest) (fields_of c.args.self.now) (fields_of l.self) (fields_of c.keep_event.new.self)
    (l.invariant.1.1 ∙ ap (λ es. first ++ map view es) here) l.invariant.1.2 c.in_err-keep_event.ensures.some)
