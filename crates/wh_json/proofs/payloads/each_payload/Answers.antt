use Rattle.std.proofs.Common.{sym, ap, ◌∙◌, ◌+◌, map, drop}
use Rattle.std.proofs.lemmas.Result.{err_from_is_err_and}
use Rattle.serde_json.specs.View.{view}
use Rattle.wh_json.specs.Outcome.{all_of}
use Rattle.wh_json.specs.Payloads.{payload_of}
use Rattle.wh_json.proofs.Outcomes.{with_front, read_on, read_stops, read_all}
use Rattle.wh_json.proofs.payloads.each_payload.Goals as goal

pub loop-value-preserved : goal.loop-value-preserved
loop-value-preserved c =
    let i = c.loop-value.value-index in
    ap (λ payloads. with_front payloads (all_of (map (payload_of c.args.at) (map view (drop (i + 1) c.args.values.now))))) c.in_ok-push.ensures.items
    ∙ sym (read_on (payload_of c.args.at) c.loop-value.payloads.items c.args.values.now i c.value-item.result c.in_ok-payload.payload c.loop-value-test.true c.value-item.is c.in_ok-payload.ensures)
    ∙ c.loop-value.invariant

pub returns : goal.returns
returns c = sym c.loop-value.invariant ∙ read_all (payload_of c.args.at) c.loop-value.payloads.items c.args.values.now c.loop-value.value-index c.loop-value-test.false

pub returns-in_err-payload : goal.returns-in_err-payload
returns-in_err-payload c =
    let p = err_from_is_err_and c.from_residual.result c.from_residual.ensures.1 in
    rw (p.1, p.2) (λ memory. sym c.loop-value.invariant ∙ read_stops (payload_of c.args.at) c.loop-value.payloads.items c.args.values.now c.loop-value.value-index c.value-item.result c.in_err-payload.field-0.0 c.loop-value-test.true c.value-item.is (c.in_err-payload.ensures memory))
