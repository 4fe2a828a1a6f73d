use Rattle.std.proofs.Common.{ap, ◌∙◌, min, sum_by}
use Rattle.wh_host.specs.Weights.{input_of, payload_bytes}
use Rattle.wh_host.proofs.Weights.{weighs}
use Rattle.wh_host.proofs.weighing.weight_of.Goals as goal

pub returns-clause-weight : goal.returns-clause-weight
returns-clause-weight g c =
    let given = c.input_of.ensures ∙ ap input_of c.events.ensures in
    let all = c.bytes_of.ensures ∙ ap (λ payloads. min (sum_by payload_bytes payloads) 0xffff_ffff_ffff_ffff) given in
    weighs c.args.run.now.events c.held_len.result c.bytes_of.result c.min-bytes.result c.held_len.ensures.len all c.min-bytes.ensures
