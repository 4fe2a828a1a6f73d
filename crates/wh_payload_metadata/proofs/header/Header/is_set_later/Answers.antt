use Rattle.std.proofs.Common.{Option, option_map, ap}
use Rattle.wh_payload_metadata.specs.declared.header.Field.{Field}
use Rattle.wh_payload_metadata.specs.Header.{is_set_later, set_in, fields_of}
use Rattle.wh_payload_metadata.proofs.header.Header.is_set_later.Goals as goal

pub returns-in-Some : goal.returns-in-Some
unfolding fields_of
returns-in-Some c =
    let later = λ (found : Option Field). is_set_later (option_map set_in found) c.args.number in
    ap later c.in-Some.ensures.value

pub returns-in-None : goal.returns-in-None
unfolding fields_of
returns-in-None c =
    let later = λ (found : Option Field). is_set_later (option_map set_in found) c.args.number in
    ap later c.in-None.ensures.value
