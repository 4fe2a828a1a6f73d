use Rattle.std.proofs.Common.{codes, ap, ◌∙◌}
use Rattle.std.specs.Prelude.{option_and_then}
use Rattle.wh_json.specs.Fields.{field, list_in, text_of}
use Rattle.wh_payload_metadata.specs.Messages.{closes, last}
use Rattle.wh_payload_metadata.proofs.messages.closes_run.Goals as goal

pub returns : goal.returns
returns c =
    let listed = c.values_of.ensures ∙ ap (option_and_then list_in) c.field.ensures in
    let command = c.last_of-last.ensures ∙ ap (option_and_then last) listed in
    c.closes.ensures ∙ ap closes (c.text_of.ensures ∙ ap text_of (c.field-2.ensures ∙ ap (field (codes "commandType")) command))
