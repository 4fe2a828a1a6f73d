use Rattle.std.proofs.Common.{◌∙◌, ap}
use Rattle.wh_json.specs.Fields.{text_of}
use Rattle.wh_phrases.proofs.comparing.duration_value.Goals as goal

-- both are the texts that the definition has
pub returns : goal.returns
returns c =
    let recorded = c.text_of-recorded.ensures ∙ ap text_of c.field.ensures in
    let sent = c.as_str.ensures.value ∙ c.in_ok-sent.ensures in
    rw (recorded, sent) at c.text_value.ensures
