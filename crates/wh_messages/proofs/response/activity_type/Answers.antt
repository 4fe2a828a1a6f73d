use Rattle.std.proofs.Common.{ap, codes, ◌∙◌}
use Rattle.std.proofs.lemmas.Result.{IfOk-weaker}
use Rattle.wh_json.specs.Fields.{field}
use Rattle.wh_messages.specs.Responses.{needed, activity_type}
use Rattle.wh_messages.proofs.response.activity_type.Goals as goal

pub returns : goal.returns
unfolding activity_type
returns c =
    IfOk-weaker c.required_text.result _ _ (λ activity same. same ∙ ap needed (c.field.ensures ∙ ap (field (codes "name")) c.field-named.ensures)) c.required_text.ensures
