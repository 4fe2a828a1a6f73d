use Rattle.std.proofs.Common.{ap, ◌∙◌}
use Rattle.wh_json.specs.Fields.{field, text_of}
use Rattle.wh_live_queries.specs.Metadata.{text_at}
use Rattle.wh_live_queries.proofs.metadata.text_at.Goals as goal

pub returns : goal.returns
unfolding text_at
returns c =
    c.text_of.ensures ∙ ap text_of (c.field.ensures ∙ ap (field c.args.own.now) c.field-named.ensures)
