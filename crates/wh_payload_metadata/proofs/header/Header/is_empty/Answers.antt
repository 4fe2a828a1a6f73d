use Rattle.std.proofs.Common.{eqb, ap, ◌∙◌}
use Rattle.wh_payload_metadata.proofs.Setting.{none_kept}
use Rattle.wh_payload_metadata.proofs.header.Header.is_empty.Goals as goal

pub returns : goal.returns
returns c = ap (λ n. eqb n 0) c.len.ensures.len ∙ none_kept c.args.self.now.fields.entries
