use Rattle.std.proofs.Common.{sym, ◌∙◌}
use Rattle.serde_json.proofs.Views.{members_len-members_view}
use Rattle.wh_payload_metadata.proofs.seen.SeenPayloads.len.Goals as goal

pub returns : goal.returns
returns c = c.len.ensures.len ∙ sym (members_len-members_view c.args.self.now.metadata.entries)
