use Rattle.std.proofs.Common.{rules}
use Rattle.wh_json.proofs.events.is_too_long.Goals as goal

pub returns : goal.returns
returns c = search rules
