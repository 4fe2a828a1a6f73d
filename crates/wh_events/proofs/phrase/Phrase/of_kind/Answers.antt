use Rattle.std.proofs.Common.{rules}
use Rattle.wh_events.proofs.phrase.Phrase.of_kind.Goals as goal

pub returns : goal.returns
returns c = search rules
