use Rattle.wh_phrases.proofs.Shown.{encodings_shown}
use Rattle.wh_phrases.proofs.laws.encodings_are_shown.Goals as goal

pub returns : goal.returns
returns c = encodings_shown
