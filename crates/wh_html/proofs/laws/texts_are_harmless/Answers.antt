use Rattle.wh_html.proofs.Harmless.{texts_are_harmless}
use Rattle.wh_html.proofs.laws.texts_are_harmless.Goals as goal

pub returns : goal.returns
returns c = texts_are_harmless
