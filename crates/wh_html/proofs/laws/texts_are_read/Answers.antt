use Rattle.wh_html.proofs.Reading.{texts_are_read}
use Rattle.wh_html.proofs.laws.texts_are_read.Goals as goal

pub returns : goal.returns
returns c = texts_are_read
