use Rattle.wh_page.proofs.Tagged.{texts_are_no_tags}
use Rattle.wh_page.proofs.laws.texts_are_no_tags.Goals as goal

pub returns : goal.returns
returns c = texts_are_no_tags
