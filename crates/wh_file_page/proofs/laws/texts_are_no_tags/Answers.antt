use Rattle.wh_file_page.proofs.Tagged as tagged
use Rattle.wh_file_page.proofs.laws.texts_are_no_tags.Goals as goal

pub returns : goal.returns
returns c = tagged.texts_are_no_tags
