use Rattle.wh_page.proofs.Parts.{shows_its_parts}
use Rattle.wh_page.proofs.laws.pages_show_their_parts.Goals as goal

pub returns : goal.returns
returns c = shows_its_parts
