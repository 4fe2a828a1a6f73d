use Rattle.wh_file_page.proofs.Taking as taking
use Rattle.wh_file_page.proofs.laws.takes_what_is_followed.Goals as goal

pub returns : goal.returns
returns c = taking.takes_what_is_followed
