use Rattle.wh_page.proofs.Parts.{fault_has_a_line}
use Rattle.wh_page.proofs.laws.faults_have_lines.Goals as goal

pub returns : goal.returns
returns c = fault_has_a_line
