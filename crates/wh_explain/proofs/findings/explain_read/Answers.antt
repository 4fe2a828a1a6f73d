use Rattle.wh_explain.proofs.Judged.{kept_given}
use Rattle.wh_explain.proofs.findings.explain_read.Goals as goal

-- what is found of the file that was read
pub returns-clause-explained : goal.returns-clause-explained
returns-clause-explained g c bytes own =
    kept_given g.W.Workflow.program bytes c.find_in_read.result (c.find_in_read.ensures.found bytes own) c.find_in_read.ensures.read
