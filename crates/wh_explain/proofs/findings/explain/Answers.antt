use Rattle.wh_explain.proofs.Judged.{kept_given}
use Rattle.wh_explain.proofs.findings.explain.Goals as goal

-- what is found of the file
pub returns-clause-explained : goal.returns-clause-explained
returns-clause-explained g c =
    kept_given g.W.Workflow.program c.args.bytes.now c.find_in_bytes.result c.find_in_bytes.ensures.found c.find_in_bytes.ensures.read
