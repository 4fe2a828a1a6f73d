use Rattle.std.proofs.Common.{ap, subst, sym}
use Rattle.std.specs.Prelude.{◌≢◌}
use Rattle.wh_json.specs.declared.fault.ReadFault.TheVariants.{OutOfMemory as ReadMemory}
use Rattle.wh_tester.specs.declared.line.Verdict.TheVariants.{Unreadable}
use Rattle.wh_explain.specs.declared.explanation.Explanation.{Explanation}
use Rattle.wh_explain.proofs.Judged.{bare_found, difference_there, found_difference, found_verdict}
use Rattle.wh_explain.proofs.findings.replay_file.Goals as goal

pub returns-in-Ok-clause-verdict : goal.returns-in-Ok-clause-verdict
returns-in-Ok-clause-verdict g c =
    let found = bare_found g.W.Workflow.program c.args.bytes.now c.in-Ok.found c.without_tasks.result c.without_tasks.ensures c.in-Ok.ensures.found in
    found_verdict g.W.Workflow.program _ c.args.bytes.now c.without_tasks.result found (subst (λ (e : Explanation). e.verdict ≢ Unreadable ReadMemory) (sym c.without_tasks.ensures) c.in-Ok.ensures.read)

pub returns-in-Ok-clause-difference : goal.returns-in-Ok-clause-difference
returns-in-Ok-clause-difference g c known =
    found_difference g.W.Workflow.program _ c.args.bytes.now c.without_tasks.result (bare_found g.W.Workflow.program c.args.bytes.now c.in-Ok.found c.without_tasks.result c.without_tasks.ensures c.in-Ok.ensures.found)

pub returns-in-Ok-clause-found : goal.returns-in-Ok-clause-found
returns-in-Ok-clause-found g c at mismatch is =
    difference_there g.W.Workflow.program g.met.W.Workflow.lawful _ c.args.bytes.now c.without_tasks.result at mismatch
    (bare_found g.W.Workflow.program c.args.bytes.now c.in-Ok.found c.without_tasks.result c.without_tasks.ensures c.in-Ok.ensures.found) is

pub returns-in-Ok-clause-tasks : goal.returns-in-Ok-clause-tasks
returns-in-Ok-clause-tasks g c = ap (λ (e : Explanation). e.tasks) c.without_tasks.ensures
