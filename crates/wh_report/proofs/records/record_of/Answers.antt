use Rattle.std.proofs.Common.{◌≡◌, ◌≤◌, length, subst}
use Rattle.wh_json.specs.Events.{longest}
use Rattle.wh_tester.specs.declared.line.Verdict.TheVariants.{OutOfMemory}
use Rattle.wh_report.proofs.Parsed.{no_memory_is, parsed_within}
use Rattle.wh_report.proofs.records.record_of.Goals as goal

-- bytes that are parsed once more are not too long
pub returns-in-Err : goal.returns-in-Err
returns-in-Err g c =
    let program = g.W.Workflow.program in
    let own = c.no_memory.result in
    let within = subst (λ bytes. length bytes ≤ longest) c.as_slice.ensures.value
    (parsed_within program c.as_slice.result.now c.found_in-explanation.result.0.verdict c.found_in-explanation.ensures.verdict c.in-Err.ensures.memory) in
    no_memory_is c.args.options program c.args.file own
    (subst (λ name. own.line ≡ record { name = name; verdict = OutOfMemory }) c.new-name.ensures c.no_memory.ensures.line)
    c.no_memory.ensures.detail c.no_memory.ensures.warnings within
