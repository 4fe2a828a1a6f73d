use Rattle.std.proofs.Common.{◌≡◌, ◌∙◌, sym, arith}
use Rattle.std.specs.Prelude.{count_by, not}
use Rattle.std.proofs.lemmas.Grind.{common_steps}
use Rattle.wh_report.proofs.Lines.{count_by_map}
use Rattle.wh_tester.specs.Report.{is_good}
use Rattle.wh_replay_command.proofs.batches.fault_count.Goals as goal

pub returns : goal.returns
returns c =
    let records = c.args.records.now in
    let own : c.count.result ≡ count_by (λ one. not (is_good one.line.verdict)) records = grind (arith, common_steps) in
    own ∙ sym (count_by_map (λ faulty. faulty) (λ one. not (is_good one.line.verdict)) records)
