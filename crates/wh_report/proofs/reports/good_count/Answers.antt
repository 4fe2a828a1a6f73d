use Rattle.std.proofs.Common.{◌≡◌, ◌∙◌, sym, arith}
use Rattle.std.specs.Prelude.{count_by}
use Rattle.std.proofs.lemmas.Grind.{common_steps}
use Rattle.wh_tester.specs.Report.{is_good}
use Rattle.wh_report.proofs.Lines.{count_by_map}
use Rattle.wh_report.proofs.reports.good_count.Goals as goal

pub returns : goal.returns
returns c =
    let records = c.args.records.now in
    let own : c.count.result ≡ count_by (λ one. is_good one.line.verdict) records = grind (arith, common_steps) in
    own ∙ sym (count_by_map (λ line. is_good line.verdict) (λ one. one.line) records)
