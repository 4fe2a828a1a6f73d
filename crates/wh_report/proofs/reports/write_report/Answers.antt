use Rattle.std.proofs.Common.{sym, subst}
use Rattle.std.specs.Prelude.{OnOk}
use Rattle.std.specs.Io.KnownBytes.{Appends}
use Rattle.std.proofs.KnownBytes.{Appends-trans}
use Rattle.std.proofs.lemmas.Result.{on_ok_weaker}
use Rattle.wh_report.specs.Reports.{report_as}
use Rattle.wh_report.proofs.Lines.{text_of_lines}
use Rattle.wh_report.proofs.reports.write_report.Goals as goal

-- the lines, and after them the totals
pub returns-in_ok-write_lines-in-Text : goal.returns-in_ok-write_lines-in-Text
returns-in_ok-write_lines-in-Text g c =
    let at = g.O.Write.contents in
    let start = at c.args.writer.now in
    let after = at c.write_lines.new.writer in
    let end = at c.write_totals.new.writer in
    let records = c.args.records.now in
    let text = text_of_lines records c.good_count-good.result c.good_count-good.ensures in
    subst (λ format. OnOk c.write_totals.result (Appends start end (report_as format records))) (sym c.in-Text.is)
    (on_ok_weaker c.write_totals.result (λ totals. subst (λ t. Appends start end t) text (Appends-trans start after end _ _ c.in_ok-write_lines-in-Text.ensures totals)) c.write_totals.ensures)
