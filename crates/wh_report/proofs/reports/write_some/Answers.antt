use Rattle.std.proofs.Common.{◌++◌, codes, subst}
use Rattle.std.specs.List.{flat_map}
use Rattle.std.specs.Io.KnownBytes.{Appends}
use Rattle.std.proofs.KnownBytes.{Appends-trans}
use Rattle.std.proofs.lemmas.Result.{on_ok_weaker}
use Rattle.wh_phrases.specs.Texts.{value_object}
use Rattle.wh_report.specs.Reports.{object_after}
use Rattle.wh_report.proofs.Lines.{warnings_written}
use Rattle.wh_report.proofs.reports.write_some.Goals as goal

-- the first, the others after it, and the end
pub returns : goal.returns
returns g c =
    let at = g.O.Write.contents in
    let start = at c.args.writer.now in
    let begun = at c.write_first.new.writer in
    let after = at c.write_after.new.writer in
    let end = at c.write.new.self in
    let first = c.args.first.now in
    let others = c.args.others.now in
    let opened = codes ",\"warnings\":[" ++ value_object first in
    let rest = flat_map object_after others in
    let both = Appends-trans start begun after opened rest c.in_ok-write_first.ensures c.in_ok-write_after.ensures in
    on_ok_weaker c.write.result
    (λ wrote. subst (λ t. Appends start end t) (warnings_written first others) (Appends-trans start after end (opened ++ rest) (codes "]") both wrote))
    c.write.ensures.bytes
