use Rattle.std.proofs.KnownBytes.{Appends-trans}
use Rattle.std.proofs.lemmas.Result.{on_ok_weaker}
use Rattle.wh_explain_report.specs.Json.{json_explanation}
use Rattle.wh_explain_report.proofs.json_lines.write_json_explanation.Goals as goal

-- the two parts are written one after another
pub returns : goal.returns
unfolding json_explanation
returns g c =
    let at = g.O.Write.contents in
    let start = at c.args.writer.now in
    let after = at c.write_unknown.new.writer in
    let told = rw (c.selected_or_all.ensures, c.get.ensures) at c.write_tasks.ensures in
    on_ok_weaker c.write_tasks.result (λ tasks. Appends-trans start after _ _ _ c.in_ok-write_unknown.ensures tasks) told
