use Rattle.std.proofs.KnownBytes.{Appends-trans}
use Rattle.std.proofs.lemmas.Result.{on_ok_weaker}
use Rattle.wh_explain_report.specs.Explanations.{explanation_text}
use Rattle.wh_explain_report.proofs.showing.write_explanation.Goals as goal

-- the two parts are written one after another
pub returns : goal.returns
unfolding explanation_text
returns g c =
    let at = g.O.Write.contents in
    let start = at c.args.writer.now in
    let after = at c.write_unknown.new.writer in
    let told = rw (c.is_good-good.ensures, c.get.ensures) at c.write_chosen.ensures in
    on_ok_weaker c.write_chosen.result (λ chosen. Appends-trans start after _ _ _ c.in_ok-write_unknown.ensures chosen) told
