use Rattle.std.proofs.KnownBytes.{Appends-trans}
use Rattle.std.proofs.lemmas.Result.{on_ok_weaker}
use Rattle.wh_explain_report.proofs.showing.write_task.Goals as goal

-- the three parts are written one after another
pub returns : goal.returns
returns g c =
    let at = g.O.Write.contents in
    let start = at c.args.writer.now in
    let after = at c.write.new.self in
    let last = at c.write_steps.new.writer in
    let number = rw c.get-at.ensures.kept at c.in_ok-write.ensures.bytes in
    let steps = rw (c.get.ensures, c.get-2.ensures) at c.in_ok-write_steps.ensures in
    on_ok_weaker c.write_ending.result (λ ending.
    Appends-trans start after _ _ _ number (Appends-trans after last _ _ _ steps (rw c.get-3.ensures at ending))) c.write_ending.ensures
