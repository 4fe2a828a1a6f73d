use Rattle.std.proofs.Common.{subst}
use Rattle.std.specs.Io.KnownBytes.{Appends}
use Rattle.std.proofs.KnownBytes.{Appends-trans}
use Rattle.std.proofs.lemmas.Result.{on_ok_weaker}
use Rattle.wh_phrases.specs.Json.{difference_members}
use Rattle.wh_phrases.proofs.Lines.{open_and_closed}
use Rattle.wh_explain_report.proofs.json_lines.write_last.Goals as goal

-- the line is open first, and the difference closes it
pub returns : goal.returns
returns g c =
    let at = g.O.Write.contents in
    let start = at c.args.writer.now in
    let after = at c.write_open_json_line.new.writer in
    let end = at c.write.new.self in
    let more = difference_members c.args.difference.now in
    let told = rw c.as_ref.ensures.value at c.write.ensures.bytes in
    on_ok_weaker c.write.result (λ rest.
    subst (λ text. Appends start end text) (open_and_closed c.args.line.now more) (Appends-trans start after end _ _ c.in_ok-write_open_json_line.ensures rest)) told
