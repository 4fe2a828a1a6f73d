use Rattle.std.proofs.Common.{subst}
use Rattle.std.specs.Io.KnownBytes.{Appends}
use Rattle.std.proofs.KnownBytes.{Appends-trans}
use Rattle.std.proofs.lemmas.Result.{on_ok_weaker}
use Rattle.wh_report.proofs.Lines.{members_written}
use Rattle.wh_report.proofs.reports.write_members.Goals as goal

-- the warnings stand after the others
pub returns : goal.returns
returns g c =
    let at = g.O.Write.contents in
    let start = at c.args.writer.now in
    let between = at c.write_notes.new.writer in
    let end = at c.write_warnings.new.writer in
    on_ok_weaker c.write_warnings.result
    (λ wrote. subst (λ t. Appends start end t) (members_written c.args.own.now) (Appends-trans start between end _ _ c.in_ok-write_notes.ensures wrote))
    (rw c.get.ensures at c.write_warnings.ensures)
