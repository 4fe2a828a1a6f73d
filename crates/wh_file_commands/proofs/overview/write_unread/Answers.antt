use Rattle.std.proofs.Common.{◌∙◌, ◌++◌, [], ◌∷◌, ap, subst, sym}
use Rattle.std.specs.Prelude.{OnOk, codes}
use Rattle.std.specs.Io.KnownBytes.{Appends}
use Rattle.wh_file_commands.specs.Overviews.{unread_as}
use Rattle.wh_tester.specs.Report.{shown}
use Rattle.wh_file_commands.proofs.overview.write_unread.Goals as goal

-- the reason is in the words of the system
pub returns-in-Text : goal.returns-in-Text
returns-in-Text g c =
    let name = c.args.name.now in
    let contents = g.O.Write.contents in
    let same = ap (λ why. shown name ++ (codes ": unreadable, " ++ (why ++ 10 ∷ []))) c.words-why.ensures ∙ sym (ap (λ format. unread_as format name c.args.reason) c.in-Text.is) in
    subst (λ text. OnOk c.write-in-Text.result (Appends (contents c.args.writer.now) (contents c.write-in-Text.new.self) text)) same c.write-in-Text.ensures.bytes
