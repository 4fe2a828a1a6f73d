use Rattle.std.proofs.Common.{ap, sym, subst, ◌∙◌}
use Rattle.std.specs.Prelude.{OnOk, string_bytes}
use Rattle.std.specs.Io.KnownBytes.{Appends}
use Rattle.wh_diagnostics.specs.Diagnostics.{entry_line, path_line, reason_line}
use Rattle.wh_diagnostics.proofs.diagnostics.write_unreadable.Goals as goal

-- why the entry can't be read
pub returns-in-Some : goal.returns-in-Some
returns-in-Some g c =
    let dir = c.args.dir.now in
    let name = c.args.name.now in
    let contents = g.E.Write.contents in
    let why = c.words-why.result.now in
    let same = ap (λ entry. entry_line dir entry why name) c.as_str.ensures.value ∙ ap (λ why. entry_line dir (string_bytes c.in-Some.entry) why name) c.words-why.ensures ∙ sym (ap (λ entry. reason_line dir entry c.args.reason name) c.in-Some.is) in
    subst (λ text. OnOk c.write_entry.result (Appends (contents c.args.writer.now) (contents c.write_entry.new.writer) text)) same c.write_entry.ensures

-- and why the path can't be read
pub returns-in-None : goal.returns-in-None
returns-in-None g c =
    let dir = c.args.dir.now in
    let name = c.args.name.now in
    let contents = g.E.Write.contents in
    let same = ap (λ why. path_line dir why name) c.words-why.ensures ∙ sym (ap (λ entry. reason_line dir entry c.args.reason name) c.in-None.is) in
    subst (λ text. OnOk c.write_path.result (Appends (contents c.args.writer.now) (contents c.write_path.new.writer) text)) same c.write_path.ensures
