use Rattle.std.proofs.Common.{codes, subst}
use Rattle.std.specs.Prelude.{OnOk}
use Rattle.std.specs.Io.KnownBytes.{Appends}
use Rattle.wh_diagnostics.specs.Diagnostics.{entry_line}
use Rattle.wh_diagnostics.proofs.diagnostics.write_bad_name.Goals as goal

-- the line is of the entry's name
pub returns : goal.returns
returns g c =
    let contents = g.E.Write.contents in
    subst (λ entry. OnOk c.write_entry.result (Appends (contents c.args.writer.now) (contents c.write_entry.new.writer) (entry_line c.args.dir.now entry (codes "its name is no UTF-8 text") c.args.name.now)))
    c.as_str.ensures.value c.write_entry.ensures
