use Rattle.std.proofs.Common.{take}
use Rattle.std.specs.Io.KnownBytes.{Appends}
use Rattle.wh_diagnostics.specs.Diagnostics.{bad_name_lines}
use Rattle.wh_diagnostics.proofs.diagnostics.write_bad_names.Given as goal

-- the lines so far have been written
abbrev pub invariant-loop-entry : goal.invariant-loop-entry
invariant-loop-entry g l = Appends (g.E.Write.contents l.initial.writer) (g.E.Write.contents l.writer)
    (bad_name_lines l.dir (take l.entry-index l.entries) l.name)
