use Rattle.std.proofs.Common.{take}
use Rattle.std.specs.List.{flat_map}
use Rattle.std.specs.Io.KnownBytes.{Appends}
use Rattle.wh_explain_report.specs.Texts.{gives_line}
use Rattle.wh_explain_report.proofs.showing.write_commands.Given as goal

-- the lines so far have been written
abbrev pub invariant-loop-command : goal.invariant-loop-command
invariant-loop-command g l =
    Appends (g.O.Write.contents l.initial.writer) (g.O.Write.contents l.writer) (flat_map gives_line (take l.command-index l.commands))
