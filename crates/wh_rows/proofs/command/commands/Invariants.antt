use Rattle.std.proofs.Common.{◌≡◌, ◌++◌, drop, map}
use Rattle.wh_rows.specs.Tables.{template_by}
use Rattle.wh_rows.specs.Rows.{commands_of}
use Rattle.wh_rows.proofs.command.commands.Given as goal

-- the commands so far and those of the rest
abbrev pub invariant-loop-template : goal.invariant-loop-template
invariant-loop-template g l =
    l.given.items ++ commands_of (map (template_by g.T.RowText.bytes) (drop l.template-index l.templates)) l.state l.job
    ≡ commands_of (map (template_by g.T.RowText.bytes) l.templates) l.state l.job
