use Rattle.std.proofs.Common.{◌≡◌, drop, map}
use Rattle.wh_rows.specs.Tables.{template_by}
use Rattle.wh_rows.specs.Rows.{some_closes}
use Rattle.wh_rows.proofs.command.some_closes.Given as goal

-- no command passed so far closes the run
abbrev pub invariant-loop-template : goal.invariant-loop-template
invariant-loop-template g l =
    some_closes (map (template_by g.T.RowText.bytes) (drop l.template-index l.templates))
    ≡ some_closes (map (template_by g.T.RowText.bytes) l.templates)
