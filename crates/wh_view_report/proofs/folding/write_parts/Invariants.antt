use Rattle.std.proofs.Common.{◌-◌, length}
use Rattle.wh_view_report.proofs.Parts.{IsPassed}
use Rattle.wh_view_report.proofs.folding.write_parts.Given as goal

-- the tasks so far are written, or are to be told of
abbrev pub invariant-loop-at : goal.invariant-loop-at
invariant-loop-at g l = IsPassed l.view l.begins l.fold l.at (g.O.Write.contents l.initial.writer) (g.O.Write.contents l.writer)

abbrev pub decreases-loop-at : goal.decreases-loop-at
decreases-loop-at g l = length l.view.events - l.at
