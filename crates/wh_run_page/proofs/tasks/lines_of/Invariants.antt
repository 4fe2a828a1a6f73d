use Rattle.std.proofs.Common.{◌≡◌, take}
use Rattle.std.specs.List.{flat_map}
use Rattle.wh_run_page.specs.Tasks.{line_if}
use Rattle.wh_run_page.proofs.tasks.lines_of.Given as goal

-- the lines of the events so far
abbrev pub invariant-loop-event : goal.invariant-loop-event
invariant-loop-event l = l.lines.items ≡ flat_map (line_if l.view l.fault) (take l.event-index l.events)
