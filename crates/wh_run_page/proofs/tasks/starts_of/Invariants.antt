use Rattle.std.proofs.Common.{◌≡◌, take, map}
use Rattle.wh_run_page.specs.Tasks.{start_at}
use Rattle.wh_run_page.proofs.tasks.starts_of.Given as goal

-- the moments of the groups so far
abbrev pub invariant-loop-group : goal.invariant-loop-group
invariant-loop-group l = l.starts.items ≡ map (start_at l.view l.times) (take l.group-index l.groups)
