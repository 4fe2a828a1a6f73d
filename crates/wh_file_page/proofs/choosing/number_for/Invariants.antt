use Rattle.std.proofs.Common.{◌≡◌, ◌+◌, drop}
use Rattle.wh_file_page.specs.Ways.{number_from, number_for}
use Rattle.wh_file_page.proofs.choosing.number_for.Given as goal

-- no row passed so far fits
abbrev pub invariant-loop-place : goal.invariant-loop-place
invariant-loop-place l = number_from (l.place + 1) (drop l.place l.rows) l.state l.job ≡ number_for l.rows l.state l.job
