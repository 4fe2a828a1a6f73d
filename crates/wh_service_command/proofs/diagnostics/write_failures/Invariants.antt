use Rattle.std.proofs.Common.{◌≡◌, ◌++◌, ℕ, List, None, drop}
use Rattle.std.specs.Prelude.{option_map}
use Rattle.std.specs.Io.KnownBytes.{Appends}
use Rattle.wh_service_command.specs.Diagnostics.{failure_lines}
use Rattle.wh_service_command.proofs.diagnostics.write_failures.Given as goal

-- the lines so far have been written, and the others are to follow
abbrev pub invariant-loop-index : goal.invariant-loop-index
invariant-loop-index g l =
    (done : List ℕ)
    × Appends (g.E.Write.contents l.initial.writer) (g.E.Write.contents l.writer) done
    × (failure_lines None l.failures l.fn.name ≡ done ++ failure_lines (option_map (λ one. one.now) l.before) (drop l.index l.failures) l.fn.name)
