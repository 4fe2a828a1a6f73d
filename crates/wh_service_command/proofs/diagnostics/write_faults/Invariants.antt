use Rattle.std.specs.Io.KnownBytes.{Appends}
use Rattle.wh_service_command.specs.Diagnostics.{fault_lines}
use Rattle.wh_service_command.proofs.diagnostics.write_faults.Given as goal

-- the lines so far have been written
abbrev pub invariant-loop-fault : goal.invariant-loop-fault
invariant-loop-fault g l = Appends (g.E.Write.contents l.initial.writer) (g.E.Write.contents l.writer) (fault_lines l.yielded l.fn.name)
