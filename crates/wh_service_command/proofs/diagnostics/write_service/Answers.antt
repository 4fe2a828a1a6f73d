use Rattle.std.proofs.Common.{◌++◌, None, codes, subst}
use Rattle.std.specs.Prelude.{not, OnOk}
use Rattle.std.specs.Io.KnownBytes.{Appends}
use Rattle.wh_service_command.specs.Diagnostics.{failure_lines, fault_lines, line_if}
use Rattle.wh_service_command.proofs.Parts.{four_reported}
use Rattle.wh_service_command.proofs.diagnostics.write_service.Goals as goal

-- the four parts stand one after the other
pub returns : goal.returns
returns g c =
    let contents = g.E.Write.contents in
    let end = c.args.end in
    let name = c.args.name.now in
    let worker = line_if (not end.faultless) (codes "a worker has a fault: a call of its source failed") name in
    let uncompared = line_if end.uncompared (codes "the last task of a recorded history is not compared with its record; replay does that") name in
    subst (λ failures. OnOk c.write_line_if-2.result (Appends (contents c.args.writer.now) (contents c.write_line_if-2.new.writer)
    (fault_lines end.file_faults.items name ++ (failure_lines None failures name ++ (worker ++ uncompared)))))
    c.as_slice.ensures.value
    (four_reported c.write_line_if-2.result (contents c.args.writer.now) (contents c.write_faults.new.writer) (contents c.write_failures.new.writer)
    (contents c.write_line_if.new.writer) (contents c.write_line_if-2.new.writer)
    (fault_lines end.file_faults.items name) (failure_lines None c.as_slice.result.now name) worker uncompared
    c.in_ok-write_faults.ensures c.in_ok-write_failures.ensures c.in_ok-write_line_if.ensures c.write_line_if-2.ensures)
