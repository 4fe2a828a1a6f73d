use Rattle.std.proofs.Common.{ℕ, List, [], ◌∷◌, append-nil}
use Rattle.std.proofs.KnownBytes.{Appends-trans}
use Rattle.std.proofs.lemmas.Grind.{flat_map-append}
use Rattle.std.specs.List.{flat_map}
use Rattle.wh_service.specs.declared.file_faults.FileFault.{FileFault}
use Rattle.wh_file_faults.specs.DetailTexts.{omitted_lines}
use Rattle.wh_service_command.proofs.diagnostics.write_faults.Goals as goal

-- the line of one more stands after those before it
pub loop-fault-preserved : goal.loop-fault-preserved
loop-fault-preserved g c =
    let line : FileFault → List ℕ = λ fault. omitted_lines fault.line fault.detail c.args.name.now in
    let text = line c.in-Some.fault in
    rw (flat_map-append line c.loop-fault.yielded (c.in-Some.fault ∷ []), append-nil text)
    (Appends-trans (g.E.Write.contents c.args.writer.now) (g.E.Write.contents c.loop-fault.writer) (g.E.Write.contents c.write_fault-written.new.writer) (flat_map line c.loop-fault.yielded) text c.loop-fault.invariant c.in_ok-written.ensures)
