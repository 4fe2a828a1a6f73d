use Rattle.std.specs.Prelude.{Ok, Err}
use Rattle.wh_service.specs.Readings.{IsReading}
use Rattle.wh_file_faults.proofs.Collected.{all_err, all_ok, fault_in}
use Rattle.wh_service.proofs.Made.{of_files}
use Rattle.wh_service.proofs.FilesRead.{are_read}
use Rattle.wh_service.proofs.readings.read_all.Goals as goal

-- what was read of the inputs is the readings of the files that they were read as
pub returns-clause-read : goal.returns-clause-read
returns-clause-read g c =
    let inputs = c.args.inputs.items in
    let program = g.W.Workflow.program in
    all_ok c.in-Ok.parts (λ parts made. are_read (λ input file. g.F.Fn.post c.args.read (input, tt) (Ok file)) program inputs parts.0.items parts.1.items (of_files program (λ input file. g.F.Fn.post c.args.read (input, tt) (Ok file)) IsReading inputs parts.0.items parts.1.items made)) c.in-Ok.ensures.made

-- and a fault is that of an input, or of memory
pub returns-clause-fault : goal.returns-clause-fault
returns-clause-fault g c =
    all_err c.in-Ok.parts (λ fault h. fault_in (λ input fault. g.F.Fn.post c.args.read (input, tt) (Err fault)) c.args.inputs.items fault h) c.in-Ok.ensures.fault
