use Rattle.std.specs.Prelude.{Ok, Err}
use Rattle.wh_service.proofs.FilesRead.{made_of_file}
use Rattle.wh_service.proofs.readings.fn.read_all.all_made.Goals as goal

-- what was read is that of the file that the input was read as
pub returns : goal.returns
returns g c =
    made_of_file g.W.Workflow.program (λ input file. g.F.Fn.post c.captures.read (input, tt) (Ok file)) (λ input fault. g.F.Fn.post c.captures.read (input, tt) (Err fault)) c.args.input c.in_ok-file.file c.read_file.result
    c.in_ok-file.ensures c.read_file.ensures.reading c.read_file.ensures.fault c.read_file.ensures.memory
