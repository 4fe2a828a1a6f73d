use Rattle.wh_diagnostics.proofs.Counted as counted
use Rattle.wh_diagnostics.proofs.laws.batches_hold_all_files.Goals as goal

pub returns : goal.returns
returns c = counted.batches_hold_all_files
