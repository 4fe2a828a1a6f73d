use Rattle.wh_service.proofs.Faults.{made_json}
use Rattle.wh_service.proofs.file_faults.json_fault.Goals as goal

-- the file is JSON
pub returns-in_default : goal.returns-in_default
returns-in_default c = record { named = tt; told = rw c.in_default.is at c.in_ok-found.ensures }

-- or it is not
pub returns : goal.returns
returns c = made_json c.args.name.now c.args.bytes.now c.in-Some.detail c.fault_of.result c.fault_of.ensures (rw c.in-Some.is at c.in_ok-found.ensures)
