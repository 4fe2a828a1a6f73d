use Rattle.std.proofs.Common.{rules}
use Rattle.std.specs.Prelude.{◌≢◌}
use Rattle.wh_json.specs.declared.fault.ReadFault.TheVariants.{OutOfMemory}
use Rattle.wh_report.proofs.Read.{fault_read, members_none}
use Rattle.wh_report.proofs.other_values.find_in_bytes.Goals as goal

-- there is no document
pub returns-in-Err : goal.returns-in-Err
returns-in-Err g c =
    let known : c.in-Err.fault ≢ OutOfMemory = search rules in
    let is = c.in-Err.ensures.exact known in
    let bytes = c.args.bytes.now in
    let read = fault_read bytes c.in-Err.fault is known in
    record { found = c.find_with.ensures.found bytes read (members_none bytes c.in-Err.fault is); memory = c.find_with.ensures.memory bytes read }
