use Rattle.std.proofs.Common.{◌∙◌}
use Rattle.wh_table_text.proofs.ReadOnce.{read_as, unread_as}
use Rattle.wh_table_text.proofs.tables.table_reading.Goals as goal

-- the bytes are JSON
pub returns-in-Ok : goal.returns-in-Ok
returns-in-Ok c =
    read_as c.args.bytes.now c.in-Ok.value c.reading_of.result c.in-Ok.ensures
    c.reading_of.ensures.value c.reading_of.ensures.table c.reading_of.ensures.faults

-- or they are not
pub returns-in_ok-only-in-Err-Fault : goal.returns-in_ok-only-in-Err-Fault
returns-in_ok-only-in-Err-Fault c =
    unread_as c.args.bytes.now c.in-Err-Fault.fault c.new.result (rw c.in-Err-Fault.field-0-is at c.in-Err-Fault.ensures) (c.new.ensures ∙ c.in_ok-only-in-Err-Fault.ensures)
