use Rattle.std.proofs.Common.{rules}
use Rattle.wh_file_page.proofs.Followed.{events_read, fault_read, unread}
use Rattle.wh_file_page.proofs.following.follow.Goals as goal

-- the events that were read are those of the file
pub returns-in-Ok : goal.returns-in-Ok
returns-in-Ok c bytes own =
    c.follow_events.ensures bytes
    (events_read bytes c.args.read.now c.in-Ok.events c.as_slice.result.now own c.in-Ok.is c.as_slice.ensures.value)

-- or it can't be read
pub returns-in-Err : goal.returns-in-Err
returns-in-Err c bytes own =
    let fault = c.in-Err.field-0 in
    unread bytes fault (fault_read bytes c.args.read.now fault own c.in-Err.is (search rules))
