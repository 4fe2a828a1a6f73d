use Rattle.std.proofs.Common.{map, None, Some, sym}
use Rattle.serde_json.specs.View.{view}
use Rattle.wh_report.proofs.Read.{members_are, members_read, no_members_read}
use Rattle.wh_report.proofs.other_values.find_in_document.Goals as goal

-- the members of the document were read
pub returns-in-Some-clause-found : goal.returns-in-Some-clause-found
returns-in-Some-clause-found g c bytes is =
    let members = map view c.in-Some.members.now in
    c.find_with.ensures.found bytes (members_read bytes (view c.args.document.now) members c.read_members-read.result is (sym c.in-Some.ensures) c.read_members-read.ensures)
    (members_are bytes (view c.args.document.now) (Some members) is (sym c.in-Some.ensures))

pub returns-in-Some-clause-memory : goal.returns-in-Some-clause-memory
returns-in-Some-clause-memory g c bytes is =
    let members = map view c.in-Some.members.now in
    c.find_with.ensures.memory bytes (members_read bytes (view c.args.document.now) members c.read_members-read.result is (sym c.in-Some.ensures) c.read_members-read.ensures)

-- there are none
pub returns-in-None-clause-found : goal.returns-in-None-clause-found
returns-in-None-clause-found g c bytes is =
    c.find_with-in-None.ensures.found bytes (no_members_read bytes (view c.args.document.now) is (sym c.in-None.ensures))
    (members_are bytes (view c.args.document.now) None is (sym c.in-None.ensures))

pub returns-in-None-clause-memory : goal.returns-in-None-clause-memory
returns-in-None-clause-memory g c bytes is =
    c.find_with-in-None.ensures.memory bytes (no_members_read bytes (view c.args.document.now) is (sym c.in-None.ensures))
