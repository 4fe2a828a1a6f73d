use Rattle.std.proofs.Common.{map}
use Rattle.serde_json.specs.View.{view}
use Rattle.wh_file_page.proofs.Members.{members_there}
use Rattle.wh_file_page.proofs.reading.read_file.Goals as goal

pub returns-clause-read : goal.returns-clause-read
returns-clause-read c =
    c.read_as-read.ensures c.args.bytes.now
    (members_there c.args.bytes.now (view c.in_ok-document.document) (map view c.in-Some.members.now) c.in_ok-document.ensures.document c.in-Some.ensures)
