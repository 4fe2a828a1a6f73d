use Rattle.std.proofs.Common.{None, Some, map, refl, subst, sym}
use Rattle.serde_json.specs.View.{view}
use Rattle.wh_file_page.proofs.Members.{members_read}
use Rattle.wh_file_page.proofs.reading.read_as.Goals as goal
use Rattle.wh_file_page.specs.Readings.{IsReadAs}

pub returns-then-only_recorded : goal.returns-then-only_recorded
returns-then-only_recorded c bytes is = subst (λ only. IsReadAs only bytes None) (sym c.if-only_recorded.true) refl

pub returns-else-only_recorded : goal.returns-else-only_recorded
returns-else-only_recorded c bytes is =
    subst (λ only. IsReadAs only bytes (Some c.read_members.result)) (sym c.if-only_recorded.false)
    (members_read bytes (map view c.args.members.now) c.read_members.result is c.read_members.ensures)
