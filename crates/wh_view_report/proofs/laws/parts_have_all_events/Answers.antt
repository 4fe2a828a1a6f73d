use Rattle.wh_view_report.proofs.Parts.{parts_have_all_events}
use Rattle.wh_view_report.proofs.laws.parts_have_all_events.Goals as goal

pub returns : goal.returns
returns c = parts_have_all_events
