use Rattle.wh_explain_report.specs.Json.{pairing_object}
use Rattle.wh_explain_report.proofs.json_lines.write_pairing.Goals as goal

pub returns : goal.returns
unfolding pairing_object
returns g c = rw c.differs-differs.ensures at c.write.ensures.bytes
