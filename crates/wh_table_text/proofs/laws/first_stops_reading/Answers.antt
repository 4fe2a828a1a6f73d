use Rattle.wh_table_text.proofs.Stopping.{first_stops_reading}
use Rattle.wh_table_text.proofs.laws.first_stops_reading.Goals as goal

pub returns : goal.returns
returns c = first_stops_reading
