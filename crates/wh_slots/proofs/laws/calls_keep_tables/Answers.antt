use Rattle.wh_slots.proofs.Listing.{keep_tables, keep_places}
use Rattle.wh_slots.proofs.laws.calls_keep_tables.Goals as goal

pub returns-clause-tables : goal.returns-clause-tables
returns-clause-tables c = keep_tables

pub returns-clause-places : goal.returns-clause-places
returns-clause-places c = keep_places
