use Rattle.std.proofs.Common.{◌∙◌, sym}
use Rattle.serde_json.specs.View.{view}
use Rattle.wh_table_text.proofs.Stopping.{faultless_table}
use Rattle.wh_table_text.proofs.tables.reading_of.Goals as goal

-- a table has no fault
pub returns-in-Ok-clause-faults : goal.returns-in-Ok-clause-faults
returns-in-Ok-clause-faults c =
    c.new-in-Ok.ensures ∙ c.new.ensures.items ∙ sym (faultless_table (view c.args.value) c.in-Ok.table c.in-Ok.ensures)
