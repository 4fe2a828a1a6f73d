use Rattle.std.proofs.Common.{ap}
use Rattle.std.specs.Prelude.{OnOk}
use Rattle.wh_rows.specs.Naming.{name_by}
use Rattle.wh_rows.specs.Rows.{started}
use Rattle.wh_row_rules.proofs.Texts.{naming_same}
use Rattle.wh_table_lines.proofs.runs.see_job.Goals as goal

pub returns : goal.returns
returns c = rw (← naming_same c.args.table.now.name) c.take_start.ensures
