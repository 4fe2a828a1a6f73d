-- The rows of a table with numbers in place of states are the lines of the definitions.
use Rattle.wh_rows.specs.Deciding.{Line}
use Rattle.wh_table_lines.specs.declared.lines.IndexedRow.{IndexedRow as LineHeld}

-- a row with numbers in place of states
abbrev pub line_seen : LineHeld → Line
line_seen line = record {
  any = line.any;
  state = line.state;
  job = line.row.now.job;
  conditions = line.row.now.conditions;
  gives = line.row.now.gives;
  effects = line.row.now.effects;
  closes = line.closes;
  next = line.next;
}
