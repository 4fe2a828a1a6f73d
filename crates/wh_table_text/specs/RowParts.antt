-- The end of a row, after its state and its job.
use Rattle.std.specs.Prelude.{ℕ, List, Result, Ok}
use Rattle.serde_json.specs.Data.{Data}
use Rattle.serde_json.specs.Find.{at}
use Rattle.wh_rows.specs.Tables.{JobPattern, Row}
use Rattle.wh_table_text.specs.declared.fault.TableFault.{TableFault}
use Rattle.wh_table_text.specs.declared.counters.NamedCounter.{NamedCounter}
use Rattle.wh_row_rules.specs.Outcome.{◌>>=◌}
use Rattle.wh_table_text.specs.Reading.{cell, conditions_at, effects_at, or_same, templates_at}

-- the row that a value describes whose state and job have been read
abbrev pub row_with : List NamedCounter → ℕ → Data → List ℕ → JobPattern → Result Row TableFault
row_with names row d state job = do
  conditions ← conditions_at names row (at 2 d)
  gives ← templates_at row (at 3 d)
  next ← cell row 4 d
  effects ← effects_at names row (at 5 d)
  Ok (record {
    state = state;
    job = job;
    conditions = conditions;
    gives = gives;
    effects = effects;
    next = or_same next;
  })
