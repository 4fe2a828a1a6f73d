use Rattle.wh_table_commands.proofs.checking.check_input.Goals as goal

-- the table is in the input
pub returns-clause-checked : goal.returns-clause-checked
returns-clause-checked g c = record {
  file = c.in_ok-file.file;
  read = c.in_ok-file.ensures.read;
  reading = c.in-Ok.reading;
  is = c.in-Ok.ensures;
}
