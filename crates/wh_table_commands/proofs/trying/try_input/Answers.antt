use Rattle.wh_table_commands.proofs.Steps.{input_tried}
use Rattle.wh_table_commands.proofs.trying.try_input.Goals as goal

-- the table is in the input, and the scenario in the one beside it
pub returns-clause-tried : goal.returns-clause-tried
returns-clause-tried g c =
    input_tried g.R.InputReader.gives c.args.given.now c.args.input c.in-Ok.beside c.in_ok-file.file c.try_file.result
    c.in_ok-file.ensures.read c.in-Ok.ensures c.try_file.ensures.tried
