-- Commands that are read from several fields, as functions of the fields' values.
use Rattle.std.proofs.Common.{Option, Some, option_map, codes}
use Rattle.std.specs.Result.{result_ok}
use Rattle.serde_json.specs.Data.{Data}
use Rattle.serde_json.specs.Find.{as_str}
use Rattle.wh_json.specs.Payloads.{payloads_at}
use Rattle.wh_workflow.specs.declared.command.Command.{Command}
use Rattle.wh_workflow.specs.declared.command.Command.TheVariants as commands
use Rattle.wh_commands.specs.Options.{◌>>=◌}
use Rattle.wh_commands.specs.ReadBack.{text_at}

abbrev pub activity_of : Option Data → Option Data → Option Data → Option Command
activity_of id activity input = do
  i ← id >>= as_str
  a ← activity >>= text_at (codes "name")
  option_map (commands.StartActivity i a) (result_ok (payloads_at 0 input))

abbrev pub child_of : Option Data → Option Data → Option Data → Option Command
child_of workflow_id workflow input = do
  i ← workflow_id >>= as_str
  w ← workflow >>= text_at (codes "name")
  option_map (commands.StartChild i w) (result_ok (payloads_at 0 input))

abbrev pub continued_of : Option Data → Option Data → Option Command
continued_of workflow input = do
  w ← workflow >>= text_at (codes "name")
  option_map (commands.ContinueAsNew w) (result_ok (payloads_at 0 input))
