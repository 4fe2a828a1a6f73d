use Rattle.std.proofs.Common.{◌∙◌, ap, inr}
use Rattle.wh_table_commands.proofs.Refused.{no_text}
use Rattle.wh_table_commands.proofs.scenario.text_of.Goals as goal

-- the text is what the input was read as
pub returns-in-Ok-clause-read : goal.returns-in-Ok-clause-read
returns-in-Ok-clause-read g c = record {
  file = (c.in_ok-name.name, c.in_ok-name.bytes);
  read = c.in_ok-name.ensures.read;
  holds = c.new.ensures ∙ ap (λ v. v.items) c.in-Ok.ensures.ok;
}

-- or it is no text
pub returns-in-Err-clause-why : goal.returns-in-Err-clause-why
returns-in-Err-clause-why g c =
    inr (no_text g.R.InputReader.gives c.args.input (c.in_ok-name.name, c.in_ok-name.bytes) c.new-in-Err.result
    c.in_ok-name.ensures.read c.in-Err.ensures.succeeds c.new-in-Err.ensures)
