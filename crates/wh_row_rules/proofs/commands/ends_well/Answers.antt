use Rattle.wh_row_rules.proofs.Ending.{goes_well_ends}
use Rattle.wh_row_rules.proofs.commands.ends_well.Goals as goal

pub loop-template-init : goal.loop-template-init
loop-template-init c = goes_well_ends c.args.templates.now
