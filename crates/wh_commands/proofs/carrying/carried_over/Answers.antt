use Rattle.std.proofs.Common.{Some, ap, codes, option_map, ◌∙◌}
use Rattle.wh_json.specs.Fields.{field}
use Rattle.wh_commands.specs.CarryingOver.{carried_by}
use Rattle.wh_commands.proofs.carrying.carried_over.Goals as goal

pub returns-in_ok-carried_by-in-Some : goal.returns-in_ok-carried_by-in-Some
returns-in_ok-carried_by-in-Some c =
    ap Some c.in_ok-carried_by-in-Some.ensures
    ∙ ap (option_map carried_by) (c.in-Some.ensures ∙ ap (field (codes "workflowExecutionStartedEventAttributes")) c.first_of.ensures)

pub returns-in-None : goal.returns-in-None
returns-in-None c =
    ap (option_map carried_by) (c.in-None.ensures ∙ ap (field (codes "workflowExecutionStartedEventAttributes")) c.first_of.ensures)
