use Rattle.std.proofs.Common.{◌∙◌, ap}
use Rattle.wh_explain.specs.Numbers.{left_after, number_of}
use Rattle.wh_explain_report.specs.Json.{step_objects}
use Rattle.wh_explain_report.specs.Texts.{steps_as}
use Rattle.wh_explain_report.proofs.Written.{step_written, steps_written}
use Rattle.wh_explain_report.proofs.json_lines.write_steps.Goals as goal

-- one step more is written
pub loop-step-preserved : goal.loop-step-preserved
loop-step-preserved g c =
    let left = c.loop-step.left.now in
    step_written step_objects c.args.steps.now c.loop-step.step-index c.step-item.result left _ _ (steps_as step_objects c.args.given.now c.args.steps.now) _ _ _
    c.loop-step-test.true c.step-item.is
    (c.number_of.ensures ∙ ap (λ j. number_of j left) c.job.ensures)
    (c.left_after-left.ensures ∙ ap (λ j. left_after j left) c.job-in-loop-step.ensures)
    c.in_ok-write_step.ensures c.loop-step.invariant

-- and all are in the end
pub returns : goal.returns
returns g c =
    steps_written step_objects c.args.steps.now c.loop-step.step-index c.loop-step.left.now (steps_as step_objects c.args.given.now c.args.steps.now) _ _
    c.loop-step-test.false c.loop-step.invariant
