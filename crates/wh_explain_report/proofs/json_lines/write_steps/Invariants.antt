use Rattle.wh_explain_report.specs.Json.{step_objects}
use Rattle.wh_explain_report.specs.Texts.{steps_as}
use Rattle.wh_explain_report.proofs.Written.{AreWritten}
use Rattle.wh_explain_report.proofs.json_lines.write_steps.Given as goal

-- the objects so far have been written: with those of the rest they are those of all
abbrev pub invariant-loop-step : goal.invariant-loop-step
invariant-loop-step g l =
    AreWritten step_objects l.steps l.step-index l.left (steps_as step_objects l.given l.steps)
    (g.O.Write.contents l.initial.writer) (g.O.Write.contents l.writer)
