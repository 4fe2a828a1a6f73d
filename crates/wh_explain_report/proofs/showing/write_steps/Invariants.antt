use Rattle.wh_explain_report.specs.Texts.{step_text, steps_as}
use Rattle.wh_explain_report.proofs.Written.{AreWritten}
use Rattle.wh_explain_report.proofs.showing.write_steps.Given as goal

-- the lines so far have been written: with those of the rest they are those of all
abbrev pub invariant-loop-step : goal.invariant-loop-step
invariant-loop-step g l =
    AreWritten step_text l.steps l.step-index l.left (steps_as step_text l.given l.steps)
    (g.O.Write.contents l.initial.writer) (g.O.Write.contents l.writer)
