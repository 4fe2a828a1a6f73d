use Rattle.std.proofs.Common.{◌≡◌, take}
use Rattle.std.specs.Prelude.{string_bytes}
use Rattle.wh_table_trial.specs.Texts.{steps_text}
use Rattle.wh_table_trial.proofs.texts.steps_text.Given as goal

-- the lines so far
abbrev pub invariant-loop-step : goal.invariant-loop-step
invariant-loop-step l = string_bytes l.text ≡ steps_text (take l.step-index l.steps)
