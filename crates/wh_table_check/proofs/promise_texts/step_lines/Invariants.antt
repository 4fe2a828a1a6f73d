use Rattle.std.proofs.Common.{◌≡◌, take}
use Rattle.std.specs.Prelude.{string_bytes}
use Rattle.wh_table_check.specs.PromiseTexts.{step_lines}
use Rattle.wh_table_check.proofs.promise_texts.step_lines.Given as goal

-- the lines so far
abbrev pub invariant-loop-step : goal.invariant-loop-step
invariant-loop-step l =
    string_bytes l.text ≡ step_lines (take l.step-index l.way)
