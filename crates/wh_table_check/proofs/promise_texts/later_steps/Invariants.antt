use Rattle.std.proofs.Common.{◌≡◌, ◌++◌, drop}
use Rattle.std.specs.Prelude.{string_bytes}
use Rattle.wh_table_check.specs.PromiseTexts.{later_steps}
use Rattle.wh_table_check.proofs.promise_texts.later_steps.Given as goal

-- the lines so far and those of the rest are all
abbrev pub invariant-loop-step : goal.invariant-loop-step
invariant-loop-step l =
    string_bytes l.text ++ later_steps (drop l.step-index l.steps) ≡ later_steps l.steps
