use Rattle.std.proofs.Common.{◌≡◌, take}
use Rattle.std.specs.Prelude.{string_bytes}
use Rattle.wh_table_check.specs.PromiseTexts.{later_jobs}
use Rattle.wh_table_check.proofs.promise_texts.later_jobs.Given as goal

-- the jobs so far
abbrev pub invariant-loop-step : goal.invariant-loop-step
invariant-loop-step l =
    string_bytes l.text ≡ later_jobs (take l.step-index l.steps)
