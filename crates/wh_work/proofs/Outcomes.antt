-- What becomes of tasks adds up.
use Rattle.std.proofs.Common.{◌≡◌, ℕ, ◌+◌, ◌-◌, ◌<◌, ◌≤◌, ◌^◌, min, arith}
use Rattle.wh_work.specs.Untaken.{OutcomesAddUp}

-- the same of numbers: so many tasks were taken, and the host counts so many as completed, failed and in hand; so many
-- answers were not found, invalid and lost, of which so many completed their task
adds_up : (taken completed failed in_hand not_found invalid lost completions : ℕ) → completions ≤ completed
    → completions ≤ not_found + invalid → not_found + invalid + lost ≤ failed + completions → taken < 2 ^ 64
    → taken ≡ completed + failed + in_hand
    → taken ≡ (completed - completions)
    + (failed - min (min (not_found + invalid) (2 ^ 64 - 1) - completions + lost) (2 ^ 64 - 1)) + not_found
    + min (invalid + lost) (2 ^ 64 - 1) + in_hand
adds_up taken completed failed in_hand not_found invalid lost completions a b c d e = omega (arith, a, b, c, d, e)

pub outcomes_add_up : OutcomesAddUp
outcomes_add_up totals answers are small balanced =
    adds_up totals.taken totals.completed totals.failed totals.in_hand answers.not_found answers.invalid answers.lost
    answers.completions are.completions are.among are.others small balanced
