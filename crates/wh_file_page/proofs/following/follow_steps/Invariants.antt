use Rattle.std.proofs.Common.{◌≡◌, ◌++◌, drop}
use Rattle.wh_workflow.specs.ActivationScripts.{state_after}
use Rattle.wh_table.specs.Program.{program}
use Rattle.wh_file_page.specs.Ways.{turns_over}
use Rattle.wh_file_page.proofs.following.follow_steps.Given as goal

-- the rows so far and those of the rest are all
abbrev pub invariant-loop-step : goal.invariant-loop-step
invariant-loop-step l = record {
  turns : l.turns.items ++ turns_over l.state (drop l.step-index l.steps) ≡ l.fn.turns.items ++ turns_over l.fn.state l.steps;
  state : state_after program l.state (drop l.step-index l.steps) ≡ state_after program l.fn.state l.steps;
}
