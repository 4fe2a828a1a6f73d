use Rattle.std.proofs.Common.{arith}
use Rattle.wh_run_page.specs.Choices.{weight}
use Rattle.wh_run_page.proofs.Chosen.{all-from, none-above}
use Rattle.wh_run_page.proofs.choosing.least_of.Goals as goal

-- all things weigh something, and none more than the most
pub loop-low-init : goal.loop-low-init
loop-low-init c =
    let weigh = weight c.args.view.now c.args.times.now c.args.fault in
    let all = all-from weigh c.args.things.now in
    let none = none-above c.args.view.now c.args.times.now c.args.fault c.args.things.now in
    record { ordered = omega arith; within = omega arith; enough = omega arith; fewer = omega arith }
