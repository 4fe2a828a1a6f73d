use Rattle.std.proofs.Common.{rules, ◌<◌, ◌^◌}
use Rattle.wh_command_line.proofs.Reasons.{if_bad}
use Rattle.wh_command_line.proofs.options.NumberOption.number.Goals as goal

pub returns-in_default-clause-bad : goal.returns-in_default-clause-bad
returns-in_default-clause-bad c =
    let fits : c.args.self.now.most < 2 ^ 64 = search rules in
    if_bad _ c.bad_line.result (c.value_named.ensures.none c.args.self.now.least c.args.self.now.most fits c.in_default.is)

pub returns-then-number-least-clause-bad : goal.returns-then-number-least-clause-bad
returns-then-number-least-clause-bad c = search rules
