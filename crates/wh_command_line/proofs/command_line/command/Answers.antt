use Rattle.wh_command_line.specs.Lines.{program, explain, query, check, trial, serve, work}
use Rattle.wh_command_line.specs.Replays.{replay}
use Rattle.wh_command_line.proofs.command_line.command.Goals as goal

pub returns : goal.returns
unfolding program
returns c =
    let first = c.with_subcommand-program.ensures _ replay c.program_alone.ensures c.replay.ensures in
    let second = c.with_subcommand-program-2.ensures _ explain first c.explain.ensures in
    let third = c.with_subcommand-program-3.ensures _ query second c.query.ensures in
    let fourth = c.with_subcommand-program-4.ensures _ check third c.check.ensures in
    let fifth = c.with_subcommand-program-5.ensures _ trial fourth c.trial.ensures in
    let sixth = c.with_subcommand-program-6.ensures _ serve fifth c.serve.ensures in
    c.with_subcommand.ensures _ work sixth c.work.ensures
