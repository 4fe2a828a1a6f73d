use Rattle.std.proofs.Common.{ap, ◌∙◌, map, drop, ◌+◌, arith}
use Rattle.wh_rows.specs.Courses.{gave}
use Rattle.wh_rows.specs.Watches.{watched}
use Rattle.wh_table_promises.specs.Private.Seen.{turn_seen, standing_seen}
use Rattle.wh_table_promises.proofs.Following.{given_on}
use Rattle.wh_table_promises.proofs.ways.all_given.Goals as goal

pub loop-command-preserved : goal.loop-command-preserved
loop-command-preserved c = record {
  turned =
      ap (λ now. watched (map turn_seen c.args.turns.now) now (gave (drop (c.loop-command.command-index + 1) c.args.commands.now)))
      c.given_by-now.ensures.given
      ∙ given_on (map turn_seen c.args.turns.now) (standing_seen c.loop-command.now) c.args.commands.now c.loop-command.command-index
      c.command-item.result c.loop-command-test.true c.command-item.is
      ∙ c.loop-command.invariant.turned;
  few = omega arith;
}
