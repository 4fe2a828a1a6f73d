use Rattle.std.proofs.Common.{◌≡◌, ◌≤◌, ◌+◌, ◌^◌, drop, map}
use Rattle.wh_rows.specs.Watches.{watched}
use Rattle.wh_rows.specs.Courses.{gave}
use Rattle.wh_table_promises.specs.Private.Seen.{turn_seen, standing_seen}
use Rattle.wh_table_promises.proofs.ways.all_given.Given as goal

-- the commands of the rest turn the watch as all do, and each so far has spent at most one
abbrev pub invariant-loop-command : goal.invariant-loop-command
invariant-loop-command l =
    record {
      turned : watched (map turn_seen l.turns) (standing_seen l.now) (gave (drop l.command-index l.commands))
          ≡ watched (map turn_seen l.turns) (standing_seen l.initial.now) (gave l.commands);
      few : l.now.spent ≤ 2 ^ 62 + l.command-index;
    }
