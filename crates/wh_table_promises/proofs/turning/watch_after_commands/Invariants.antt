use Rattle.std.proofs.Common.{◌≡◌, ◌≤◌, ◌+◌, ◌^◌, drop, map}
use Rattle.wh_rows.specs.Deciding.{given}
use Rattle.wh_table_promises.specs.Private.Seen.{turn_seen, standing_seen}
use Rattle.wh_table_promises.proofs.turning.watch_after_commands.Given as goal

-- the commands of the rest turn the watch as all do, and each so far has spent at most one
abbrev pub invariant-loop-template : goal.invariant-loop-template
invariant-loop-template l =
    record {
      turned : given (map turn_seen l.turns) (drop l.template-index l.templates) (standing_seen l.now)
          ≡ given (map turn_seen l.turns) l.templates (standing_seen l.initial.now);
      few : l.now.spent ≤ 2 ^ 62 + l.template-index;
    }
