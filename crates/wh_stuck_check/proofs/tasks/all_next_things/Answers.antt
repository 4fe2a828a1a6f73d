use Rattle.std.proofs.Common.{◌-◌, length, drop, map, ap, sym, ◌∙◌, arith}
use Rattle.wh_stuck_check.specs.Private.Seen.{name_seen, lists_seen}
use Rattle.wh_stuck_check.proofs.NextTasks.{too_many, past_end}
use Rattle.wh_stuck_check.proofs.tasks.all_next_things.Goals as goal

pub returns-then-names-things : goal.returns-then-names-things
returns-then-names-things c =
    ap lists_seen c.new.ensures.items ∙ sym (too_many c.args.names.now c.args.things.now c.if-names-things.true)

pub loop-back-init : goal.loop-back-init
loop-back-init c =
    c.in_ok-lists.ensures
    ∙ sym (past_end (map name_seen (drop (length c.args.things.now - 0) c.args.names.now)) c.args.things.now
    (length c.args.things.now - 0) (omega arith))
