use Rattle.std.proofs.Common.{[], drop, map, ap, ◌∙◌, Some, arith}
use Rattle.std.proofs.lemmas.List.{append-nil}
use Rattle.wh_stuck_check.specs.Private.Seen.{name_seen}
use Rattle.wh_stuck_check.proofs.Following.{past_things}
use Rattle.wh_stuck_check.proofs.moves.next_things.Goals as goal

pub returns : goal.returns
returns c =
    c.loop-place.invariant []
    (past_things (map name_seen (drop c.loop-place.place c.args.names.now)) (drop c.loop-place.place c.args.ended.now)
    c.args.things.now c.loop-place.place (omega arith))
    ∙ ap Some (append-nil c.loop-place.next.items)
