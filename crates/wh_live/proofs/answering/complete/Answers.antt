use Rattle.std.proofs.Common.{◌≡◌, true, false, inl}
use Rattle.std.specs.List.{list_any}
use Rattle.wh_commands.specs.CarryingOver.{carried_seen, continues}
use Rattle.wh_live.proofs.Receipts.{carried_on, carries_nothing}
use Rattle.wh_live.proofs.answering.complete.Goals as goal

-- nothing is carried over unless the run is continued
pub returns-then-not-continues_as_new-clause-received : goal.returns-then-not-continues_as_new-clause-received
returns-then-not-continues_as_new-clause-received g c =
    let ends : list_any continues c.args.commands.now ≡ false = cc in
    inl (carried_seen c.nothing-carried.result, carries_nothing g.L.Connection.gives c.args.client.now.options.now.names c.args.task.now.run _ _ ends c.nothing-carried.ensures, c.complete_answered.ensures.received)

pub returns-in-Ok-clause-received : goal.returns-in-Ok-clause-received
returns-in-Ok-clause-received g c =
    let goes_on : list_any continues c.args.commands.now ≡ true = cc in
    inl (carried_seen c.in-Ok.carried, carried_on g.L.Connection.gives c.args.client.now.options.now.names c.args.task.now.run _ _ goes_on c.in-Ok.ensures.carried, c.complete_answered-in-Ok.ensures.received)
