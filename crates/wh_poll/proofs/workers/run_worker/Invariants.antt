use Rattle.std.proofs.Common.{◌≡◌, List, length}
use Rattle.wh_poll.specs.Turns.{Turn, IsTurn, GoesOn, at_first}
use Rattle.wh_poll.specs.Workers.{first_rota}
use Rattle.wh_poll.proofs.Turns.{IsSoFar}
use Rattle.wh_poll.proofs.workers.run_worker.Given as goal

abbrev pub invariant-loop-turn : goal.invariant-loop-turn
invariant-loop-turn g l = record {
  seat : l.seat ≡ l.end.counted;
  so_far : IsSoFar g.S.TaskSource.fetches g.S.TaskSource.delivers g.S.TaskSource.answers g.S.TaskSource.failures
      g.S.TaskSource.comes_from g.A.ActivityHandler.may l.fn.seat l.fn.setup l._turn l.end;
  turns : (turns : List Turn) × (length turns ≡ l._turn)
      × GoesOn (IsTurn g.W.Workflow.program g.S.TaskSource.fetches g.S.TaskSource.delivers g.S.TaskSource.answers
      g.S.TaskSource.failures g.S.TaskSource.comes_from g.A.ActivityHandler.may g.O.Observer.hears)
      first_rota (at_first l.fn.seat l.fn.setup) turns l.rota l.end;
}
