use Rattle.wh_explain.specs.Explaining.{sent_ending, unless_refused}
use Rattle.wh_explain.specs.Numbers.{numbers_at}
use Rattle.wh_explain.specs.Private.Tasks.{explained_task}
use Rattle.wh_replay.specs.Views.{context_of}
use Rattle.wh_explain.proofs.Ends.{keeps_task}
use Rattle.wh_explain.proofs.walk.add_task.Goals as goal

pub returns : goal.returns
returns c whole keeps =
    let cut = c.args.cut.now in
    let numbers = numbers_at cut.track.now cut.previous cut.number in
    let ending = c.in_ok-ending.ending in
    record {
      kept = explained_task cut.number c.new.result c.new-2.result ending;
      keeps = keeps_task c.args.detail cut.number c.new.result c.in_ok-given.given.items numbers c.new-2.result c.args.steps.items whole ending (unless_refused c.args.refused (sent_ending cut.track.now c.args.sent.items (context_of cut).recorded))
          c.new.ensures c.new-2.ensures c.in_ok-given.ensures keeps c.in_ok-ending.ensures;
      added = c.in_ok-push.ensures.items;
    }
