use Rattle.std.proofs.Common.{rules}
use Rattle.wh_replay.proofs.replaying.replay_history.Goals as goal

pub returns-clause-replayed_tasks : goal.returns-clause-replayed_tasks
returns-clause-replayed_tasks g c = search rules

pub returns-clause-tasks : goal.returns-clause-tasks
returns-clause-tasks g c = search rules
