use Rattle.wh_crew.proofs.Polling.{crews_poll_all}
use Rattle.wh_crew.proofs.laws.every_queue_is_polled.Goals as goal

pub returns : goal.returns
returns c = crews_poll_all
