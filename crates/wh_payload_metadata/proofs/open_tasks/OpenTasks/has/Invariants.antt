use Rattle.std.proofs.Common.{◌≡◌}
use Rattle.wh_payload_metadata.specs.Kept.{leads_to}
use Rattle.wh_payload_metadata.proofs.open_tasks.OpenTasks.has.Given as goal

abbrev pub invariant-loop-token : goal.invariant-loop-token
invariant-loop-token l = leads_to l.place l._token-iterator ≡ leads_to l.place l.self.tasks.entries
