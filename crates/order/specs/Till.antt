-- The answers of a till.
use Rattle.std.specs.Prelude.{◌≡◌, Bool, true, false, List, Option, Some, None, bytes_eq, codes, length}
use Rattle.wh_tasks.specs.WithHeartbeat.{Brings, Tells}
use Rattle.wh_events.specs.declared.event.Payload.{Payload}
use Rattle.wh_tasks.specs.Failures.{not_found}
use Rattle.wh_tasks.specs.declared.source.ActivityTask.{ActivityTask}
use Rattle.wh_tasks.specs.declared.source.ActivityAnswer.{ActivityAnswer}
use Rattle.wh_tasks.specs.declared.source.ActivityAnswer.TheVariants.{Completed, Failed}
use Rattle.order.specs.Charging.{receipt}
use Rattle.order.specs.Labels.{IsLabelsAnswer}

-- the activity is completed with its result; without one there is no such activity, and it is not retried
abbrev pub ending : Option (List Payload) → ActivityAnswer
ending (Some result) = Completed result
ending None = Failed (not_found (codes "no such activity"))

-- the receipt of a charged card; there are no other activities that send no heartbeats
abbrev pub till_answer : ActivityTask → ActivityAnswer
till_answer task = ending (receipt task.activity task.input)

-- the answer to a task that asks for labels, one for each payload, or to another task
abbrev pub Answers : (asks_for_labels : Bool) → Brings → Tells → ActivityTask → ActivityAnswer → Type 0
Answers true brings tells task answer = IsLabelsAnswer brings tells (length task.input) answer
Answers false brings tells task answer = answer ≡ till_answer task

-- a till may give this answer
abbrev pub MayAnswer : Brings → Tells → ActivityTask → ActivityAnswer → Type 0
MayAnswer brings tells task answer = Answers (bytes_eq task.activity (codes "PrintLabels")) brings tells task answer
