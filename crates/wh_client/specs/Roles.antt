-- What the workers of a role poll for.
use Rattle.std.specs.Prelude.{Bool, true, false, Option, Some, None}
use Rattle.wh_client.specs.declared.options.TaskQueueKind.{TaskQueueKind}
use Rattle.wh_client.specs.declared.options.TaskQueueKind.TheVariants.{Normal, Sticky, Activities}

-- whether the sticky queue is polled, if workflow tasks are polled for
abbrev pub polls_sticky : TaskQueueKind → Option Bool
polls_sticky Normal = Some false
polls_sticky Sticky = Some true
polls_sticky Activities = None
