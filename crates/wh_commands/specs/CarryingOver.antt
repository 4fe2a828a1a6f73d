-- What a run carries over to the one that continues it.
use Rattle.std.specs.Prelude.{List, Bool, true, false, codes, Option, Some, None, option_map, slice_get}
use Rattle.serde_json.specs.Data.{Data}
use Rattle.serde_json.specs.View.{view}
use Rattle.wh_json.specs.Fields.{field}
use Rattle.wh_workflow.specs.declared.command.Command.{Command}
use Rattle.wh_workflow.specs.declared.command.Command.TheVariants as commands
use Rattle.wh_commands.specs.declared.carrying.CarriedOver.{CarriedOver}

pub record Carried : Type 0 where
  pub memo : Option Data
  pub search_attributes : Option Data
  pub retry_policy : Option Data

abbrev pub carried_seen : CarriedOver → Carried
carried_seen carried = record {
  memo = option_map view carried.memo;
  search_attributes = option_map view carried.search_attributes;
  retry_policy = option_map view carried.retry_policy;
}

abbrev pub nothing_carried : Carried
nothing_carried = record { memo = None; search_attributes = None; retry_policy = None }

-- what a run with these attributes of its first event carries over
abbrev pub carried_by : Data → Carried
carried_by attributes = record {
  memo = field (codes "memo") (Some attributes);
  search_attributes = field (codes "searchAttributes") (Some attributes);
  retry_policy = field (codes "retryPolicy") (Some attributes);
}

-- what a run carries over, by the members of its history, if the first of them starts the run
abbrev pub carried_in : List Data → Option Carried
carried_in members =
    option_map carried_by (field (codes "workflowExecutionStartedEventAttributes") (slice_get members 0))

-- the command continues the run as a new one
unfoldable pub continues : Command → Bool
continues (commands.ContinueAsNew workflow input) = true
continues _ = false
