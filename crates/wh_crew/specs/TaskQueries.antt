-- The results that a closure gives to the queries of a task.
use Rattle.std.specs.Prelude.{◌≡◌, List, Result, Ok, Err, Option, None, Some, String}
use Rattle.std.specs.Fn.{Shared}
use Rattle.std.specs.BTreeMap.{BTreeMap}
use Rattle.std.specs.declared.alloc.Global.{Global}
use denote.Ref.{Bor}
use Rattle.serde_json.specs.Data.{Members}
use Rattle.serde_json.specs.View.{members_view}
use Rattle.serde_json.specs.declared.value.Value.{Value}
use Rattle.wh_events.specs.declared.event.Event.{Event}
use Rattle.wh_events.specs.declared.memory.OutOfMemory.{OutOfMemory}
use Rattle.wh_workflow.specs.Definitions.{Definitions}
use Rattle.wh_workflow.specs.Queries.{Queries}
use Rattle.wh_live_queries.specs.Results.{results_beside}
use Rattle.wh_workflow.specs.Law.{Program}

-- a map of values by their names
abbrev pub Held : Type 0
Held = BTreeMap (String Global) Value

-- a call of the closure may give these results
pub record IsGivenBy {F : Type 0}
    (calls : Shared F (Global × (Bor (List Event) × (Bor Held × Unit {0}))) (Result Held OutOfMemory)) (answer : F)
    (events : List Event) (queries results : Members) : Type 0 where
  pub alloc : Global
  pub lent_events : Bor (List Event)
  pub lent_queries : Bor Held
  pub given : Held
  pub met : calls.post answer (alloc, (lent_events, (lent_queries, tt))) (Ok given)
  pub of_run : lent_events.now ≡ events
  pub of_task : members_view lent_queries.now.entries ≡ queries
  pub are : members_view given.entries ≡ results

-- a call of the closure may have no memory for the results
pub record IsRefusedBy {F : Type 0}
    (calls : Shared F (Global × (Bor (List Event) × (Bor Held × Unit {0}))) (Result Held OutOfMemory)) (answer : F)
    (events : List Event) (queries : Members) : Type 0 where
  pub alloc : Global
  pub lent_events : Bor (List Event)
  pub lent_queries : Bor Held
  pub refused : OutOfMemory
  pub met : calls.post answer (alloc, (lent_events, (lent_queries, tt))) (Err refused)
  pub of_run : lent_events.now ≡ events
  pub of_task : members_view lent_queries.now.entries ≡ queries

-- a call of the closure may come to this: it gives these results, or has no memory for any
abbrev pub ComesTo : {F : Type 0}
    → Shared F (Global × (Bor (List Event) × (Bor Held × Unit {0}))) (Result Held OutOfMemory) → F
    → List Event → Members → Option Members → Type 0
ComesTo calls answer events queries (Some results) = IsGivenBy calls answer events queries results
ComesTo calls answer events queries None = IsRefusedBy calls answer events queries

-- what is given to queries of a task are the results of the workflow's query handlers
abbrev pub AnswersByReplay : {S : Type 0} → (List Event → Members → Option Members → Type 0)
    → Program S → Queries S → Definitions → Type 0
AnswersByReplay gives_results program queries definitions = (events : List Event) (asked results : Members)
    → gives_results events asked (Some results) → results ≡ results_beside program queries definitions events asked
