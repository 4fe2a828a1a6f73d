-- How an order answers queries.
use Rattle.std.specs.Prelude.{ℕ, List, ◌∷◌, [], codes, bytes_eq, if◌then◌else◌}
use Rattle.serde_json.specs.Data.{string}
use Rattle.wh_author_tools.specs.Values.{payload_written}
use Rattle.wh_workflow.specs.Definitions.{Definitions}
use Rattle.wh_workflow.specs.Queries.{Queries, unknown_query}
use Rattle.wh_workflow.specs.declared.queryable.QueryResult.TheVariants.{Answered}
use Rattle.order.specs.declared.workflow.OrderState.{OrderState}
use Rattle.order.specs.declared.workflow.OrderState.TheVariants.{Charging, Held, Shipping, Closed}

-- the name of the order's state
abbrev pub status : OrderState → List ℕ
status (Charging parcel) = codes "charging"
status (Held parcel) = codes "held"
status (Shipping parcel) = codes "shipping"
status Closed = codes "closed"

-- an order declares the query `status` and the signal `cancel`
abbrev pub order_definitions : Definitions
order_definitions kind = record { queries = codes "status" ∷ []; signals = codes "cancel" ∷ [] }

-- the answer to a query: only `status` is known
abbrev pub order_queries : Queries OrderState
order_queries state query_type input =
    if bytes_eq query_type (codes "status") then Answered (payload_written (string (status state)) ∷ [])
    else unknown_query query_type (codes "status")
