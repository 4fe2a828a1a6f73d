-- The answers to queries, and what a server reads from them.
use Rattle.std.specs.Prelude.{◌≡◌, ℕ, List, [], ◌∷◌, codes, Some, ⊤}
use Rattle.serde_json.specs.Data.{Data, string}
use Rattle.wh_events.specs.declared.event.Payload.{Payload}
use Rattle.wh_workflow.specs.declared.queryable.QueryResult.{QueryResult}
use Rattle.wh_workflow.specs.declared.queryable.QueryResult.TheVariants.{Answered, Failed}
use Rattle.wh_commands.specs.declared.names.WorkerNames.{WorkerNames}
use Rattle.wh_commands.specs.Objects.{object_of}
use Rattle.wh_commands.specs.Payloads.{payloads_written}
use Rattle.wh_commands.specs.ReadBack.{HaveBytes, payloads_of, text_at}
use Rattle.wh_messages.specs.Requests.{query_failed}
use Rattle.wh_messages.specs.ServerReads.{IsQueryFailed}

-- a query that has a result
abbrev pub query_answered : WorkerNames → List ℕ → List Payload → Data
query_answered names token payloads = object_of (
    (codes "namespace", string names.namespace) ∷ (codes "taskToken", string token)
    ∷ (codes "completedType", string (codes "QUERY_RESULT_TYPE_ANSWERED"))
    ∷ (codes "queryResult", payloads_written payloads) ∷ [])

-- the answer to the query of a token: payloads, or why there are none
abbrev pub query_completed : WorkerNames → List ℕ → QueryResult → Data
query_completed names token (Answered payloads) = query_answered names token payloads
query_completed names token (Failed reason) = query_failed names token reason

-- ---- Queries with a task

abbrev pub answered_written : List Payload → Data
answered_written payloads = object_of (
    (codes "resultType", string (codes "QUERY_RESULT_TYPE_ANSWERED")) ∷ (codes "answer", payloads_written payloads) ∷ [])

abbrev pub failed_written : List ℕ → Data
failed_written reason = object_of (
    (codes "resultType", string (codes "QUERY_RESULT_TYPE_FAILED")) ∷ (codes "errorMessage", string reason) ∷ [])

-- the result of a query that came with a task: payloads, or why there are none
abbrev pub result_written : QueryResult → Data
result_written (Answered payloads) = answered_written payloads
result_written (Failed reason) = failed_written reason

-- ---- Laws

-- a query is answered with these payloads
pub record IsQueryAnswered (names : WorkerNames) (token : List ℕ) (payloads : List Payload) (d : Data) : Type 0 where
  pub namespace : text_at (codes "namespace") d ≡ Some names.namespace
  pub task : text_at (codes "taskToken") d ≡ Some token
  pub kind : text_at (codes "completedType") d ≡ Some (codes "QUERY_RESULT_TYPE_ANSWERED")
  pub result : payloads_of (codes "queryResult") d ≡ Some payloads

-- the payloads of a result, if there are any, consist of bytes
abbrev pub HasBytes : QueryResult → Type 0
HasBytes (Answered payloads) = HaveBytes payloads
HasBytes (Failed reason) = ⊤

-- the answer has the payloads, or the reason
abbrev pub IsAnswer : WorkerNames → List ℕ → QueryResult → Data → Type 0
IsAnswer names token (Answered payloads) d = IsQueryAnswered names token payloads d
IsAnswer names token (Failed reason) d = IsQueryFailed names token reason d

-- a server reads an answer as it was written
abbrev pub AnswersAreRead : Type 0
AnswersAreRead = (names : WorkerNames) (token : List ℕ) (given : QueryResult) → HasBytes given
    → IsAnswer names token given (query_completed names token given)

-- two answers that are written alike are the same answer to the same query
abbrev pub AnswersDiffer : Type 0
AnswersDiffer = (names : WorkerNames) (token other_token : List ℕ) (given other : QueryResult)
    → HasBytes given → HasBytes other
    → query_completed names token given ≡ query_completed names other_token other
    → (token ≡ other_token) × (given ≡ other)

-- a result says that the query has these payloads
pub record IsAnsweredResult (payloads : List Payload) (d : Data) : Type 0 where
  pub kind : text_at (codes "resultType") d ≡ Some (codes "QUERY_RESULT_TYPE_ANSWERED")
  pub answer : payloads_of (codes "answer") d ≡ Some payloads

-- a result says why the query has none
pub record IsFailedResult (reason : List ℕ) (d : Data) : Type 0 where
  pub kind : text_at (codes "resultType") d ≡ Some (codes "QUERY_RESULT_TYPE_FAILED")
  pub message : text_at (codes "errorMessage") d ≡ Some reason

-- the result has the payloads, or the reason
abbrev pub IsResult : QueryResult → Data → Type 0
IsResult (Answered payloads) d = IsAnsweredResult payloads d
IsResult (Failed reason) d = IsFailedResult reason d

-- a server reads a result as it was written
abbrev pub ResultsAreRead : Type 0
ResultsAreRead = (given : QueryResult) → HasBytes given → IsResult given (result_written given)

-- two results that are written alike are the same
abbrev pub ResultsDiffer : Type 0
ResultsDiffer = (given other : QueryResult) → HasBytes given → HasBytes other
    → result_written given ≡ result_written other → given ≡ other
