-- How queries and their answers are read.
use Rattle.std.proofs.Common.{◌≡◌, ◌≢◌, ℕ, ◌<◌, ◌^◌, List, [], ◌∷◌, codes, Some, None, refl, sym, ap, ◌∙◌, lt-ltb}
use Rattle.std.specs.Result.{result_ok}
use Rattle.serde_json.specs.Data.{Data, number, unsigned}
use Rattle.wh_events.specs.declared.event.Payload.{Payload}
use Rattle.wh_events.specs.declared.key.RunKey.{RunKey}
use Rattle.wh_json.specs.Fields.{field, list_in, number_of}
use Rattle.wh_workflow.specs.declared.queryable.QueryResult.{QueryResult}
use Rattle.wh_workflow.specs.declared.queryable.QueryResult.TheVariants.{Answered, Failed}
use Rattle.wh_commands.specs.declared.names.WorkerNames.{WorkerNames}
use Rattle.wh_commands.specs.ReadBack.{HaveBytes, payloads_of, text_at}
use Rattle.wh_commands.proofs.Lists.{list_back}
use Rattle.wh_commands.proofs.Reading.{payloads_back, some_text_is}
use Rattle.wh_messages.specs.Responses.{Page, page_in, run_in, query, query_or_task, poll_of_token, workflow_poll}
use Rattle.wh_messages.specs.Served.{IsNamed, run_result}
use Rattle.wh_workflow.specs.declared.queryable.Query.{Query}
use Rattle.wh_live_queries.specs.Polled.{Asked, number_or_zero, query_in, query_of, query_result, QueryIsRead, QueryWithTaskIsRead}
use Rattle.wh_live_queries.specs.Answers.{AnswersAreRead, AnswersDiffer, HasBytes, IsAnswer, ResultsAreRead, ResultsDiffer, query_answered, query_completed}

number_back : (n : ℕ) → n < 2 ^ 63 → number_of (number (unsigned n)) ≡ Some n
unfolding number_of
number_back n small = rw (lt-ltb n (2 ^ 63) small, lt-ltb n (2 ^ 63) small) refl

run_back : (run : RunKey) → IsNamed run → run_in (Some (run_result run)) ≡ Some run
unfolding run_in field
run_back run are = rw (some_text_is run.workflow_id are.0, some_text_is run.run_id are.1) refl

query_back : (polled : Asked) → IsNamed polled.run → polled.query.query_type ≢ [] → HaveBytes polled.query.input → polled.previous < 2 ^ 63
    → query_in polled.token (query_result polled) ≡ Some polled
unfolding query_in query_of page_in field list_in
query_back polled run query_type bytes small =
    rw (run_back polled.run run, some_text_is polled.query.query_type query_type, payloads_back polled.query.input bytes, number_back polled.previous small, list_back polled.members) refl

token_there : (token : List ℕ) (d asked : Data) → token ≢ [] → field (codes "query") (Some d) ≡ Some asked → poll_of_token d (Some token) ≡ query token d
token_there [] d asked some is = absurd (some refl)
token_there (c ∷ cs) d asked some is = ap (query_or_task (c ∷ cs) d) is

pub query_is_read : QueryIsRead
unfolding field
query_is_read polled token run query_type bytes small =
    (token_there polled.token (query_result polled) _ token refl, query_back polled run query_type bytes small)

pub query_with_task_is_read : QueryWithTaskIsRead
unfolding query_of field
query_with_task_is_read what query_type bytes = rw (some_text_is what.query_type query_type, payloads_back what.input bytes) refl

pub answers_read : AnswersAreRead
answers_read names token (Answered payloads) bytes =
    record { namespace = refl; task = refl; kind = refl; result = ap result_ok (payloads_back payloads bytes) }
answers_read names token (Failed reason) bytes = record { namespace = refl; task = refl; kind = refl; reason = refl }

some_same : {A : Type 0} (a b : A) → Some a ≡ Some b → a ≡ b
some_same a b e = cc

pub answers_differ : AnswersDiffer
answers_differ names token other_token (Answered payloads) (Answered others) bytes other_bytes e =
    let one = answers_read names token (Answered payloads) bytes in
    let two = answers_read names other_token (Answered others) other_bytes in (
      some_same token other_token (sym one.task ∙ ap (text_at (codes "taskToken")) e ∙ two.task),
      ap Answered (some_same payloads others (sym one.result ∙ ap (payloads_of (codes "queryResult")) e ∙ two.result)),
    )
answers_differ names token other_token (Failed reason) (Failed other) bytes other_bytes e =
    let one = answers_read names token (Failed reason) bytes in
    let two = answers_read names other_token (Failed other) other_bytes in (
      some_same token other_token (sym one.task ∙ ap (text_at (codes "taskToken")) e ∙ two.task),
      ap Failed (some_same reason other (sym one.reason ∙ ap (text_at (codes "errorMessage")) e ∙ two.reason)),
    )
answers_differ names token other_token (Answered payloads) (Failed other) bytes other_bytes e =
    let is = ap (text_at (codes "completedType")) e in cc
answers_differ names token other_token (Failed reason) (Answered others) bytes other_bytes e =
    let is = ap (text_at (codes "completedType")) e in cc

pub results_read : ResultsAreRead
results_read (Answered payloads) bytes = record { kind = refl; answer = ap result_ok (payloads_back payloads bytes) }
results_read (Failed reason) bytes = record { kind = refl; message = refl }

pub results_differ : ResultsDiffer
results_differ (Answered payloads) (Answered others) bytes other_bytes e =
    let one = results_read (Answered payloads) bytes in
    let two = results_read (Answered others) other_bytes in
    ap Answered (some_same payloads others (sym one.answer ∙ ap (payloads_of (codes "answer")) e ∙ two.answer))
results_differ (Failed reason) (Failed other) bytes other_bytes e =
    ap Failed (some_same reason other (ap (text_at (codes "errorMessage")) e))
results_differ (Answered payloads) (Failed other) bytes other_bytes e =
    let is = ap (text_at (codes "resultType")) e in cc
results_differ (Failed reason) (Answered others) bytes other_bytes e =
    let is = ap (text_at (codes "resultType")) e in cc

-- ---- Parts

-- a query is read from its parts
pub query_made : (token : List ℕ) (d : Data) (run : RunKey) (what : Query) (previous : ℕ) (page : Page)
    → run_in (field (codes "workflowExecution") (Some d)) ≡ Some run
    → query_of (field (codes "query") (Some d)) ≡ Some what
    → number_or_zero (field (codes "previousStartedEventId") (Some d)) ≡ Some previous
    → page_in d ≡ Some page
    → query_in token d ≡ Some (record { token = token; run = run; query = what; previous = previous; members = page.members; next_page = page.next_page })
unfolding query_in
query_made token d run what previous page is_run is_what is_previous is_page = rw (is_run, is_what, is_previous, is_page) refl

-- no query is read if the number of the last task is malformed
pub query_not_numbered : (token : List ℕ) (d : Data) (run : RunKey) (what : Query)
    → run_in (field (codes "workflowExecution") (Some d)) ≡ Some run
    → query_of (field (codes "query") (Some d)) ≡ Some what
    → number_or_zero (field (codes "previousStartedEventId") (Some d)) ≡ None
    → query_in token d ≡ None
unfolding query_in
query_not_numbered token d run what is_run is_what is_none = rw (is_run, is_what, is_none) refl
