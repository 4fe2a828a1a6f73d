use Rattle.std.proofs.Common.{inl}
use Rattle.serde_json.specs.View.{members_view}
use Rattle.wh_live.proofs.task_queries.complete_queried.Goals as goal

-- the completion is written with the results that were given
pub returns-clause-received : goal.returns-clause-received
returns-clause-received g c =
    inl (record {
      results = members_view c.in-Ok.results.entries;
      has = c.in-Ok.ensures;
      written = c.completion_request-written.result;
      writes = c.completion_request-written.ensures;
      became = c.complete_written.ensures.received;
    })
