use Rattle.wh_live_queries.proofs.desk.answer_query.Goals as goal

-- the request that was sent answers the query, and was accepted
pub returns-in-Ok : goal.returns-in-Ok
returns-in-Ok g c = record {
  request = c.in_ok-request.request;
  answers = c.in_ok-request.ensures;
  discarded = c.in-Ok._discarded;
  accepted = c.in-Ok.ensures.answered;
}
