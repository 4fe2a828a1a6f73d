use Rattle.std.proofs.Common.{sym, rules}
use Rattle.serde_json.specs.View.{view}
use Rattle.wh_json.specs.Fields.{field}
use Rattle.wh_messages.specs.Responses.{page_seen, run_in}
use Rattle.wh_live_queries.specs.Polled.{query_of}
use Rattle.wh_live_queries.proofs.Reading.{query_made, query_not_numbered}
use Rattle.wh_live_queries.proofs.polled.polled_query.Goals as goal

pub returns-in_default-number_or_zero : goal.returns-in_default-number_or_zero
unfolding run_in field
returns-in_default-number_or_zero c =
    sym (query_not_numbered c.args.token (view c.args.value) c.in-Some.run' c.in-Some-2.query (search rules) (search rules) (search rules))

pub returns : goal.returns
unfolding run_in field
returns c =
    sym (query_made c.args.token (view c.args.value) c.in-Some.run' c.in-Some-2.query c.in-Some-number_or_zero.previous (page_seen c.in-Some-3.page)
    (search rules) (search rules) (search rules) (search rules))
