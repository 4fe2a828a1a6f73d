use Rattle.std.proofs.Common.{◌≡◌, ◌≢◌, ◌++◌, [], ◌∷◌, ap, length, arith, rules, map}
use Rattle.std.specs.Prelude.{◌==◌, true}
use Rattle.std.proofs.lemmas.List.{length_push}
use Rattle.serde_json.specs.View.{view}
use Rattle.wh_messages.specs.Responses.{page_seen}
use Rattle.wh_client.proofs.Paging.{leads_on, none_left, none_more}
use Rattle.wh_client.proofs.pages.ask_first_page.Goals as goal

pub loop-page-preserved : goal.loop-page-preserved
loop-page-preserved g c =
    let before = c.loop-page.invariant in
    let page = page_seen c.in_ok-page.page in
    let more : c.in_ok-page.page.next_page ≢ [] = search rules in
    let counted : (length c.in_ok-page.page.members.items == 0) ≡ true = search rules in
    record {
      before = before.before ++ page ∷ [];
      lead = leads_on g.L.Connection.gives c.args.names.now c.args.run.now [] c.loop-page.token before.before page before.lead c.in_ok-page.ensures.page more;
      empty = none_more before.before page before.empty (ap (map view) (none_left c.in_ok-page.page.members.items counted));
      count = omega (arith, length_push before.before page, before.count);
    }

-- there are as many pages as iterations
pub returns-clause-failed : goal.returns-clause-failed
returns-clause-failed g c =
    let before = c.loop-page.invariant in
    record {
      before = before.before;
      reached = c.loop-page.token;
      lead = before.lead;
      empty = before.empty;
      ends = omega (arith, before.count);
    }
