use Rattle.std.proofs.Common.{◌≡◌, List, ◌++◌, length, map}
use Rattle.serde_json.specs.View.{view}
use Rattle.wh_messages.specs.Responses.{Page}
use Rattle.wh_client.specs.Pages.{Leads, all_members}
use Rattle.wh_client.proofs.pages.append_pages.Given as goal

-- the pages so far lead to the token, their members were appended, and their number is that of the iterations
abbrev pub invariant-loop-page : goal.invariant-loop-page
invariant-loop-page g l = record {
  pages : List Page;
  lead : Leads g.L.Connection.gives l.names l.run l.fn.token pages l.token;
  appended : map view l.members.items ≡ map view l.fn.members.items ++ all_members pages;
  count : length pages ≡ l._page;
}
