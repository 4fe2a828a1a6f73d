use Rattle.std.proofs.Common.{◌≡◌, List, [], length}
use Rattle.wh_messages.specs.Responses.{Page}
use Rattle.wh_client.specs.Pages.{Leads, all_members}
use Rattle.wh_client.proofs.pages.ask_first_page.Given as goal

-- the pages so far lead to the token and have no event, and their number is that of the iterations
abbrev pub invariant-loop-page : goal.invariant-loop-page
invariant-loop-page g l = record {
  before : List Page;
  lead : Leads g.L.Connection.gives l.names l.run [] before l.token;
  empty : all_members before ≡ [];
  count : length before ≡ l._page;
}
