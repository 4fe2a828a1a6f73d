use Rattle.std.proofs.Common.{◌≡◌, ◌≢◌, ◌∙◌, ◌++◌, [], ◌∷◌, length, append_assoc, sym, ap, subst, arith, rules, map}
use Rattle.std.proofs.lemmas.List.{length_push}
use Rattle.serde_json.specs.Data.{Data}
use Rattle.std.specs.Prelude.{List, ◌==◌}
use Rattle.serde_json.specs.View.{view}
use Rattle.wh_messages.specs.Responses.{page_seen}
use Rattle.wh_client.specs.Pages.{ReadsOn, all_members}
use Rattle.wh_client.proofs.Paging.{leads_on, unread_after, unread_without_memory, reads_all, all_members-append, map-appended, none_left}
use Rattle.wh_client.proofs.pages.append_pages.Goals as goal

pub loop-page-preserved : goal.loop-page-preserved
loop-page-preserved g c =
    let before = c.loop-page.invariant in
    let page = page_seen c.in_ok-more.field-0 in
    let more : c.in_ok-more.field-0.next_page ≢ [] = search rules in
    let was : c.append.new.self.items ≡ c.loop-page.members.items ++ c.in_ok-more.field-0.members.items = search rules in
    record {
      pages = before.pages ++ page ∷ [];
      lead = leads_on g.L.Connection.gives c.args.names.now c.args.run.now c.args.token c.loop-page.token before.pages page before.lead c.in_ok-more.ensures.page more;
      appended = ap (map view) was ∙ (map-appended view c.loop-page.members.items c.in_ok-more.field-0.members.items
          ∙ (ap (λ l. l ++ page.members) before.appended
          ∙ (append_assoc (map view c.args.members.now.items) (all_members before.pages) page.members
          ∙ ap (λ l. map view c.args.members.now.items ++ l) (sym (all_members-append before.pages page)))));
      count = omega (arith, length_push before.pages page, before.count);
    }

pub returns-then-is_empty-clause-appended : goal.returns-then-is_empty-clause-appended
returns-then-is_empty-clause-appended g c =
    let before = c.loop-page.invariant in
    let page = page_seen c.in_ok-more.field-0 in
    let ends = none_left c.in_ok-more.field-0.next_page (ap (λ l. length l == 0) (sym c.get.ensures) ∙ (sym c.is_empty.ensures ∙ c.if-is_empty.true)) in
    let was : c.append.new.self.items ≡ c.loop-page.members.items ++ c.in_ok-more.field-0.members.items = search rules in
    let seen : map view c.append.new.self.items ≡ map view c.loop-page.members.items ++ page.members = ap (map view) was ∙ map-appended view c.loop-page.members.items c.in_ok-more.field-0.members.items in
    subst (λ (l : List Data). ReadsOn g.L.Connection.gives c.args.names.now c.args.run.now c.args.token (map view c.args.members.now.items) l) (sym seen)
    (reads_all g.L.Connection.gives c.args.names.now c.args.run.now c.args.token c.loop-page.token before.pages page (map view c.args.members.now.items) (map view c.loop-page.members.items) before.lead c.in_ok-more.ensures.page ends before.appended)

-- the pages so far lead to the token whose page could not be fetched
pub returns-in_err-more-clause-failed : goal.returns-in_err-more-clause-failed
returns-in_err-more-clause-failed g c =
    let before = c.loop-page.invariant in
    unread_after g.L.Connection.gives g.L.Connection.fails c.args.names.now c.args.run.now c.args.token before.pages c.loop-page.token c.in_err-more.field-0.0 c.from_residual.result
    before.lead c.in_err-more.ensures.failed c.from_residual.ensures.1

pub returns-in_err-append-clause-failed : goal.returns-in_err-append-clause-failed
returns-in_err-append-clause-failed g c =
    unread_without_memory g.L.Connection.gives g.L.Connection.fails c.args.names.now c.args.run.now c.args.token c.from_residual-in_err-append.result c.from_residual-in_err-append.ensures.1

-- there are as many pages as iterations
pub returns-clause-failed : goal.returns-clause-failed
returns-clause-failed g c =
    let before = c.loop-page.invariant in
    record { before = before.pages; reached = c.loop-page.token; lead = before.lead; ends = omega (arith, before.count) }
