use Rattle.std.proofs.Common.{codes, Result, Ok, Err, OnOk, ap, sym, ◌∙◌, true≢false}
use Rattle.serde_json.proofs.Views.{view-Object}
use Rattle.serde_json.specs.Data.{put}
use Rattle.serde_json.specs.View.{members_view}
use Rattle.wh_messages.proofs.Results.{with_some}
use Rattle.wh_messages.proofs.request.put_results.Goals as goal

on_ok : {A E P Q : Type 0} → (P → Q) → (r : Result A E) → OnOk r P → OnOk r Q
on_ok step (Ok x) is = step is
on_ok step (Err fault) is = tt

pub returns : goal.returns
returns c =
    let before = members_view c.args.members.now.entries in
    let some = λ (none : _). true≢false (sym (c.is_empty.ensures.1 none) ∙ c.if-is_empty.false) in
    on_ok (λ is. is ∙ ap (λ d. put (codes "queryResults") d before) (view-Object c.args.results) ∙ with_some c.args.results.entries before some)
    c.put.result c.put.ensures.ok
